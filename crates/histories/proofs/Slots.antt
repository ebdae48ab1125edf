-- How the transfers in flight are counted when one is placed and when some are freed, and that no two hold one id. Assumes nothing.
use mathlib.Core.Path.{◌≡◌, refl, sym, ◌∙◌}
use mathlib.Core.Bool.{Bool, true, false, not, ◌&&◌, cond, true≢false}
use mathlib.Core.List.{List, map}
use Prim.Native.Nat.{ℕ, ◌+◌, ◌≤◌, ◌<◌}
use native.Mathlib.Omega.{arith}
use lib.Dec.{eqb}
use lib.ListN.{length, get_or}
use borrow.Author.Tests.{eqb-true, eq-eqb}
use Rattle.rules.specs.declared.Transfer.{Transfer}
use Rattle.rules.specs.declared.Flows.{Flows}
use Rattle.rules.specs.Lists.{count}
use Rattle.rules.specs.Records.{free, has_id}
use Rattle.rules.specs.Submission.{placed}
use Rattle.rules.specs.Invariant.{Invariant}
use Rattle.rules.specs.Tallies.{Entry}
use Rattle.rules.proofs.Counting.{count_set, count_cleared, count_split, count_one_place}
use Rattle.keeps.proofs.Placing.{placed_somewhere}
use Rattle.histories.proofs.Agreement.{in_slot}

module _ (p : Entry → Bool) where
  -- some are freed
  pub count_freed : (leaves : Transfer → Bool) (slots : List Transfer) → count (in_slot p) (map (λ t. cond (leaves t) free t) slots) ≡ count (λ t. not (leaves t) && in_slot p t) slots
  count_freed leaves slots = omega (arith, count_cleared (in_slot p) leaves free refl slots, count_split (in_slot p) leaves slots)

  -- one is placed, where not all are taken
  pub count_placed : (t : Transfer) (slots : List Transfer) → count (λ x. x.taken) slots < length slots → count (in_slot p) (placed t slots) ≡ cond (in_slot p t) 1 0 + count (in_slot p) slots
  count_placed t slots room =
      let there = placed_somewhere t slots room in
      let was_free : in_slot p (get_or slots there.slot free) ≡ false = rw there.was_free refl in
      let one_more = count_set (in_slot p) slots there.slot t free there.inside in
      rw there.is (omega (arith, rw was_free at one_more))

-- ---- ids

pub record Holds (id : ℕ) (t : Transfer) : Type 0 where
  pub taken : t.taken ≡ true
  pub same : t.id ≡ id

pub holds_id : (id : ℕ) (t : Transfer) → has_id id t ≡ true → Holds id t
unfolding has_id
holds_id id t h = go t.taken refl h
  where
    go : (b : Bool) → t.taken ≡ b → (b && eqb t.id id) ≡ true → Holds id t
    go true e h = record { taken = e; same = eqb-true t.id id h }
    go false e h = absurd (true≢false (sym h))

pub has_own_id : (t : Transfer) → t.taken ≡ true → has_id t.id t ≡ true
unfolding has_id
has_own_id t taken = rw taken (eq-eqb t.id t.id refl)

pub one_holder : {f : Flows} → Invariant f → (id : ℕ) → count (has_id id) f.in_flight ≤ 1
one_holder {f} inv id =
    count_one_place (has_id id) f.in_flight free (λ i j a b.
    let s = holds_id id (get_or f.in_flight i free) a in
    let t = holds_id id (get_or f.in_flight j free) b in
    inv.ids_differ i j s.taken t.taken (s.same ∙ sym t.same))
