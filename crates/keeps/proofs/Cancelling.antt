-- A known id stands in one slot: making that free takes one from the count of its owner's kind, which the tally of those cancelled makes good. Assumes nothing.
use Prim.Native.Nat.{ℕ, suc, ◌+◌}
use native.Mathlib.Omega.{arith}
use mathlib.Core.Path.{◌≡◌, refl, sym, ap, ◌∙◌}
use mathlib.Core.Bool.{Bool, true, false, ◌||◌, cond, true≢false}
use mathlib.Core.List.{List, [], ◌∷◌, map}
use lib.Dec.{eqb}
use borrow.Author.Tests.{eqb-true, eq-eqb}
use lib.ListN.{get_or, set}
use Rattle.rules.specs.declared.Owner.{Owner}
use Rattle.rules.specs.declared.Transfer.{Transfer}
use Rattle.rules.specs.declared.Totals.{Totals}
use Rattle.rules.specs.declared.Flows.{Flows}
use Rattle.rules.specs.Lists.{count, any}
use Rattle.rules.specs.Records.{free, has_id, of_id, contains, owner_kind, tally_of, with_in_flight, with_totals}
use Rattle.rules.specs.Clock.{drained_to_clock}
use Rattle.rules.specs.Cancel.{count_cancelled, owner_of, cancelled}
use Rattle.rules.specs.Invariant.{SoundSlot, of_kind, Invariant}
use Rattle.keeps.proofs.Parts.{CrowdSound}
use Rattle.keeps.proofs.Crowd.{Who, same_at}
use Rattle.keeps.proofs.Drained.{Owing, AllOwing, Drained, made_stale_keeps, free_slot}
use Rattle.rules.proofs.Conds.{both}
use Rattle.rules.proofs.OneChanged.{one_changed}
use Rattle.rules.proofs.Counting.{one_if, count_set, count_cleared}
use Rattle.keeps.proofs.Tally.{changed, changed_peak, on_tally_is, each_tally}
use Rattle.keeps.proofs.Slots.{other_slots, cleared, each_cleared, crowd_cleared, taken_inside}
use Rattle.keeps.proofs.Reached.{Reached}

-- The slot of an id, and whose it is.
record Holding (id : ℕ) (owner : Owner) (t : Transfer) : Type 0 where
  pub taken : t.taken ≡ true
  pub id_is : t.id ≡ id
  pub owner_is : owner ≡ t.owner

found : (id : ℕ) (slots : List Transfer) → any (has_id id) slots ≡ true → (j : ℕ) × Holding id (owner_of id slots) (get_or slots j free)
unfolding any has_id owner_of of_id
found id [] h = absurd (true≢false (sym h))
found id (t ∷ slots) h = go (has_id id t) refl (found id slots)
  where
    go : (b : Bool) → has_id id t ≡ b → (any (has_id id) slots ≡ true → (j : ℕ) × Holding id (owner_of id slots) (get_or slots j free))
        → (j : ℕ) × Holding id (cond (has_id id t) t.owner (owner_of id slots)) (get_or (t ∷ slots) j free)
    go true e rest =
        let parts = both t.taken (eqb t.id id) e in
        (0, record { taken = parts.0; id_is = eqb-true t.id id parts.1; owner_is = ap (λ (c : Bool). cond c t.owner (owner_of id slots)) e })
    go false e rest =
        let later : (false || any (has_id id) slots) ≡ true = ap (λ (c : Bool). c || any (has_id id) slots) (sym e) ∙ h in
        let r = rest later in
        (suc r.0, record { taken = r.1.taken; id_is = r.1.id_is; owner_is = ap (λ (c : Bool). cond c t.owner (owner_of id slots)) e ∙ r.1.owner_is })

-- ids differ, so one slot is made free and no other
cleared_one : (id : ℕ) {owner : Owner} (slots : List Transfer) → CrowdSound slots → (j : ℕ) → Holding id owner (get_or slots j free) → map (cleared (has_id id)) slots ≡ set slots j free
unfolding has_id
cleared_one id slots crowd j here =
    one_changed (has_id id) free free slots j (taken_inside slots j here.taken) (rw here.taken (eq-eqb (get_or slots j free).id id here.id_is)) (λ i l e.
    let parts = both (get_or slots i free).taken (eqb (get_or slots i free).id id) e in
    crowd.ids_differ i j parts.0 here.taken (eqb-true (get_or slots i free).id id parts.1 ∙ sym here.id_is))

module _ (id : ℕ) (f : Flows) (known : contains id f ≡ true) (g : Flows) (reached : Reached f.clock.now f g) where
  abbrev whose : Owner
  whose = owner_of id f.in_flight

  abbrev slots : List Transfer
  slots = map (cleared (has_id id)) g.in_flight

  abbrev counted : Totals
  counted = changed whose count_cancelled g.totals

  holding : (j : ℕ) × Holding id whose (get_or g.in_flight j free)
  unfolding contains
  holding =
      let r = found id f.in_flight known in
      let same = same_at reached.alike r.0 in
      (r.0, record { taken = ap (λ (w : Who). w.taken) same ∙ r.1.taken; id_is = ap (λ (w : Who). w.id) same ∙ r.1.id_is; owner_is = r.1.owner_is ∙ sym (ap (λ (w : Who). w.owner) same) })

  -- one of its owner's kind is gone
  fewer : (o : Owner) (b : Bool) → eqb (owner_kind whose) (owner_kind o) ≡ b → count (of_kind (owner_kind o)) slots + one_if b ≡ count (of_kind (owner_kind o)) g.in_flight
  unfolding of_kind
  fewer o b e =
      let j = holding.0 in
      let here = holding.1 in
      let step = count_set (of_kind (owner_kind o)) g.in_flight j free free (taken_inside g.in_flight j here.taken) in
      let kind : of_kind (owner_kind o) (get_or g.in_flight j free) ≡ b = rw (here.taken, ← here.owner_is) e in
      let step' = rw kind at step in
      rw (cleared_one id g.in_flight reached.drained.crowd j here) (omega (arith, step'))

  balanced : (o : Owner) → Owing [] slots o (tally_of o counted)
  unfolding count_cancelled
  balanced = each_tally count_cancelled (Owing [] slots) whose g.totals
      (λ o e. let was = reached.drained.totals.balanced o in record { accounted = omega (arith, was.accounted, fewer o true e); fits = was.fits; bytes = was.bytes })
      (λ o e. let was = reached.drained.totals.balanced o in record { accounted = omega (arith, was.accounted, fewer o false e); fits = was.fits; bytes = was.bytes })

  owing : AllOwing [] slots g.num_completed counted
  owing =
      let was = reached.drained.totals in
      let gone = count_cleared (λ t. t.taken) (has_id id) free refl g.in_flight in
      record {
        room = omega (arith, was.room, gone);
        reached = omega (arith, was.reached, gone, changed_peak count_cancelled whose g.totals);
        bound = omega (arith, was.bound, changed_peak count_cancelled whose g.totals);
        balanced = balanced;
      }

  pub cancelled_drained : Drained [] (with_in_flight slots (with_totals counted g))
  cancelled_drained =
      let was = reached.drained in
      other_slots was slots counted
      (crowd_cleared (has_id id) g.in_flight was.crowd was.each)
      (each_cleared (has_id id) (SoundSlot g) g.in_flight (free_slot g) was.each)
      owing

pub cancelled_keeps : (id : ℕ) (f : Flows) → contains id f ≡ true → Reached f.clock.now f (drained_to_clock f) → Invariant (cancelled id f)
unfolding cancelled with_in_flight with_totals
cancelled_keeps id f known reached =
    let g = drained_to_clock f in
    rw (on_tally_is count_cancelled (owner_of id f.in_flight) g) (made_stale_keeps (cancelled_drained id f known g reached))
