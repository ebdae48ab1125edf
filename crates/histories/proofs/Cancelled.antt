-- A cancel of a known id frees the one slot that holds it and counts one of its owner's kind, as its answer has a listener note. Assumes nothing.
use mathlib.Core.Path.{◌≡◌, refl, sym, ◌∙◌}
use mathlib.Core.Bool.{Bool, true, false, not, ◌&&◌, ◌||◌, cond, and_assoc, and_comm, and-true, and-false, true≢false}
use mathlib.Core.List.{List, [], ◌∷◌}
use Prim.Native.Nat.{ℕ, ◌+◌, ◌≤◌}
use native.Mathlib.Omega.{arith}
use lib.Dec.{eqb}
use Rattle.rules.specs.declared.Owner.{Owner}
use Rattle.rules.specs.declared.Owner.TheVariants.{Handoff}
use Rattle.rules.specs.declared.Transfer.{Transfer}
use Rattle.rules.specs.declared.Flows.{Flows}
use Rattle.rules.specs.Lists.{count, those, any}
use Rattle.rules.specs.Records.{owner_kind, has_id, of_id, contains, with_in_flight, with_clock, made_stale}
use Rattle.rules.specs.Clock.{drained_to_clock}
use Rattle.rules.specs.Cancel.{count_cancelled, owner_of, cancelled}
use Rattle.rules.specs.Invariant.{Invariant}
use Rattle.rules.specs.Tallies.{Entry, Ledger, number_of, kind_of, has_entry, without, kinds_of, note_cancelled}
use Rattle.rules.proofs.Counting.{count_map, count_same, count_those, count_append, count_split}
use Rattle.keeps.proofs.Draining.{drained_to_clock_reaches}
use Rattle.histories.proofs.Agreement.{Agrees, entry, unheard_reached, agrees_unheard}
use Rattle.histories.proofs.Counters.{counts, counts_nothing, slots_on_tally}
use Rattle.histories.proofs.Slots.{count_freed, one_holder}

-- where one slot at the most holds the id, and one does, what is asked of those that hold it is asked of that one
count_of_id : {A : Type 0} (id : ℕ) (none : A) (some : Transfer → A) (q : A → Bool) (slots : List Transfer) → any (has_id id) slots ≡ true → count (has_id id) slots ≤ 1
    → count (λ t. q (some t) && has_id id t) slots ≡ cond (q (of_id id none some slots)) 1 0
unfolding count any of_id
count_of_id id none some q [] known one = absurd (true≢false (sym known))
count_of_id id none some q (t ∷ slots) known one = go (has_id id t) known one (count_of_id id none some q slots)
  where
    go : (b : Bool) → (b || any (has_id id) slots) ≡ true → cond b 1 0 + count (has_id id) slots ≤ 1
        → (any (has_id id) slots ≡ true → count (has_id id) slots ≤ 1 → count (λ t. q (some t) && has_id id t) slots ≡ cond (q (of_id id none some slots)) 1 0)
        → cond (q (some t) && b) 1 0 + count (λ t. q (some t) && has_id id t) slots ≡ cond (q (cond b (some t) (of_id id none some slots))) 1 0
    go true known one rest = rw (and-true (q (some t))) (omega (arith, count_split (has_id id) (λ t. q (some t)) slots))
    go false known one rest = rw (and-false (q (some t))) (omega (arith, rest known (omega arith)))

module _ (id : ℕ) {f : Flows} {l : Ledger} (inv : Invariant f) (agrees : Agrees f l) (known : contains id f ≡ true) where
  -- the kinds noted under the id are the kind of its owner
  noted_kinds : (owner : Owner) → number_of owner (kinds_of id l.in_flight) ≡ cond (kind_of owner (owner_kind (owner_of id f.in_flight))) 1 0
  unfolding kinds_of has_entry has_id contains owner_of
  noted_kinds owner =
      count_map (kind_of owner) (λ (e : Entry). e.kind) (those (has_entry id) l.in_flight)
      ∙ count_those (λ e. kind_of owner e.kind) (has_entry id) l.in_flight
      ∙ agrees.in_flight (λ e. has_entry id e && kind_of owner e.kind)
      ∙ count_same _ _ f.in_flight (λ t. sym (and_assoc t.taken (eqb t.id id) (kind_of owner (owner_kind t.owner))) ∙ and_comm (t.taken && eqb t.id id) (kind_of owner (owner_kind t.owner)))
      ∙ count_of_id id Handoff (λ t. t.owner) (λ o. kind_of owner (owner_kind o)) f.in_flight known (one_holder inv id)

  pub cancelled_agrees : Agrees (cancelled id f) (note_cancelled id l)
  unfolding cancelled made_stale with_clock with_in_flight note_cancelled without has_entry has_id count_cancelled
  cancelled_agrees =
      let whose = owner_of id f.in_flight in
      let d = drained_to_clock f in
      let a = agrees_unheard (unheard_reached (drained_to_clock_reaches inv)) agrees in
      record {
        submitted = λ o. counts_nothing whose count_cancelled d (λ y. y.submitted) (λ y. refl) o ∙ a.submitted o;
        completed = λ o. counts_nothing whose count_cancelled d (λ y. y.completed) (λ y. refl) o ∙ a.completed o;
        cancelled = λ o. counts whose count_cancelled d (λ y. y.cancelled) (λ y. refl) o
            ∙ rw (← (noted_kinds o), a.cancelled o, count_append (kind_of o) (kinds_of id l.in_flight) l.cancelled) refl;
        in_flight = λ p.
            count_those p (λ e. not (has_entry id e)) l.in_flight
            ∙ a.in_flight (λ e. not (has_entry id e) && p e)
            ∙ count_same _ _ d.in_flight (λ t. go t.taken (eqb t.id id) (p (entry t)))
            ∙ sym (rw (slots_on_tally whose count_cancelled d) (count_freed p (has_id id) d.in_flight));
      }
    where
      go : (a b c : Bool) → (a && (not b && c)) ≡ (not (a && b) && (a && c))
      go true b c = refl
      go false b c = refl
