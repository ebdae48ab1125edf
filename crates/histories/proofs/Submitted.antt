-- A submission that is not refused takes one free slot and counts one of its owner's kind, as its answer has a listener note. Assumes nothing.
use mathlib.Core.Path.{◌≡◌, refl, ap, ◌∙◌}
use mathlib.Core.Bool.{false, cond}
use mathlib.Core.List.{List}
use Prim.Native.Nat.{ℕ, ◌+◌, ◌<◌}
use native.Mathlib.Omega.{arith}
use lib.ListN.{length}
use lib.Ieee.{Float}
use borrow.Author.Tests.{leb-false}
use Rattle.rules.specs.declared.Owner.{Owner}
use Rattle.rules.specs.declared.Cap.{Cap}
use Rattle.rules.specs.declared.Tally.{Tally}
use Rattle.rules.specs.declared.Flows.{Flows}
use Rattle.rules.specs.Lists.{count}
use Rattle.rules.specs.Records.{owner_kind, num_in_flight, with_in_flight, with_totals, with_clock, made_stale, on_tally}
use Rattle.rules.specs.Clock.{drain_to}
use Rattle.rules.specs.Refusals.{is_full}
use Rattle.rules.specs.Submission.{submitted_transfer, placed, count_submitted, peak_taken, submitted}
use Rattle.rules.specs.Invariant.{Invariant}
use Rattle.rules.specs.Tallies.{Ledger, kind_of, note_submitted}
use Rattle.keeps.proofs.Crowd.{Who, same_count, same_length}
use Rattle.histories.proofs.Agreement.{Agrees, Unheard, agrees_unheard}
use Rattle.histories.proofs.Counters.{counts, counts_nothing, tally_at_peak, slots_on_tally}
use Rattle.histories.proofs.Slots.{count_placed}

-- a submission that meets no 7 finds a free slot, and still does after a drain
has_room : {f d : Flows} → Invariant f → Unheard f d → is_full f ≡ false → count (λ t. t.taken) d.in_flight < length d.in_flight
unfolding is_full num_in_flight
has_room {f} {d} inv u free-left =
    omega (arith, leb-false 256 (count (λ t. t.taken) f.in_flight + f.num_completed) free-left, inv.slot_places, same_count u.alike (λ (w : Who). w.taken), same_length u.alike)

module _ (id : ℕ) (owner : Owner) (path : List ℕ) (bytes : ℕ) (latency : Float) (cap : Cap) (T : Float) {f : Flows} {l : Ledger} (inv : Invariant f) (agrees : Agrees f l) where
  pub submitted_agrees : Unheard f (drain_to T f) → is_full f ≡ false → Agrees (submitted id owner path bytes latency cap T f) (note_submitted id (owner_kind owner) l)
  unfolding submitted submitted_transfer made_stale with_clock with_in_flight note_submitted peak_taken with_totals count count_submitted
  submitted_agrees u free-left =
      let a = agrees_unheard u agrees in
      let change = count_submitted bytes in
      let d = drain_to T f in
      let g = with_in_flight (placed (submitted_transfer id owner path bytes latency cap T) (on_tally owner change d).in_flight) (on_tally owner change d) in
      record {
        submitted = λ o. ap (λ (y : Tally). y.submitted) (tally_at_peak o g) ∙ counts owner change d (λ y. y.submitted) (λ y. refl) o ∙ ap (λ (n : ℕ). cond (kind_of o (owner_kind owner)) 1 0 + n) (a.submitted o);
        completed = λ o. ap (λ (y : Tally). y.completed) (tally_at_peak o g) ∙ counts_nothing owner change d (λ y. y.completed) (λ y. refl) o ∙ a.completed o;
        cancelled = λ o. ap (λ (y : Tally). y.cancelled) (tally_at_peak o g) ∙ counts_nothing owner change d (λ y. y.cancelled) (λ y. refl) o ∙ a.cancelled o;
        in_flight = λ p.
            rw (slots_on_tally owner change d, count_placed p (submitted_transfer id owner path bytes latency cap T) d.in_flight (has_room inv u free-left), a.in_flight p) refl;
      }
