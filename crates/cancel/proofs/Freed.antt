-- An id stands in one slot, before and after a drain, so a cancel frees the slot where the id was found; and the cancelled of a kind are fewer than the submitted while
-- one of that kind is in flight. Assumes nothing.
use Prim.Native.Nat.{ℕ, ◌+◌, ◌<◌, ◌^◌}
use native.Mathlib.Omega.{arith}
use mathlib.Core.Path.{◌≡◌, refl, ap, ◌∙◌}
use mathlib.Core.Bool.{true, ◌&&◌, cond}
use mathlib.Core.List.{map}
use lib.Dec.{eqb}
use borrow.Author.Tests.{eq-eqb}
use lib.ListN.{get_or, set}
use Rattle.rules.specs.declared.Owner.{Owner}
use Rattle.rules.specs.declared.Flows.{Flows}
use Rattle.rules.specs.Records.{free, has_id, owner_kind, tally_of, with_in_flight, with_totals, made_stale, on_tally}
use Rattle.rules.specs.Clock.{drained_to_clock}
use Rattle.rules.specs.Cancel.{count_cancelled, owner_of, cancelled}
use Rattle.rules.specs.Invariant.{of_kind, Invariant}
use Rattle.slots.specs.declared.Lookup.TheVariants.{Slot}
use Rattle.slots.specs.Lookup.{lookup}
use Rattle.slots.proofs.Found.{Found, somewhere, holds_id, one_slot}
use Rattle.keeps.proofs.Crowd.{Who, same_at, same_length}
use Rattle.rules.proofs.Counting.{count_set}
use Rattle.keeps.proofs.Tally.{on_tally_is}
use Rattle.keeps.proofs.Draining.{drained_to_clock_keeps, drained_to_clock_reaches}
use Rattle.rules.proofs.OneChanged.{one_changed}

module _ {f : Flows} (inv : Invariant f) where
  -- a slot that was found is one of the table's
  pub found_below : (id : ℕ) {i : ℕ} → lookup id f.in_flight ≡ Slot i → i < 256
  found_below id {i} e = omega (arith, inv.slot_places, (somewhere id f.in_flight i e).inside)

  -- a drain counts nobody
  pub drained_tally : (owner : Owner) → (tally_of owner (drained_to_clock f).totals).cancelled ≡ (tally_of owner f.totals).cancelled
  drained_tally owner = rw (drained_to_clock_reaches inv).totals

module _ (id i : ℕ) {f : Flows} (inv : Invariant f) (found : Found id f.in_flight i) where
  abbrev d : Flows
  d = drained_to_clock f

  -- where it stood it stands
  still_there : has_id id (get_or d.in_flight i free) ≡ true
  unfolding has_id
  still_there = ap (λ (w : Who). w.taken && eqb w.id id) (same_at (drained_to_clock_reaches inv).alike i) ∙ found.holds

  freed_is : map (λ t. cond (has_id id t) free t) d.in_flight ≡ set d.in_flight i free
  freed_is =
      one_changed (has_id id) free free d.in_flight i (omega (arith, same_length (drained_to_clock_reaches inv).alike, found.inside)) still_there (λ j l e.
      one_slot (drained_to_clock_keeps inv) id j i e still_there)

  abbrev whose : Owner
  whose = (get_or f.in_flight i free).owner

  pub cancelled_is : let counted = on_tally whose count_cancelled d in cancelled id f ≡ made_stale (with_in_flight (set counted.in_flight i free) counted)
  unfolding cancelled owner_of with_totals
  cancelled_is = rw (found.of_some free.owner (λ t. t.owner), on_tally_is count_cancelled whose d, freed_is)

  -- one of its kind is in flight, so there is room for one more cancelled
  pub room_to_cancel : (tally_of whose f.totals).cancelled + 1 < 2 ^ 64
  unfolding of_kind
  room_to_cancel =
      let t = get_or f.in_flight i free in
      let b = inv.balanced whose in
      let one : of_kind (owner_kind whose) t ≡ true = rw (holds_id id t found.holds).0 (eq-eqb (owner_kind whose) (owner_kind whose) refl) in
      let step = rw one at (count_set (of_kind (owner_kind whose)) f.in_flight i free free found.inside) in
      omega (arith, b.accounted, b.fits, step)
