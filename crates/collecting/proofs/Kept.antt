-- What is equal to a take's outcome is sound, since a take keeps the invariant. Assumes nothing.
use mathlib.Core.Path.{◌≡◌}
use mathlib.Core.List.{List}
use Prim.Native.Nat.{ℕ}
use Rattle.rules.specs.declared.Owner.{Owner}
use Rattle.rules.specs.declared.Outcome.{Outcome}
use Rattle.rules.specs.declared.Flows.{Flows}
use Rattle.rules.specs.Queue.{take_completed}
use Rattle.rules.specs.Invariant.{Invariant}
use Rattle.keeps.proofs.Calls.{take_completed_keeps}

pub with_sound : (owner : Owner) (f : Flows) (buffer : List ℕ) {r : Outcome} {Written : Type 0} → Invariant f → r ≡ (take_completed owner f buffer).outcome → Written → (r ≡ (take_completed owner f buffer).outcome) × (Written × Invariant r.flows)
with_sound owner f buffer inv e written = (e, (written, rw e (take_completed_keeps owner f buffer inv)))
