-- What is equal to an outcome that the rules keep sound is sound. Assumes nothing.
use mathlib.Core.Path.{◌≡◌}
use Rattle.rules.specs.declared.Outcome.{Outcome}
use Rattle.rules.specs.Invariant.{Invariant}

pub kept : {call r : Outcome} → Invariant call.flows → r ≡ call → (r ≡ call) × Invariant r.flows
kept sound e = (e, rw e sound)
