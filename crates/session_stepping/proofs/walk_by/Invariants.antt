-- `session_stepping::walk_by` meets its contract: each step keeps the simulator sound. Assumes nothing.
use Rattle.rules.specs.Invariant.{Invariant}
use Rattle.session_stepping.proofs.walk_by.Given as goal

abbrev pub invariant-loop : goal.invariant-loop
invariant-loop g l = Invariant l.flows
