-- `hundred` keeps the simulator sound from call to call. Assumes nothing.
use Rattle.rules.specs.Invariant.{Invariant}
use Rattle.test_hundred.proofs.hundred.Given as goal

abbrev pub invariant-loop-i : goal.invariant-loop-i
invariant-loop-i g l = Invariant l.flows
