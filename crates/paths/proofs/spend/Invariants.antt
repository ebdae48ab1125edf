-- `spend` takes the rate off once for each crossing: the loop walks the path, one store to a crossing. Assumes nothing.
use Rattle.rules.specs.Filling.{spend}
use Rattle.paths.proofs.Walk.{Walk}
use Rattle.paths.proofs.spend.Given as goal

abbrev pub invariant-loop-e : goal.invariant-loop-e
invariant-loop-e l = Walk (spend l.rate) l.path l.initial.residual l.residual l.e-index
