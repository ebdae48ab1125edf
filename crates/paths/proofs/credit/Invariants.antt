-- `credit` adds the amount once for each crossing: the loop walks the path, one store to a crossing. Assumes nothing.
use Rattle.doubles.specs.Doubles.{◌⊕◌}
use Rattle.paths.proofs.Walk.{Walk}
use Rattle.paths.proofs.credit.Given as goal

abbrev pub invariant-loop-e : goal.invariant-loop-e
invariant-loop-e l = Walk (λ m. m ⊕ l.amount) l.path l.initial.moved l.moved l.e-index
