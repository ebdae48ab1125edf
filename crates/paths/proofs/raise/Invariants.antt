-- `raise` counts one more for each crossing: the loop walks the path, and a counter with the crossings left never passes what it holds at the end. Assumes nothing.
use Prim.Native.Nat.{◌+◌}
use Rattle.paths.proofs.Walk.{Walk}
use Rattle.paths.proofs.raise.Given as goal

abbrev pub invariant-loop-e : goal.invariant-loop-e
invariant-loop-e l = Walk (λ n. n + 1) l.path l.initial.load l.load l.e-index
