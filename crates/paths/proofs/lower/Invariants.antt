-- `lower` counts one less for each crossing: the loop walks the path, and a counter never falls below the crossings left. Assumes nothing.
use Prim.Native.Nat.{ℕ, ◌-◌, ◌≤◌}
use lib.ListN.{get_or, drop}
use Rattle.rules.specs.Lists.{crossings}
use Rattle.paths.proofs.Walk.{Walk}
use Rattle.paths.proofs.lower.Given as goal

abbrev pub invariant-loop-e : goal.invariant-loop-e
invariant-loop-e l = Walk (λ n. n - 1) l.path l.initial.load l.load l.e-index × ((e : ℕ) → crossings e (drop l.e-index l.path) ≤ get_or l.load e 0)
