-- `with_bytes_moved` sets each edge's sum in place. Assumes nothing.
use mathlib.Core.Path.{◌≡◌}
use mathlib.Core.List.{◌++◌, List}
use Prim.Native.Nat.{ℕ}
use lib.Ieee.{Float}
use lib.ListN.{length, get_or, take, drop}
use Rattle.doubles.specs.Doubles.{nought}
use Rattle.rules.specs.declared.Edge.{Edge}
use Rattle.rules.specs.Lists.{map_from}
use Rattle.draining.specs.Credits.{with_moved}
use Rattle.draining.proofs.with_bytes_moved.Given as goal

abbrev pub moved_at : List Float → ℕ → Edge → Edge
moved_at moved e edge = with_moved (get_or moved e nought) edge

abbrev pub invariant-loop-e : goal.invariant-loop-e
invariant-loop-e l = (length l.after ≡ 64) × (take l.e l.after ++ map_from l.e (moved_at l.moved) (drop l.e l.after) ≡ map_from 0 (moved_at l.moved) l.initial.after)
