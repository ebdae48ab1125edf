-- `gain_busy_all` puts each edge through `gain_busy` in place. Assumes nothing.
use mathlib.Core.Path.{◌≡◌}
use mathlib.Core.List.{◌++◌, List}
use Prim.Native.Nat.{ℕ}
use lib.Ieee.{Float}
use lib.ListN.{length, get_or, take, drop}
use Rattle.rules.specs.declared.Edge.{Edge}
use Rattle.rules.specs.Lists.{map_from}
use Rattle.rules.specs.Clock.{gain_busy}
use Rattle.crossings.proofs.gain_busy_all.Given as goal

abbrev pub busier : Float → List ℕ → ℕ → Edge → Edge
busier dt load e edge = gain_busy dt (get_or load e 0) edge

abbrev pub invariant-loop-e : goal.invariant-loop-e
invariant-loop-e l = (length l.after ≡ 64) × (take l.e l.after ++ map_from l.e (busier l.dt l.load) (drop l.e l.after) ≡ map_from 0 (busier l.dt l.load) l.initial.after)
