-- `route_of` copies the path: what is copied and the zeros behind it fill the places. Assumes nothing.
use Prim.Native.Nat.{◌-◌}
use lib.ListN.{take, replicate}
use mathlib.Core.List.{◌++◌}
use mathlib.Core.Path.{◌≡◌}
use Rattle.arguments.proofs.route_of.Given as goal

abbrev pub invariant-loop-i : goal.invariant-loop-i
invariant-loop-i l = l.hops ≡ take l.i l.path ++ replicate (8 - l.i) 0
