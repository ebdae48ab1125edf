-- An edge that is not missing has its place in the table. Assumes nothing.
use mathlib.Core.Path.{◌≡◌}
use mathlib.Core.Bool.{false}
use Prim.Native.Nat.{ℕ, ◌<◌}
use native.Mathlib.Omega.{arith}
use borrow.Author.Tests.{leb-false}
use lib.ListN.{length}
use Rattle.rules.specs.declared.Flows.{Flows}
use Rattle.rules.specs.Refusals.{no_such_edge}
use Rattle.rules.specs.Invariant.{Invariant}

pub there : {f : Flows} → Invariant f → (e : ℕ) → no_such_edge f e ≡ false → e < length f.edges
unfolding no_such_edge
there {f} inv e h = omega (arith, leb-false f.num_edges e h, inv.few_edges, inv.edge_places)
