-- While rates are up to date there are as many loads as edges. Assumes nothing.
use mathlib.Core.Path.{◌≡◌, ap}
use mathlib.Core.Bool.{false}
use Rattle.rules.specs.declared.EdgeLoad.{EdgeLoad}
use Rattle.rules.specs.declared.Flows.{Flows}
use Rattle.rules.specs.Clock.{edge_loads}
use Rattle.rules.specs.Invariant.{Invariant}

pub matched : {f : Flows} → Invariant f → f.clock.rates_dirty ≡ false → f.edge_load.len ≡ f.num_edges
unfolding edge_loads
matched inv fresh = ap (λ (l : EdgeLoad). l.len) (inv.load_right fresh)
