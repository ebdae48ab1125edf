-- While rates are up to date the load table is right. Assumes nothing.
use mathlib.Core.Path.{◌≡◌, ap}
use mathlib.Core.Bool.{false}
use Rattle.rules.specs.declared.EdgeLoad.{EdgeLoad}
use Rattle.rules.specs.declared.Flows.{Flows}
use Rattle.rules.specs.Clock.{edge_loads}
use Rattle.rules.specs.Invariant.{Invariant}

pub fresh_load : {f : Flows} → Invariant f → f.clock.rates_dirty ≡ false → f.edge_load.load ≡ (edge_loads f).load
fresh_load inv fresh = ap (λ (l : EdgeLoad). l.load) (inv.load_right fresh)
