-- What is equal to a state that the rules keep sound is sound; and the load table that a filling keeps. Assumes nothing.
use mathlib.Core.Path.{◌≡◌}
use lib.Dec.{T}
use lib.Ieee.{Float}
use Rattle.doubles.specs.Doubles.{◌≼◌}
use Rattle.rules.specs.declared.EdgeLoad.{EdgeLoad}
use Rattle.rules.specs.declared.Flows.{Flows}
use Rattle.rules.specs.Clock.{ensure_rates, drain_to, edge_loads}
use Rattle.rules.specs.Invariant.{Invariant, ClockTime}
use Rattle.crossings.specs.Loads.{loads}
use Rattle.crossings.proofs.Loads.{loads_kept}
use Rattle.keeps.proofs.Refreshing.{ensure_rates_keeps}
use Rattle.keeps.proofs.Draining.{drain_to_keeps}

pub rates_kept : {f g : Flows} → Invariant f → g ≡ ensure_rates f → (g ≡ ensure_rates f) × Invariant g
rates_kept inv e = (e, rw e (ensure_rates_keeps inv))

pub drain_kept : {f g : Flows} {until : Float} → Invariant f → ClockTime until → T (f.clock.now ≼ until) → g ≡ drain_to until f → (g ≡ drain_to until f) × Invariant g
drain_kept inv time later e = (e, rw e (drain_to_keeps inv time later))

pub load_kept : {f : Flows} → Invariant f → ◌≡◌ {A = EdgeLoad} (record { load = loads f.in_flight; len = f.num_edges }) (edge_loads f)
unfolding edge_loads
load_kept inv = rw (loads_kept inv)
