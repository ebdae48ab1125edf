-- `ensure_rates` fills where rates are stale, and what follows from the rates is worked out from the filled slots; the loads are those of the slots as they were. Assumes nothing.
use mathlib.Core.Path.{◌≡◌, ap, ◌∙◌}
use lib.Ieee.{Float}
use Rattle.clock.proofs.Kept.{rates_kept, load_kept}
use Rattle.filling.proofs.Fillable.{fillable}
use Rattle.rules.specs.declared.EdgeLoad.{EdgeLoad}
use Rattle.rules.specs.Clock.{soonest, ahead, ensure_rates, with_rates, edge_loads}
use Rattle.rules.specs.Done.{done_eps}
use Rattle.rules.specs.Records.{with_in_flight, with_edge_load, with_clock}
use Rattle.rules.proofs.Routes.{all_routes, all_room}
use Rattle.clock.proofs.ensure_rates.Goals as goal

pub recompute_rates-filled-requires : goal.recompute_rates-filled-requires
recompute_rates-filled-requires c = fillable c.args.flows.now c.requires

pub edge_loads-load-requires : goal.edge_loads-load-requires
edge_loads-load-requires c = record { routes = all_routes c.requires; room = all_room c.requires }

pub returns-then-flows : goal.returns-then-flows
unfolding ensure_rates with_rates with_in_flight with_edge_load with_clock done_eps edge_loads
returns-then-flows c =
    let flows = c.args.flows.now in
    let filled = c.recompute_rates-filled in
    let soon : c.soonest.result ≡ soonest (done_eps flows) filled.result.in_flight = c.soonest.ensures ∙ ap (λ (eps : Float). soonest eps filled.result.in_flight) c.done_eps-eps.ensures in
    let next : c.ahead-next_done_at.result ≡ ahead flows.clock.now (soonest (done_eps flows) filled.result.in_flight) = rw (c.ahead-next_done_at.ensures, soon) in
    let loads : ◌≡◌ {A = EdgeLoad} (record { load = c.edge_loads-load.result; len = flows.num_edges }) (edge_loads flows) = rw c.edge_loads-load.ensures (load_kept c.requires) in
    let both = rates_kept c.requires (rw (c.if-flows.true, ← filled.ensures.transfers, ← filled.ensures.rounds, ← next, ← loads)) in
    record { exactly = both.0; sound = both.1 }

pub returns-else-flows : goal.returns-else-flows
unfolding ensure_rates
returns-else-flows c = let both = rates_kept c.requires (rw c.if-flows.false) in record { exactly = both.0; sound = both.1 }
