-- The load table says of each edge how often it is crossed, so integrals grown by it are those of the rule; a drain does not change it. Assumes nothing.
use mathlib.Core.Path.{◌≡◌, sym, ap, ◌∙◌}
use mathlib.Core.List.{List, map}
use Prim.Native.Nat.{ℕ}
use lib.ListN.{get_or, length, replicate}
use lib.Ieee.{Float}
use Rattle.rules.specs.declared.Flows.{Flows}
use Rattle.rules.specs.Lists.{map_from}
use Rattle.rules.specs.Records.{own_path, path_of, with_edges, with_in_flight, with_clock, drain_noted}
use Rattle.rules.specs.Clock.{crossings_by, counts_in_loads, edge_loads, gain_busy, drained, drain_slots}
use Rattle.crossings.specs.Loads.{loads_by, loads}
use Rattle.rules.proofs.Numbered.{map_from_same, map_from_numbers}
use Rattle.crossings.proofs.Loads.{by_loads}
use Rattle.keeps.proofs.SlotsDrained.{crossings_drained}
use Rattle.keeps.proofs.EdgesDrained.{length_delivered}

-- the table, over any list of 64 edges
pub loads_are : (f : Flows) → length f.edges ≡ 64 → loads f.in_flight ≡ (edge_loads f).load
unfolding loads_by edge_loads
loads_are f places = map_from_numbers 0 (crossings_by counts_in_loads own_path f.in_flight) (replicate 64 0) f.edges (sym places)

pub busy_by_load : (f : Flows) → length f.edges ≡ 64 → (load : List ℕ) → load ≡ (edge_loads f).load → (dt : Float) → map_from 0 (λ e edge. gain_busy dt (get_or load e 0) edge) f.edges ≡ map_from 0 (λ e edge. gain_busy dt (crossings_by counts_in_loads (path_of f) f.in_flight e) edge) f.edges
busy_by_load f places load right dt =
    ap (λ (l : List ℕ). map_from 0 (λ e edge. gain_busy dt (get_or l e 0) edge) f.edges) (right ∙ sym (loads_are f places))
    ∙ by_loads f.in_flight (gain_busy dt) f.edges places

-- ---- after a drain

pub drained_places : (until : Float) (f : Flows) → length (drain_slots until f).edges ≡ length f.edges
unfolding drain_slots drain_noted with_edges with_in_flight with_clock
drained_places until f = length_delivered until f.edges f.in_flight

-- the slots cross the edges as often as before
pub drained_loads : (until : Float) (f : Flows) → length f.edges ≡ 64 → loads f.in_flight ≡ (edge_loads (drain_slots until f)).load
unfolding edge_loads drain_slots drain_noted with_edges with_in_flight with_clock loads_by
drained_loads until f places =
    map_from_numbers 0 (crossings_by counts_in_loads own_path f.in_flight) (replicate 64 0) (drain_slots until f).edges (sym (drained_places until f ∙ places))
    ∙ map_from_same 0 (λ e edge. crossings_by counts_in_loads own_path f.in_flight e) (λ e edge. crossings_by counts_in_loads own_path (map (drained until) f.in_flight) e) (drain_slots until f).edges
    (λ e edge h. sym (crossings_drained until f.in_flight e))
