-- Bringing rates up to date, and draining to a time. (01, Clock) Definitions only.
use Rattle.std.specs.Prelude.{ℕ, zero, suc, Bool, false, ◌&&◌, cond, Float}
use mathlib.Core.List.{List, map, foldl}
use Rattle.doubles.specs.Doubles.{◌⊕◌, ◌⊖◌, ◌⊗◌, ◌≺◌, nought, smaller, whole}
use Rattle.rules.specs.declared.Delay.{Delay}
use Rattle.rules.specs.declared.Delay.TheVariants.{After, Never}
use Rattle.rules.specs.declared.NextDone.{NextDone}
use Rattle.rules.specs.declared.NextDone.TheVariants.{At, Nobody}
use Rattle.rules.specs.declared.Edge.{Edge}
use Rattle.rules.specs.declared.EdgeLoad.{EdgeLoad}
use Rattle.rules.specs.declared.Transfer.{Transfer}
use Rattle.rules.specs.declared.Flows.{Flows}
use Rattle.rules.specs.Lists.{at_each_crossing, map_from, sum, crossings}
use Rattle.rules.specs.Records.{path_of, with_edges, with_in_flight, with_edge_load, with_clock, at_time, drain_noted}
use Rattle.rules.specs.Done.{done_eps, time_to_done, sooner}
use Rattle.rules.specs.Filling.{Filling, recompute_rates}

-- ---- bring up to date

-- The smallest time to done of all in flight. (01, Clock)
unfoldable pub soonest : Float → List Transfer → Delay
soonest eps slots = foldl (λ d t. cond t.taken (sooner d (time_to_done eps t)) d) Never slots

-- The clock time that lies a delay ahead. (01, Clock)
unfoldable pub ahead : Float → Delay → NextDone
ahead now Never = Nobody
ahead now (After d) = At (now ⊕ d)

-- Whether a transfer's crossings count in the busy time of edges: all in flight do. (01, Clock)
unfoldable pub counts_in_loads : Transfer → Bool
counts_in_loads t = t.taken

-- The crossings of edge e by the transfers that pass a test. (01, Clock and Questions)
unfoldable pub crossings_by : (Transfer → Bool) → (Transfer → List ℕ) → List Transfer → ℕ → ℕ
crossings_by p path slots e = sum (map (λ t. cond (p t) (crossings e (path t)) 0) slots)

-- The crossings of each edge by all in flight, and how many edges there are. (01, Clock)
unfoldable pub edge_loads : Flows → EdgeLoad
edge_loads f = record { load = map_from 0 (λ e edge. crossings_by counts_in_loads (path_of f) f.in_flight e) f.edges; len = f.num_edges }

-- The simulator with rates as a filling gave them, and what follows from them. (01, Clock)
unfoldable pub with_rates : Filling → Flows → Flows
with_rates filling f =
    let g = with_edge_load (edge_loads f) (with_in_flight (map (λ s. s.transfer) filling.seats) f) in
    with_clock (record {
      now = f.clock.now;
      last_drain = f.clock.last_drain;
      rates_dirty = false;
      next_done_at = ahead f.clock.now (soonest (done_eps f) g.in_flight);
      rounds = filling.rounds;
    }) g

-- Rates brought up to date: a filling where they are stale, and otherwise nothing. (01, Clock)
unfoldable pub ensure_rates : Flows → Flows
ensure_rates f = cond f.clock.rates_dirty (with_rates (recompute_rates (path_of f) f.edges f.in_flight) f) f

-- ---- one transfer drained to the time T

-- What the latency takes of the time since the transfer's last drain. (01, Clock)
unfoldable pub latency_paid : Float → Transfer → Float
latency_paid T t = smaller t.latency_remaining (T ⊖ t.last_update)

-- The time that is left for bytes to flow. (01, Clock)
unfoldable pub flowing_time : Float → Transfer → Float
flowing_time T t = T ⊖ t.last_update ⊖ latency_paid T t

-- Whether the transfer moves bytes in the drain. (01, Clock)
unfoldable pub moves : Float → Transfer → Bool
moves T t = t.taken && (nought ≺ flowing_time T t && (nought ≺ t.rate && nought ≺ t.bytes_remaining))

-- The bytes that flow in that time, no more than are left. (01, Clock)
unfoldable pub bytes_flowing : Float → Transfer → Float
bytes_flowing T t = smaller (t.rate ⊗ flowing_time T t) t.bytes_remaining

-- The transfer after the drain; a free slot stays as it is. (01, Clock)
unfoldable pub drained : Float → Transfer → Transfer
drained T t =
    cond t.taken
    (record {
      taken = t.taken;
      id = t.id;
      owner = t.owner;
      path = t.path;
      latency_remaining = t.latency_remaining ⊖ latency_paid T t;
      bytes_remaining = cond (moves T t) (t.bytes_remaining ⊖ bytes_flowing T t) t.bytes_remaining;
      rate_cap = t.rate_cap;
      rate = t.rate;
      limit = t.limit;
      last_update = T;
    })
    t

-- ---- the edges

-- Some bytes more have crossed an edge. (01, Clock)
unfoldable pub gain_moved : Float → Edge → Edge
gain_moved moved e = record { capacity = e.capacity; bytes_moved = e.bytes_moved ⊕ moved; busy_transfer_seconds = e.busy_transfer_seconds }

-- What a transfer moves is added to the edges on its path, once for each crossing. (01, Clock)
unfoldable pub deliver : (Transfer → List ℕ) → Float → List Edge → Transfer → List Edge
deliver path T edges t = cond (moves T t) (at_each_crossing (path t) (gain_moved (bytes_flowing T t)) edges) edges

-- The load integral of an edge with some crossings grows by crossings times the time that passed; of another it stays. (01, Clock)
unfoldable pub gain_busy : Float → ℕ → Edge → Edge
gain_busy dt zero e = e
gain_busy dt (suc n) e = record { capacity = e.capacity; bytes_moved = e.bytes_moved; busy_transfer_seconds = e.busy_transfer_seconds ⊕ whole (suc n) ⊗ dt }

-- ---- the simulator

-- Time passes to T: load integrals grow by the crossings of all in flight, and the clock moves. (01, Clock)
unfoldable pub pass_time : Float → Flows → Flows
pass_time T f =
    let dt = T ⊖ f.clock.now in
    let busy = map_from 0 (λ e edge. gain_busy dt (crossings_by counts_in_loads (path_of f) f.in_flight e) edge) f.edges in
    at_time T (cond (nought ≺ dt) (with_edges busy f.num_edges f) f)

-- All slots drained to T, in order, the edges credited, and the time noted, with nobody in flight too. (01, Clock; 02, P10)
unfoldable pub drain_slots : Float → Flows → Flows
drain_slots T f =
    drain_noted T
    (with_in_flight (map (drained T) f.in_flight)
    (with_edges (foldl (deliver (path_of f) T) f.edges f.in_flight) f.num_edges f))

-- Drain to T: rates first, where T is past the clock; then the slots; then time passes. (01, Clock)
unfoldable pub drain_to : Float → Flows → Flows
drain_to T f = pass_time T (drain_slots T (cond (f.clock.now ≺ T) (ensure_rates f) f))

-- Drained to T, with rates up to date there, as every advance that is not quiet begins. (01, Clock)
abbrev pub settled : Float → Flows → Flows
settled T f = ensure_rates (drain_to T f)

-- The simulator drained to its clock, as every change of edges and every known cancel begins. (01, Departures)
unfoldable pub drained_to_clock : Flows → Flows
drained_to_clock f = drain_to f.clock.now f
