-- What a simulator holds, how its parts are read, and how one part is put in another's place. (01, Sizes) Definitions only.
-- The structs and enums are those of crates/rules/src/lib.rt, field by field. A double is a value of `lib.Ieee`, a whole number is a number without bound, and an array is a list of
-- the array's full length: 64 edges, 256 slots, 256 places of the queue. A place that nobody uses holds the blank of its kind, so that two states that mean the same are equal.
-- Worked values, for a simulator with edge 0 of capacity 10, one transfer of id 7 over edge 0 twice, and worker 3's transfer 9 waiting to be collected:
--   edges      capacity 10 at place 0, `blank_edge` at places 1 to 63;  num_edges  1
--   in_flight  at slot 0 `taken`, id 7, path hops 0 0 0 0 0 0 0 0 of which the first len = 2 count;  `free` at slots 1 to 255
--   completed  owner `Worker 3` and id 9 at place 0, `blank_completion` at places 1 to 255;  num_completed  1
--   edge_load  2 at place 0, 0 at places 1 to 63, once rates are up to date;  len  1
-- Prepared for later requests, and of no other use yet: `path_of`, which gets the simulator and reads nothing of it but the transfer's own
-- path; `counts_in_loads` (Clock), which all in flight pass; the bound on all paths together (`path_room`, Invariant).
use Rattle.std.specs.Prelude.{ℕ, ◌-◌, Bool, true, false, ◌&&◌, ◌||◌, cond, List, [], ◌∷◌, ◌++◌, eqb, ltb, length, take, replicate, Float}
use Rattle.doubles.specs.Doubles.{nought}
use Rattle.rules.specs.declared.Owner.{Owner}
use Rattle.rules.specs.declared.Owner.TheVariants.{Worker, Handoff, Write}
use Rattle.rules.specs.declared.Cap.TheVariants.{Uncapped}
use Rattle.rules.specs.declared.Limit.TheVariants.{Nowhere}
use Rattle.rules.specs.declared.NextDone.TheVariants.{Nobody}
use Rattle.rules.specs.declared.Edge.{Edge}
use Rattle.rules.specs.declared.Route.{Route}
use Rattle.rules.specs.declared.Transfer.{Transfer}
use Rattle.rules.specs.declared.Completion.{Completion}
use Rattle.rules.specs.declared.Tally.{Tally}
use Rattle.rules.specs.declared.Totals.{Totals}
use Rattle.rules.specs.declared.EdgeLoad.{EdgeLoad}
use Rattle.rules.specs.declared.Clock.{Clock}
use Rattle.rules.specs.declared.Tolerance.{Tolerance}
use Rattle.rules.specs.declared.Flows.{Flows}
use Rattle.rules.specs.Lists.{count, any}
use Rattle.rules.specs.Tolerance.{default_tolerance}

-- ---- sizes

-- The most edges there can be. (01, Sizes)
abbrev pub max_edges : ℕ
max_edges = 64

-- The most edges in a path, repeats counted. (01, Sizes)
abbrev pub max_path : ℕ
max_path = 8

-- The most that can be in flight or wait to be collected, both counted. (01, Sizes)
abbrev pub max_slots : ℕ
max_slots = 256

-- ---- blanks: what a place holds that nobody uses

-- A place of the edge table beyond the last edge. (01, Sizes)
abbrev pub blank_edge : Edge
blank_edge = record { capacity = nought; bytes_moved = nought; busy_transfer_seconds = nought }

-- A path in its eight places, zeros behind it. (01, Sizes)
unfoldable pub route : List ℕ → Route
route path = record { hops = path ++ replicate (max_path - length path) 0; len = length path }

-- A free slot. (01, Sizes)
abbrev pub free : Transfer
free = record {
  taken = false;
  id = 0;
  owner = Handoff;
  path = record { hops = replicate max_path 0; len = 0 };
  latency_remaining = nought;
  bytes_remaining = nought;
  rate_cap = Uncapped;
  rate = nought;
  limit = Nowhere;
  last_update = nought;
}

-- A place of the queue beyond the last entry. (01, Sizes)
abbrev pub blank_completion : Completion
blank_completion = record { owner = Handoff; id = 0 }

-- Nothing counted yet. (01, Sizes)
abbrev pub no_tally : Tally
no_tally = record { submitted = 0; completed = 0; cancelled = 0; bytes_submitted = nought }

-- The simulator before any call. (01, Sizes)
abbrev pub fresh : Flows
fresh = record {
  edges = replicate max_edges blank_edge;
  num_edges = 0;
  in_flight = replicate max_slots free;
  completed = replicate max_slots blank_completion;
  num_completed = 0;
  edge_load = record { load = replicate max_edges 0; len = 0 };
  clock = record { now = nought; last_drain = nought; rates_dirty = false; next_done_at = Nobody; rounds = 0 };
  totals = record { peak_in_flight = 0; worker = no_tally; handoff = no_tally; write = no_tally };
  tolerance = default_tolerance;
}

-- ---- transfers as read

-- The edges that a transfer crosses, in order. (01, Sizes)
unfoldable pub own_path : Transfer → List ℕ
own_path t = take t.path.len t.path.hops

-- How a simulator's rules read a transfer's path: the definitions of a filling, of draining and of demand 3 get this function handed over. (01, Sizes)
abbrev pub path_of : Flows → Transfer → List ℕ
path_of f = own_path

-- Whether a slot holds the transfer with that id. (01, Numbers)
unfoldable pub has_id : ℕ → Transfer → Bool
has_id id t = t.taken && eqb t.id id

-- What `some` gives of the transfer with that id, and `none` where no slot holds one. (01, Numbers and Questions)
unfoldable pub of_id : {A : Type 0} → ℕ → A → (Transfer → A) → List Transfer → A
of_id id none some [] = none
of_id id none some (t ∷ slots) = let past = of_id id none some slots in cond (has_id id t) (some t) past

-- ---- the simulator as read

-- Whether a transfer with that id is in flight. (01, Numbers)
unfoldable pub contains : ℕ → Flows → Bool
contains id f = any (has_id id) f.in_flight

-- How many transfers are in flight. (01, Numbers)
unfoldable pub num_in_flight : Flows → ℕ
num_in_flight f = count (λ t. t.taken) f.in_flight

-- The completions that wait to be collected, in order of owner and id. (01, Clock)
unfoldable pub waiting : Flows → List Completion
waiting f = take f.num_completed f.completed

-- ---- owners

-- The number of an owner's kind: 0 worker, 1 hand-off, 2 write. (01, Clock)
unfoldable pub owner_kind : Owner → ℕ
owner_kind (Worker n) = 0
owner_kind Handoff = 1
owner_kind Write = 2

-- An owner's worker number, or 0. (01, Clock)
unfoldable pub owner_worker : Owner → ℕ
owner_worker (Worker n) = n
owner_worker Handoff = 0
owner_worker Write = 0

-- Whether two owners are one. (01, What is ported)
unfoldable pub same_owner : Owner → Owner → Bool
same_owner a b = eqb (owner_kind a) (owner_kind b) && eqb (owner_worker a) (owner_worker b)

-- The order of owners: workers by ascending number, then hand-off, then write. (01, Clock)
unfoldable pub owner_before : Owner → Owner → Bool
owner_before a b = ltb (owner_kind a) (owner_kind b) || eqb (owner_kind a) (owner_kind b) && ltb (owner_worker a) (owner_worker b)

-- The order of completions: by owner, then by ascending id. (01, Clock)
unfoldable pub before : Completion → Completion → Bool
before c d = owner_before c.owner d.owner || same_owner c.owner d.owner && ltb c.id d.id

-- What has been counted of an owner's kind. (01, Clock)
unfoldable pub tally_of : Owner → Totals → Tally
tally_of (Worker n) totals = totals.worker
tally_of Handoff totals = totals.handoff
tally_of Write totals = totals.write

-- ---- one part in another's place

-- Another edge table, with its number of edges.
unfoldable pub with_edges : List Edge → ℕ → Flows → Flows
with_edges edges n f = record { edges = edges; num_edges = n; in_flight = f.in_flight; completed = f.completed; num_completed = f.num_completed; edge_load = f.edge_load; clock = f.clock; totals = f.totals; tolerance = f.tolerance }

-- Another table of transfers.
unfoldable pub with_in_flight : List Transfer → Flows → Flows
with_in_flight slots f = record { edges = f.edges; num_edges = f.num_edges; in_flight = slots; completed = f.completed; num_completed = f.num_completed; edge_load = f.edge_load; clock = f.clock; totals = f.totals; tolerance = f.tolerance }

-- The queue, with every later place of its table blank.
unfoldable pub with_waiting : List Completion → Flows → Flows
with_waiting queue f = record { edges = f.edges; num_edges = f.num_edges; in_flight = f.in_flight; completed = queue ++ replicate (max_slots - length queue) blank_completion; num_completed = length queue; edge_load = f.edge_load; clock = f.clock; totals = f.totals; tolerance = f.tolerance }

-- Another load table.
unfoldable pub with_edge_load : EdgeLoad → Flows → Flows
with_edge_load load f = record { edges = f.edges; num_edges = f.num_edges; in_flight = f.in_flight; completed = f.completed; num_completed = f.num_completed; edge_load = load; clock = f.clock; totals = f.totals; tolerance = f.tolerance }

-- Another clock.
unfoldable pub with_clock : Clock → Flows → Flows
with_clock clock f = record { edges = f.edges; num_edges = f.num_edges; in_flight = f.in_flight; completed = f.completed; num_completed = f.num_completed; edge_load = f.edge_load; clock = clock; totals = f.totals; tolerance = f.tolerance }

-- Another peak, and other tallies.
unfoldable pub with_totals : Totals → Flows → Flows
with_totals totals f = record { edges = f.edges; num_edges = f.num_edges; in_flight = f.in_flight; completed = f.completed; num_completed = f.num_completed; edge_load = f.edge_load; clock = f.clock; totals = totals; tolerance = f.tolerance }

-- Another tolerance. (02, P5)
unfoldable pub with_tolerance : Tolerance → Flows → Flows
with_tolerance tolerance f = record { edges = f.edges; num_edges = f.num_edges; in_flight = f.in_flight; completed = f.completed; num_completed = f.num_completed; edge_load = f.edge_load; clock = f.clock; totals = f.totals; tolerance = tolerance }

-- The clock moved to another time. (01, Clock)
unfoldable pub at_time : Float → Flows → Flows
at_time T f = with_clock (record { now = T; last_drain = f.clock.last_drain; rates_dirty = f.clock.rates_dirty; next_done_at = f.clock.next_done_at; rounds = f.clock.rounds }) f

-- Another time noted as that of the last drain. (02, P10)
unfoldable pub drain_noted : Float → Flows → Flows
drain_noted T f = with_clock (record { now = f.clock.now; last_drain = T; rates_dirty = f.clock.rates_dirty; next_done_at = f.clock.next_done_at; rounds = f.clock.rounds }) f

-- Rates gone stale; next_done and the round number stay as they were. (01, Clock)
unfoldable pub made_stale : Flows → Flows
made_stale f = with_clock (record { now = f.clock.now; last_drain = f.clock.last_drain; rates_dirty = true; next_done_at = f.clock.next_done_at; rounds = f.clock.rounds }) f

-- The tally of an owner's kind put through `change`. (01, Clock)
unfoldable pub on_tally : Owner → (Tally → Tally) → Flows → Flows
on_tally (Worker n) change f = with_totals (record { peak_in_flight = f.totals.peak_in_flight; worker = change f.totals.worker; handoff = f.totals.handoff; write = f.totals.write }) f
on_tally Handoff change f = with_totals (record { peak_in_flight = f.totals.peak_in_flight; worker = f.totals.worker; handoff = change f.totals.handoff; write = f.totals.write }) f
on_tally Write change f = with_totals (record { peak_in_flight = f.totals.peak_in_flight; worker = f.totals.worker; handoff = f.totals.handoff; write = change f.totals.write }) f
