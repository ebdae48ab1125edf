-- The invariant in parts, each about only the tables that it depends on, so that a call which leaves those alone keeps the part as it stands. Assumes nothing.
use Prim.Native.Nat.{ℕ, ◌+◌, ◌≤◌, ◌<◌}
use mathlib.Core.Path.{◌≡◌}
use mathlib.Core.Bool.{true, false, ◌&&◌}
use mathlib.Core.List.{List, map}
use lib.Dec.{T, ltb}
use lib.ListN.{length, get_or}
use Rattle.doubles.specs.Doubles.{◌≼◌, Plain}
use Rattle.rules.specs.declared.Owner.{Owner}
use Rattle.rules.specs.declared.Edge.{Edge}
use Rattle.rules.specs.declared.Transfer.{Transfer}
use Rattle.rules.specs.declared.Completion.{Completion}
use Rattle.rules.specs.declared.Totals.{Totals}
use Rattle.rules.specs.declared.EdgeLoad.{EdgeLoad}
use Rattle.rules.specs.declared.Clock.{Clock}
use Rattle.rules.specs.declared.Flows.{Flows}
use Rattle.rules.specs.Lists.{count, sum, Each, map_from}
use Rattle.rules.specs.Records.{max_edges, max_slots, blank_edge, free, blank_completion, own_path, num_in_flight, before, tally_of}
use Rattle.rules.specs.Clock.{crossings_by, counts_in_loads, edge_loads}
use Rattle.rules.specs.Invariant.{ClockTime, SoundFloor, SoundNext, SoundEdge, SoundSlot, Balanced, Invariant}

-- The time, when the last drain was, and what the last filling left beside it.
pub record ClockSound (clock : Clock) : Type 0 where
  pub time : ClockTime clock.now
  pub drain : Plain clock.last_drain
  pub by_now : T (clock.last_drain ≼ clock.now)
  pub stale : clock.rates_dirty ≡ true → clock.last_drain ≡ clock.now
  pub next : SoundNext clock.next_done_at
  pub rounds : clock.rounds ≤ max_slots

-- A table with n edges in it.
pub record EdgesSound (edges : List Edge) (n : ℕ) : Type 0 where
  pub places : length edges ≡ max_edges
  pub few : n ≤ max_edges
  pub sound : Each SoundEdge blank_edge edges
  pub blank : (e : ℕ) → n ≤ e → get_or edges e blank_edge ≡ blank_edge

-- A table with n completions waiting in it.
pub record QueueSound (table : List Completion) (n : ℕ) : Type 0 where
  pub places : length table ≡ max_slots
  pub ordered : (i j : ℕ) → i < j → j < n → before (get_or table i blank_completion) (get_or table j blank_completion) ≡ true
  pub blank : (i : ℕ) → n ≤ i → get_or table i blank_completion ≡ blank_completion

-- Who is in flight, whatever has become of them: ids and paths.
pub record CrowdSound (slots : List Transfer) : Type 0 where
  pub places : length slots ≡ max_slots
  pub ids_differ : (i j : ℕ) → (get_or slots i free).taken ≡ true → (get_or slots j free).taken ≡ true → (get_or slots i free).id ≡ (get_or slots j free).id → i ≡ j
  pub path_room : sum (map (λ t. length (own_path t)) slots) ≤ 2048

-- What has been counted, beside n completions that wait.
pub record TotalsSound (slots : List Transfer) (n : ℕ) (totals : Totals) : Type 0 where
  pub room : count (λ t. t.taken) slots + n ≤ max_slots
  pub reached : count (λ t. t.taken) slots ≤ totals.peak_in_flight
  pub bound : totals.peak_in_flight ≤ max_slots
  pub balanced : (owner : Owner) → Balanced slots owner (tally_of owner totals)

-- The crossings of each of n edges by those in flight.
abbrev pub loads : List Transfer → List Edge → ℕ → EdgeLoad
loads slots edges n = record { load = map_from 0 (λ e edge. crossings_by counts_in_loads own_path slots e) edges; len = n }

-- What a filling left, while it is not stale.
pub record RatesSound (clock : Clock) (load : EdgeLoad) (slots : List Transfer) (edges : List Edge) (n : ℕ) : Type 0 where
  pub right : clock.rates_dirty ≡ false → load ≡ loads slots edges n
  pub few : clock.rates_dirty ≡ false → clock.rounds ≤ count (λ t. t.taken && ltb 0 t.path.len) slots

pub record Parts (f : Flows) : Type 0 where
  pub tolerance : SoundFloor f.tolerance.floor
  pub clock : ClockSound f.clock
  pub edges : EdgesSound f.edges f.num_edges
  pub queue : QueueSound f.completed f.num_completed
  pub crowd : CrowdSound f.in_flight
  -- where each stands: its amounts, and the time to which it has been drained
  pub slots : Each (SoundSlot f) free f.in_flight
  pub totals : TotalsSound f.in_flight f.num_completed f.totals
  pub rates : RatesSound f.clock f.edge_load f.in_flight f.edges f.num_edges

pub parts : {f : Flows} → Invariant f → Parts f
unfolding num_in_flight edge_loads
parts inv = record {
  tolerance = inv.tolerance;
  clock = record { time = inv.clock; drain = inv.last_drain; by_now = inv.drained_by_now; stale = inv.stale_drained; next = inv.next_done; rounds = inv.rounds_bound };
  edges = record { places = inv.edge_places; few = inv.few_edges; sound = inv.edges; blank = inv.edges_blank };
  queue = record { places = inv.queue_places; ordered = inv.queue_ordered.ordered; blank = inv.queue_blank.blank };
  crowd = record { places = inv.slot_places; ids_differ = inv.ids_differ; path_room = inv.path_room };
  slots = inv.slots;
  totals = record { room = inv.room; reached = inv.peak_reached; bound = inv.peak_bound; balanced = inv.balanced };
  rates = record { right = inv.load_right; few = inv.few_rounds };
}

pub joined : {f : Flows} → Parts f → Invariant f
unfolding num_in_flight edge_loads
joined p = record {
  edge_places = p.edges.places;
  slot_places = p.crowd.places;
  queue_places = p.queue.places;
  clock = p.clock.time;
  last_drain = p.clock.drain;
  drained_by_now = p.clock.by_now;
  stale_drained = p.clock.stale;
  next_done = p.clock.next;
  tolerance = p.tolerance;
  few_edges = p.edges.few;
  edges = p.edges.sound;
  edges_blank = p.edges.blank;
  slots = p.slots;
  ids_differ = p.crowd.ids_differ;
  path_room = p.crowd.path_room;
  queue_ordered = record { ordered = p.queue.ordered };
  queue_blank = record { blank = p.queue.blank };
  room = p.totals.room;
  peak_reached = p.totals.reached;
  peak_bound = p.totals.bound;
  balanced = p.totals.balanced;
  load_right = p.rates.right;
  few_rounds = p.rates.few;
  rounds_bound = p.clock.rounds;
}
