-- The invariant of a simulator: what holds at the start and after every call. It is the one premise of every function that users are handed (crate `flows`); what an inner function asks of a
-- table or an argument by itself is listed, with its reason, in docs/PREMISES.md. (01, How far each contract reaches) Statements only.
use Rattle.std.specs.Prelude.{ℕ, ◌+◌, ◌^◌, ◌≤◌, ◌<◌, ◌≡◌, ◌⊎◌, Bool, true, false, ◌&&◌, List, map, T, eqb, ltb, length, get_or, Float}
use Rattle.doubles.specs.Doubles.{◌≼◌, whole, Plain, Nonneg}
use Rattle.rules.specs.declared.Owner.{Owner}
use Rattle.rules.specs.declared.Cap.{Cap}
use Rattle.rules.specs.declared.Cap.TheVariants.{AtMost, Uncapped}
use Rattle.rules.specs.declared.NextDone.{NextDone}
use Rattle.rules.specs.declared.NextDone.TheVariants.{At, Nobody}
use Rattle.rules.specs.declared.Edge.{Edge}
use Rattle.rules.specs.declared.Route.{Route}
use Rattle.rules.specs.declared.Transfer.{Transfer}
use Rattle.rules.specs.declared.Completion.{Completion}
use Rattle.rules.specs.declared.Tally.{Tally}
use Rattle.rules.specs.declared.Flows.{Flows}
use Rattle.rules.specs.Lists.{count, sum, Each}
use Rattle.rules.specs.Tolerance.{F, max_floor}
use Rattle.rules.specs.Records.{max_edges, max_path, max_slots, blank_edge, free, blank_completion, path_of, num_in_flight, before, owner_kind, tally_of}
use Rattle.rules.specs.Clock.{edge_loads}

-- ---- doubles

-- A running sum of amounts up to 2^53: it stays within 2^107, where adding such an amount no longer changes it.
pub record Summed (x : Float) : Type 0 where
  pub plain : Plain x
  pub bounded : T (x ≼ whole (2 ^ 107))

-- A clock time, from 0 to 2^40 seconds.
pub record ClockTime (x : Float) : Type 0 where
  pub plain : Plain x
  pub bounded : T (x ≼ whole (2 ^ 40))

-- A floor, from the default to the coarsest. (02, P5)
pub record SoundFloor (x : Float) : Type 0 where
  pub plain : Plain x
  pub no_finer : T (F ≼ x)
  pub no_coarser : T (x ≼ max_floor)

-- A cap, where there is one, is plain.
pub data SoundCap : Cap → Type 0 where
  at_most : {c : Float} → Plain c → SoundCap (AtMost c)
  uncapped : SoundCap Uncapped

-- Next-done, where there is one, is no NaN and not below zero; it may be infinite.
pub data SoundNext : NextDone → Type 0 where
  at : {x : Float} → Nonneg x → SoundNext (At x)
  nobody : SoundNext Nobody

-- ---- records

-- An edge: a plain capacity, and two running sums.
pub record SoundEdge (e : Edge) : Type 0 where
  pub capacity : Plain e.capacity
  pub moved : Summed e.bytes_moved
  pub busy : Summed e.busy_transfer_seconds

-- A path of at most eight numbers, each below n, and zeros behind them.
pub record SoundRoute (n : ℕ) (r : Route) : Type 0 where
  pub places : length r.hops ≡ max_path
  pub short : r.len ≤ max_path
  pub known : (k : ℕ) → k < r.len → get_or r.hops k 0 < n
  pub blank : (k : ℕ) → r.len ≤ k → get_or r.hops k 0 ≡ 0

-- A transfer in flight in the simulator f.
pub record SoundTransfer (f : Flows) (t : Transfer) : Type 0 where
  pub path : SoundRoute f.num_edges t.path
  pub latency : Plain t.latency_remaining
  pub bytes : Plain t.bytes_remaining
  pub bytes_bound : T (t.bytes_remaining ≼ whole (2 ^ 53))
  pub cap : SoundCap t.rate_cap
  pub rate : Nonneg t.rate
  -- infinite only where it shares no edge and has no cap
  pub rate_finite : Plain t.rate ⊎ (t.path.len ≡ 0) × (t.rate_cap ≡ Uncapped)
  -- all in flight have been drained up to one time
  pub updated : t.last_update ≡ f.clock.last_drain

-- A slot is free and blank, or holds a sound transfer.
pub record SoundSlot (f : Flows) (t : Transfer) : Type 0 where
  pub held : t.taken ≡ true → SoundTransfer f t
  pub blank : t.taken ≡ false → t ≡ free

-- In flight, with an owner of that kind.
unfoldable pub of_kind : ℕ → Transfer → Bool
of_kind k t = t.taken && eqb (owner_kind t.owner) k

-- What was submitted is in flight, completed or cancelled, and its number fits 64 bits. (01, Clock)
pub record Balanced (slots : List Transfer) (owner : Owner) (y : Tally) : Type 0 where
  pub accounted : y.submitted ≡ count (of_kind (owner_kind owner)) slots + y.completed + y.cancelled
  pub fits : y.submitted < 2 ^ 64
  pub bytes : Summed y.bytes_submitted

-- ---- the queue

-- The first n places of a table are in order of owner and id, and so hold nothing twice. (01, Clock)
pub record InOrder (n : ℕ) (table : List Completion) : Type 0 where
  pub ordered : (i j : ℕ) → i < j → j < n → before (get_or table i blank_completion) (get_or table j blank_completion) ≡ true

-- Every place of a table from n on is blank. (01, Sizes)
pub record BlankBehind (n : ℕ) (table : List Completion) : Type 0 where
  pub blank : (i : ℕ) → n ≤ i → get_or table i blank_completion ≡ blank_completion

-- ---- the simulator

-- What every simulator that calls have answered keeps, a fact to a line.
pub record Invariant (f : Flows) : Type 0 where
  -- every table has its size
  pub edge_places : length f.edges ≡ max_edges
  pub slot_places : length f.in_flight ≡ max_slots
  pub queue_places : length f.completed ≡ max_slots
  -- the time; when transfers were last drained, which while rates are stale is now; and when somebody is done next
  pub clock : ClockTime f.clock.now
  pub last_drain : Plain f.clock.last_drain
  pub drained_by_now : T (f.clock.last_drain ≼ f.clock.now)
  pub stale_drained : f.clock.rates_dirty ≡ true → f.clock.last_drain ≡ f.clock.now
  pub next_done : SoundNext f.clock.next_done_at
  pub tolerance : SoundFloor f.tolerance.floor
  -- edges
  pub few_edges : f.num_edges ≤ max_edges
  pub edges : Each SoundEdge blank_edge f.edges
  pub edges_blank : (e : ℕ) → f.num_edges ≤ e → get_or f.edges e blank_edge ≡ blank_edge
  -- transfers
  pub slots : Each (SoundSlot f) free f.in_flight
  pub ids_differ : (i j : ℕ) → (get_or f.in_flight i free).taken ≡ true → (get_or f.in_flight j free).taken ≡ true → (get_or f.in_flight i free).id ≡ (get_or f.in_flight j free).id → i ≡ j
  -- the paths in flight have at most 2,048 entries together, which eight for each of 256 come to
  pub path_room : sum (map (λ t. length (path_of f t)) f.in_flight) ≤ 2048
  -- the queue: in order, so no entry twice, and blank behind
  pub queue_ordered : InOrder f.num_completed f.completed
  pub queue_blank : BlankBehind f.num_completed f.completed
  -- room, peak and tallies
  pub room : num_in_flight f + f.num_completed ≤ max_slots
  pub peak_reached : num_in_flight f ≤ f.totals.peak_in_flight
  pub peak_bound : f.totals.peak_in_flight ≤ max_slots
  pub balanced : (owner : Owner) → Balanced f.in_flight owner (tally_of owner f.totals)
  -- while rates are not stale: the load table is right, and there were no more rounds than transfers with a path
  pub load_right : f.clock.rates_dirty ≡ false → f.edge_load ≡ edge_loads f
  pub few_rounds : f.clock.rates_dirty ≡ false → f.clock.rounds ≤ count (λ t. t.taken && ltb 0 t.path.len) f.in_flight
  pub rounds_bound : f.clock.rounds ≤ max_slots
