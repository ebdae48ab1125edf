-- What is promised of every history of calls on a fresh simulator, whatever its floor, refused calls among them. (01, How far each contract reaches; 02, P5) Statements only.
use Rattle.std.specs.Prelude.{ℕ, ◌≡◌, ◌⊎◌, ◌↔◌, Bool, true, false, not, ◌&&◌, ◌||◌, List, ◌++◌, map, T, ltb, length, get_or, Float}
use Rattle.std.specs.Float.{binary64}
use Rattle.std.specs.Float.Ieee.{fits}
use Rattle.doubles.specs.Doubles.{◌≺◌, nought, read_zero}
use Rattle.rules.specs.declared.Owner.{Owner}
use Rattle.rules.specs.declared.Cap.{Cap}
use Rattle.rules.specs.declared.Delay.TheVariants.{Never}
use Rattle.rules.specs.declared.Transfer.{Transfer}
use Rattle.rules.specs.declared.Answer.{Answer}
use Rattle.rules.specs.declared.NextDone.TheVariants.{Nobody}
use Rattle.rules.specs.declared.Answer.TheVariants.{Done, Unknown, CannotFinish, Value}
use Rattle.rules.specs.declared.Outcome.{Outcome}
use Rattle.rules.specs.declared.Seat.{Seat}
use Rattle.rules.specs.declared.Flows.{Flows}
use Rattle.rules.specs.declared.Call.{Call}
use Rattle.rules.specs.Lists.{those, any, all}
use Rattle.rules.specs.Tolerance.{B, F, default_tolerance}
use Rattle.rules.specs.Records.{free, fresh, path_of, has_id, contains, with_clock, with_tolerance}
use Rattle.rules.specs.Done.{done_eps, is_done, time_to_done}
use Rattle.rules.specs.Filling.{Filling, num_unfrozen, start, load, rounds_until, recompute_rates}
use Rattle.rules.specs.Clock.{ensure_rates, drain_to, drained_to_clock}
use Rattle.rules.specs.Refusals.{answering, ascending, not_a_time, short_buffer}
use Rattle.rules.specs.Floors.{floor_causes, with_floor}
use Rattle.rules.specs.Edges.{add_edge_causes, widen_causes}
use Rattle.rules.specs.Submission.{submit_causes}
use Rattle.rules.specs.Advance.{advance_causes}
use Rattle.rules.specs.Questions.{estimate_causes, edge_causes, mean_causes}
use Rattle.rules.specs.TimeLeft.{settle, remaining_in, behind, remaining}
use Rattle.rules.specs.Histories.{call, zeros_read, Turn, typed, after, run, run_with_floor, journal}
use Rattle.rules.specs.Invariant.{Invariant}
use Rattle.rules.specs.Fair.{rated, FairFilling, ExplainedFilling, NobodySlowerFilling}
use Rattle.rules.specs.Tallies.{Tallied}
use Rattle.rules.specs.Unmoved.{says_no, touch, unmoved, only_reads}

-- ---- over every history, from a simulator made with any floor; a floor that is refused gives the default one

-- The invariant holds after it.
abbrev pub AlwaysSound : Type 0
AlwaysSound = (floor : Float) (turns : List Turn) → T (fits binary64 floor) → T (all typed turns) → Invariant (run_with_floor floor turns)

-- For each kind of owner, what was submitted is in flight, completed or cancelled.
abbrev pub AlwaysTallied : Type 0
AlwaysTallied = (floor : Float) (turns : List Turn) → T (fits binary64 floor) → T (all typed turns) → (owner : Owner) → Tallied floor turns owner

-- A fact of the simulator wherever a call may work its rates out. `ensure_rates` (Clock) is the one place that fills, and the calls ask it of two simulators only: this one as it stands, and
-- this one drained to a time that an advance or a submission may name, its own clock among them.
pub record WhereverFilled (P : Flows → Type 0) (f : Flows) : Type 0 where
  pub as_it_stands : P f
  pub drained : (to : Float) → T (fits binary64 to) → not_a_time to ≡ false → (to ≺ f.clock.now) ≡ false → P (drain_to (read_zero to) f)

-- Demand 3, whenever rates are worked out.
abbrev pub AlwaysFair : Type 0
AlwaysFair = (floor : Float) (turns : List Turn) → T (fits binary64 floor) → T (all typed turns) → WhereverFilled FairFilling (run_with_floor floor turns)

-- Why nobody is faster, whenever rates are worked out: each limit is so, and is that of the round. (02, P4)
abbrev pub AlwaysExplained : Type 0
AlwaysExplained = (floor : Float) (turns : List Turn) → T (fits binary64 floor) → T (all typed turns) → WhereverFilled ExplainedFilling (run_with_floor floor turns)

-- And so, as the request has it: every rate is explained by its cap or by some edge. (02, P4)
abbrev pub AlwaysNobodySlower : Type 0
AlwaysNobodySlower = (floor : Float) (turns : List Turn) → T (fits binary64 floor) → T (all typed turns) → WhereverFilled NobodySlowerFilling (run_with_floor floor turns)

-- What a slot keeps from one filling to the next: all but what is left of its latency and its bytes, and the time of its last drain. (02, P4)
abbrev pub standing : Transfer → Transfer
standing t = record { taken = t.taken; id = t.id; owner = t.owner; path = t.path; latency_remaining = nought; bytes_remaining = nought; rate_cap = t.rate_cap; rate = t.rate; limit = t.limit; last_update = nought }

-- A simulator's slots and capacities are as a filling left them, that of a simulator with the invariant. (02, P4)
pub record AsFilled (f : Flows) : Type 0 where
  pub filled : Flows
  pub sound : Invariant filled
  pub slots : map standing f.in_flight ≡ map standing (rated filled)
  pub capacities : map (λ e. e.capacity) f.edges ≡ map (λ e. e.capacity) filled.edges

-- What `rate` and `bottleneck` read, rates being up to date, is what a filling left, whatever was drained since: so the limit that is told is one that `SoundExplained` speaks of. (02, P4)
abbrev pub AlwaysAsFilled : Type 0
AlwaysAsFilled = (floor : Float) (turns : List Turn) → T (fits binary64 floor) → T (all typed turns) → AsFilled (ensure_rates (run_with_floor floor turns))

-- The filling of a simulator's transfers has ended with nobody unfrozen, and not because its rounds ran out. (01, Filling)
abbrev pub AllFrozen : Flows → Type 0
AllFrozen f = num_unfrozen (recompute_rates (path_of f) f.edges f.in_flight) ≡ 0

-- A filling ends when none is unfrozen, whenever rates are worked out. (01, Filling)
abbrev pub AlwaysEnds : Type 0
AlwaysEnds = (floor : Float) (turns : List Turn) → T (fits binary64 floor) → T (all typed turns) → WhereverFilled AllFrozen (run_with_floor floor turns)

-- Whether a seat has load on its path, on an edge that the filling knows. (02, P7)
abbrev pub load_on_path : (Transfer → List ℕ) → Filling → Seat → Bool
load_on_path path g s = any (λ e. ltb e (length g.residual) && ltb 0 (load path g.seats e)) (path s.transfer)

-- After any number of rounds of a simulator's filling, everybody who is unfrozen still has load on its path. (02, P7)
abbrev pub LoadedThroughout : Flows → Type 0
LoadedThroughout f = (n : ℕ) → let g = rounds_until (path_of f) n (start (path_of f) f.edges f.in_flight) in T (all (λ s. not s.unfrozen || load_on_path (path_of f) g s) g.seats)

-- So it is whenever rates are worked out: while somebody is unfrozen a round has an edge with load, and its share to go by. (02, P7)
abbrev pub AlwaysLoaded : Type 0
AlwaysLoaded = (floor : Float) (turns : List Turn) → T (fits binary64 floor) → T (all typed turns) → WhereverFilled LoadedThroughout (run_with_floor floor turns)

-- While rates are not stale there are as many loads as edges, so that a quiet advance need not ask. (02, P7)
abbrev pub AlwaysMatched : Type 0
AlwaysMatched = (floor : Float) (turns : List Turn) → T (fits binary64 floor) → T (all typed turns) → let f = run_with_floor floor turns in f.clock.rates_dirty ≡ false → f.edge_load.len ≡ f.num_edges

-- ---- over every simulator with the invariant, and so over every history

-- Demand 3 holds of its filling.
abbrev pub SoundFair : Type 0
SoundFair = (f : Flows) → Invariant f → FairFilling f

-- Its limits are so. (02, P4)
abbrev pub SoundExplained : Type 0
SoundExplained = (f : Flows) → Invariant f → ExplainedFilling f

-- Each call with its zeros read is the same call. (01, Numbers)
abbrev pub ZerosAreOne : Type 0
ZerosAreOne = (c : Call) (path : List ℕ) (f : Flows) (buffer : List ℕ) → Invariant f → call (zeros_read c) path f buffer ≡ call c path f buffer

-- A transfer with that id is in flight, and P holds of it.
pub record InFlight (id : ℕ) (f : Flows) (P : Transfer → Type 0) : Type 0 where
  pub slot : ℕ
  pub has : has_id id (get_or f.in_flight slot free) ≡ true
  pub holds : P (get_or f.in_flight slot free)

-- What an answer on the time left tells of the simulator that gave it. (02, P1)
pub record TellsTimeLeft (id : ℕ) (f : Flows) (answer : Answer) : Type 0 where
  -- unknown: nobody has that id
  pub unknown : (answer ≡ Unknown) ↔ (contains id f ≡ false)
  -- 0 seconds: the transfer is done; any other time is more than eps, and so above 0
  pub done : (answer ≡ Value nought) ↔ InFlight id f (λ t. T (is_done (done_eps f) t))
  pub others_above : (x : Float) → answer ≡ Value x → (x ≡ nought) ⊎ T (done_eps f ≺ x)
  pub eps_above : T (nought ≺ done_eps f)
  -- cannot finish: the time to done is never, that is, bytes are left and the rate is 0
  pub never : (answer ≡ CannotFinish) ↔ InFlight id f (λ t. time_to_done (done_eps f) t ≡ Never)
  pub stalled : (answer ≡ CannotFinish) ↔ InFlight id f (λ t. T (B ≺ t.bytes_remaining) × (t.rate ≡ nought))

-- The three answers on the time left mean what they say, of the simulator as it stands. (02, P1 and P10)
abbrev pub TimeLeftTold : Type 0
TimeLeftTold = (id : ℕ) (f : Flows) → Invariant f → TellsTimeLeft id f (remaining id f).answer

-- ---- over every simulator at all

-- A call that is refused, an id that is unknown and a take with nothing waiting leave the simulator as it was, and a question that only reads does, whatever it says. (01, Numbers; 02, P10)
abbrev pub RefusalsMoveNothing : Type 0
RefusalsMoveNothing = (t : Turn) (f : Flows) → T (unmoved (touch t.call) (after t f).made.said) → (after t f).made.flows ≡ f

-- And the lent buffer, whatever it holds. (01, Numbers)
abbrev pub RefusalsWriteNothing : Type 0
RefusalsWriteNothing = (t : Turn) (f : Flows) → T (says_no (after t f).made.said) → (after t f).buffer ≡ t.buffer

-- Of a history only some turns are kept: each of them says and leaves what it did among all, and so does the whole. (02, P10)
pub record AsWithout (kept : Turn → Bool) (f : Flows) (turns : List Turn) : Type 0 where
  pub others : journal f (those kept turns) ≡ those (λ entry. kept entry.0) (journal f turns)
  pub flows : run f (those kept turns) ≡ run f turns

-- A watched run is an unwatched one: questions that only read may be put in anywhere and left out again. Where all turns are kept but those that ask `remaining`, this is the request's own claim. (02, P10)
abbrev pub WatchedAsUnwatched : Type 0
WatchedAsUnwatched = (kept : Turn → Bool) → ((t : Turn) → T (kept t || only_reads (touch t.call))) → (f : Flows) (turns : List Turn) → AsWithout kept f turns

-- The one call that P10 has split in two: drained to the clock and brought up to date, and then the time left. (02, P1)
abbrev pub estimate_remaining : ℕ → Flows → Outcome
estimate_remaining id f = let g = ensure_rates (drained_to_clock f) in answering (remaining_in id (done_eps g) g.in_flight) g

-- To settle and then to ask leaves and answers what that call did, and says that it is current. (02, P10)
pub record SplitInTwo : Type 0 where
  pub flows : (id : ℕ) (f : Flows) → (settle f).flows ≡ (estimate_remaining id f).flows
  pub answer : (id : ℕ) (f : Flows) → (remaining id (settle f).flows).answer ≡ (estimate_remaining id f).answer
  pub current : (f : Flows) → behind (settle f).flows.clock ≡ false

-- A simulator made with the default floor is the one that was given none. (02, P5)
abbrev pub NewHasDefault : Type 0
NewHasDefault = with_floor F ≡ answering Done fresh

-- No call changes the floor: it stays what the simulator was made with. (02, P5)
abbrev pub FloorStays : Type 0
FloorStays = (f : Flows) (turns : List Turn) → (run f turns).tolerance ≡ f.tolerance

-- What two simulators that are equal but for the floor share: all but the floor, and next_done, which is told by it. (02, P5)
abbrev pub but_for_floor : Flows → Flows
but_for_floor f =
    with_tolerance default_tolerance
    (with_clock (record { now = f.clock.now; last_drain = f.clock.last_drain; rates_dirty = f.clock.rates_dirty; next_done_at = Nobody; rounds = f.clock.rounds }) f)

-- Rates do not depend on the floor: two such simulators, brought up to date or drained to a time, are such again, and so have equal rates, limits and rounds. (02, P4 and P5)
pub record RatesWithoutFloor : Type 0 where
  pub up_to_date : (f g : Flows) → but_for_floor f ≡ but_for_floor g → but_for_floor (ensure_rates f) ≡ but_for_floor (ensure_rates g)
  pub drained : (to : Float) (f g : Flows) → but_for_floor f ≡ but_for_floor g → but_for_floor (drain_to to f) ≡ but_for_floor (drain_to to g)

-- The causes of each call ascend, so that the first that applies is the lowest. (01, Numbers)
pub record CausesAscend : Type 0 where
  pub with_floor : (floor : Float) → T (ascending (floor_causes floor))
  pub add_edge : (capacity : Float) (f : Flows) → T (ascending (add_edge_causes capacity f))
  pub widen : (e : ℕ) (amount : Float) (f : Flows) → T (ascending (widen_causes e amount f))
  pub submit : (id : ℕ) (owner : Owner) (path : List ℕ) (bytes : ℕ) (latency : Float) (cap : Cap) (time : Float) (f : Flows) → T (ascending (submit_causes id owner path bytes latency cap time f))
  pub advance : (time : Float) (n : ℕ) (f : Flows) (buffer : List ℕ) → T (ascending (advance_causes time f ++ short_buffer n buffer))
  pub estimate : (path : List ℕ) (bytes latency : Float) (cap : Cap) (f : Flows) → T (ascending (estimate_causes path bytes latency cap f))
  pub edge : (e : ℕ) (f : Flows) → T (ascending (edge_causes e f))
  pub mean : (e : ℕ) (until : Float) (f : Flows) → T (ascending (mean_causes e until f))
