-- Calls and questions as data, what each gives, and histories: calls made one after another. (01, How far each contract reaches) Definitions only.
use Rattle.std.specs.Prelude.{ℕ, Bool, true, ◌&&◌, List, [], ◌∷◌, Float}
use Rattle.std.specs.Float.{binary64}
use Rattle.std.specs.Float.Ieee.{fits}
use Rattle.doubles.specs.Doubles.{read_zero}
use Rattle.rules.specs.declared.Cap.{Cap}
use Rattle.rules.specs.declared.Cap.TheVariants.{AtMost, Uncapped}
use Rattle.rules.specs.declared.Outcome.{Outcome}
use Rattle.rules.specs.declared.Flows.{Flows}
use Rattle.rules.specs.declared.Call.{Call}
use Rattle.rules.specs.declared.Call.TheVariants.{Advance, Submit, Cancel, AddEdge, Widen, TakeCompleted, OwnersWithCompletions, NextCompletionDelay, EstimateNew, Settle, Remaining, MeanInFlight, Rate, Bottleneck, Edge, Contains, Rounds}
use Rattle.rules.specs.declared.Said.{Said}
use Rattle.rules.specs.declared.Said.TheVariants as Said_variants
use Rattle.rules.specs.declared.Made.{Made}
use Rattle.rules.specs.Records.{contains}
use Rattle.rules.specs.Refusals.{Lent, read_cap}
use Rattle.rules.specs.Floors.{with_floor}
use Rattle.rules.specs.Queue.{take_completed, owners_with_completions}
use Rattle.rules.specs.Edges.{add_edge, widen}
use Rattle.rules.specs.Submission.{submit_capped}
use Rattle.rules.specs.Advance.{advance}
use Rattle.rules.specs.Cancel.{cancel}
use Rattle.rules.specs.Questions.{next_completion_delay, estimate_new_capped, mean_in_flight, rate, bottleneck, edge}
use Rattle.rules.specs.TimeLeft.{settle, remaining}

-- ---- what a call leaves

-- What was said with the simulator then, and what the lent buffer then holds.
pub record Left : Type 0 where
  pub made : Made
  pub buffer : List ℕ

-- What a call with an outcome makes.
abbrev pub changing : Outcome → Made
changing o = record { said = Said_variants.Answered o.answer; flows = o.flows }

-- What a question that only reads makes.
abbrev pub asking : Flows → Said → Made
asking f s = record { said = s; flows = f }

-- A call that was lent no buffer leaves the one beside it alone.
abbrev pub unlent : Made → List ℕ → Left
unlent made buffer = record { made = made; buffer = buffer }

-- What a call with a lent buffer leaves.
abbrev pub listing : Lent → Left
listing l = record { made = changing l.outcome; buffer = l.buffer }

-- ---- the calls

-- The effect of a call, with the path and the buffer that are lent beside it; most calls use neither.
unfoldable pub call : Call → List ℕ → Flows → List ℕ → Left
call (Advance T) path f buffer = listing (advance T f buffer)
call (Submit s) path f buffer = unlent (changing (submit_capped s.id s.owner path s.bytes s.latency s.cap s.time f)) buffer
call (Cancel id) path f buffer = unlent (changing (cancel id f)) buffer
call (AddEdge capacity) path f buffer = unlent (changing (add_edge capacity f)) buffer
call (Widen e amount) path f buffer = unlent (changing (widen e amount f)) buffer
call (TakeCompleted owner) path f buffer = listing (take_completed owner f buffer)
call OwnersWithCompletions path f buffer = listing (owners_with_completions f buffer)
call NextCompletionDelay path f buffer = unlent (changing (next_completion_delay f)) buffer
call (EstimateNew e) path f buffer = unlent (asking f (Said_variants.Answered (estimate_new_capped path e.bytes e.latency e.cap f))) buffer
call Settle path f buffer = unlent (changing (settle f)) buffer
call (Remaining id) path f buffer = unlent (asking f (Said_variants.TimeLeft (remaining id f))) buffer
call (MeanInFlight e until) path f buffer = unlent (asking f (Said_variants.Answered (mean_in_flight e until f))) buffer
call (Rate id) path f buffer = unlent (changing (rate id f)) buffer
call (Bottleneck id) path f buffer = unlent (changing (bottleneck id f)) buffer
call (Edge e) path f buffer = unlent (asking f (Said_variants.Edge (edge e f))) buffer
call (Contains id) path f buffer = unlent (asking f (Said_variants.Truth (contains id f))) buffer
call Rounds path f buffer = unlent (asking f (Said_variants.Number f.clock.rounds)) buffer

-- ---- doubles among the arguments

-- Whether a cap that is a double is one indeed.
unfoldable pub typed_cap : Cap → Bool
typed_cap (AtMost c) = fits binary64 c
typed_cap Uncapped = true

-- Whether the arguments that are doubles are doubles indeed, as a caller's always are; the other arguments may be any numbers.
unfoldable pub typed_call : Call → Bool
typed_call (Advance T) = fits binary64 T
typed_call (Submit s) = fits binary64 s.latency && (typed_cap s.cap && fits binary64 s.time)
typed_call (Cancel id) = true
typed_call (AddEdge capacity) = fits binary64 capacity
typed_call (Widen e amount) = fits binary64 amount
typed_call (TakeCompleted owner) = true
typed_call OwnersWithCompletions = true
typed_call NextCompletionDelay = true
typed_call (EstimateNew e) = fits binary64 e.bytes && (fits binary64 e.latency && typed_cap e.cap)
typed_call Settle = true
typed_call (Remaining id) = true
typed_call (MeanInFlight e until) = fits binary64 until
typed_call (Rate id) = true
typed_call (Bottleneck id) = true
typed_call (Edge e) = true
typed_call (Contains id) = true
typed_call Rounds = true

-- A call with a zero in place of every negative zero. (01, Numbers)
unfoldable pub zeros_read : Call → Call
zeros_read (Advance T) = Advance (read_zero T)
zeros_read (Submit s) = Submit (record { id = s.id; owner = s.owner; bytes = s.bytes; latency = read_zero s.latency; cap = read_cap s.cap; time = read_zero s.time })
zeros_read (Cancel id) = Cancel id
zeros_read (AddEdge capacity) = AddEdge (read_zero capacity)
zeros_read (Widen e amount) = Widen e (read_zero amount)
zeros_read (TakeCompleted owner) = TakeCompleted owner
zeros_read OwnersWithCompletions = OwnersWithCompletions
zeros_read NextCompletionDelay = NextCompletionDelay
zeros_read (EstimateNew e) = EstimateNew (record { bytes = read_zero e.bytes; latency = read_zero e.latency; cap = read_cap e.cap })
zeros_read Settle = Settle
zeros_read (Remaining id) = Remaining id
zeros_read (MeanInFlight e until) = MeanInFlight e (read_zero until)
zeros_read (Rate id) = Rate id
zeros_read (Bottleneck id) = Bottleneck id
zeros_read (Edge e) = Edge e
zeros_read (Contains id) = Contains id
zeros_read Rounds = Rounds

-- ---- histories

-- A turn of a history: a call with the path and the buffer that are lent beside it.
pub record Turn : Type 0 where
  pub call : Call
  pub path : List ℕ
  pub buffer : List ℕ

-- Whether a turn's doubles are doubles.
abbrev pub typed : Turn → Bool
typed t = typed_call t.call

-- What a turn leaves.
abbrev pub after : Turn → Flows → Left
after t f = call t.call t.path f t.buffer

-- The simulator after the turns.
unfoldable pub run : Flows → List Turn → Flows
run f [] = f
run f (t ∷ turns) = run (after t f).made.flows turns

-- The same from a simulator that was made with a floor, and where that is refused from the default one beside the refusal. (02, P5)
abbrev pub run_with_floor : Float → List Turn → Flows
run_with_floor floor turns = run (with_floor floor).flows turns

-- Each turn with what it left: what was said, the simulator then, and what the buffer then held. (02, P10)
unfoldable pub journal : Flows → List Turn → List (Turn × Left)
journal f [] = []
journal f (t ∷ turns) = (t, after t f) ∷ journal (after t f).made.flows turns
