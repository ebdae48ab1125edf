-- The questions. One that brings rates up to date leaves another simulator; the others only read. (01, Questions) Definitions only.
use Rattle.std.specs.Prelude.{ℕ, ◌+◌, not, ◌||◌, cond, get_or, Float}
use mathlib.Core.List.{List, [], ◌∷◌, foldl}
use Rattle.doubles.specs.Doubles.{◌⊕◌, ◌⊖◌, ◌⊘◌, ◌≺◌, ◌≼◌, nought, infinity, larger, smaller, whole, is_finite, read_zero}
use Rattle.rules.specs.declared.Cap.{Cap}
use Rattle.rules.specs.declared.Cap.TheVariants.{AtMost, Uncapped}
use Rattle.rules.specs.declared.Delay.{Delay}
use Rattle.rules.specs.declared.Delay.TheVariants.{After, Never}
use Rattle.rules.specs.declared.NextDone.{NextDone}
use Rattle.rules.specs.declared.NextDone.TheVariants.{At, Nobody}
use Rattle.rules.specs.declared.Edge.{Edge}
use Rattle.rules.specs.declared.EdgeRead.{EdgeRead}
use Rattle.rules.specs.declared.EdgeRead.TheVariants as EdgeRead_variants
use Rattle.rules.specs.declared.Transfer.{Transfer}
use Rattle.rules.specs.declared.Answer.{Answer}
use Rattle.rules.specs.declared.Answer.TheVariants.{Unknown, Value, Due, Limited, Refused}
use Rattle.rules.specs.declared.Outcome.{Outcome}
use Rattle.rules.specs.declared.Flows.{Flows}
use Rattle.rules.specs.Lists.{any}
use Rattle.rules.specs.Records.{blank_edge, path_of, of_id}
use Rattle.rules.specs.Filling.{takes_part}
use Rattle.rules.specs.Clock.{crossings_by, ensure_rates}
use Rattle.rules.specs.Refusals.{Cause, ◌when◌, refusing, answering, not_finite, not_an_amount, not_a_cap, no_such_edge, too_long, read_cap}

-- ---- the next completion

-- How far ahead of the clock next_done lies; one that is past is now. (01, Questions)
unfoldable pub delay_until : Float → NextDone → Delay
delay_until now Nobody = Never
delay_until now (At next) = After (larger (next ⊖ now) nought)

-- The time to the next completion under rates brought up to date. (01, Questions)
unfoldable pub next_completion_delay : Flows → Outcome
next_completion_delay f = let g = ensure_rates f in answering (Due (delay_until g.clock.now g.clock.next_done_at)) g

-- ---- estimates

-- What one more transfer would get of edge e: its capacity over the crossings of those that take part, and one. (01, Questions)
unfoldable pub new_share : Flows → ℕ → Float
new_share f e = (get_or f.edges e blank_edge).capacity ⊘ whole (crossings_by takes_part (path_of f) f.in_flight e + 1)

-- The smallest such share along a path. (01, Questions)
unfoldable pub path_share : Flows → List ℕ → Float
path_share f path = foldl (λ least e. smaller least (new_share f e)) infinity path

-- A share, or the cap if that is smaller. (01, Questions)
unfoldable pub share_or_cap : Cap → Float → Float
share_or_cap Uncapped share = share
share_or_cap (AtMost c) share = smaller share c

-- The time over shared edges: endless where the share is nothing or endless itself. (01, Questions)
unfoldable pub time_at_share : Float → Float → Float → Float
time_at_share latency bytes share = cond (share ≼ nought || not (is_finite share)) infinity (latency ⊕ bytes ⊘ share)

-- The time where no edge is shared: only a cap above 0 makes bytes take time. (01, Questions)
unfoldable pub time_alone : Float → Float → Cap → Float
time_alone latency bytes Uncapped = latency
time_alone latency bytes (AtMost c) = cond (nought ≺ c) (latency ⊕ bytes ⊘ c) latency

-- The time by whether the path shares edges. (01, Questions)
unfoldable pub estimate : Flows → List ℕ → Float → Float → Cap → Float
estimate f [] bytes latency cap = time_alone latency bytes cap
estimate f (e ∷ path) bytes latency cap = time_at_share latency bytes (share_or_cap cap (path_share f (e ∷ path)))

-- Why nothing is estimated. (01, Numbers)
abbrev pub estimate_causes : List ℕ → Float → Float → Cap → Flows → List Cause
estimate_causes path bytes latency cap f =
    1 when (not_an_amount bytes || not_finite latency || not_a_cap cap)
    ∷ 3 when any (no_such_edge f) path
    ∷ 4 when too_long path
    ∷ []

-- The time that one more transfer would need as things stand: nothing is drained or filled for the question. (01, Questions)
unfoldable pub estimate_new_capped : List ℕ → Float → Float → Cap → Flows → Answer
estimate_new_capped path bytes latency cap f =
    refusing (estimate_causes path bytes latency cap f) Refused
    (Value (estimate f path (read_zero bytes) (larger (read_zero latency) nought) (read_cap cap)))

-- The same without a cap. (01, Questions)
unfoldable pub estimate_new : List ℕ → Float → Float → Flows → Answer
estimate_new path bytes latency f = estimate_new_capped path bytes latency Uncapped f

-- ---- edges

-- Why an edge is not read. (01, Numbers)
abbrev pub edge_causes : ℕ → Flows → List Cause
edge_causes e f = 3 when no_such_edge f e ∷ []

-- An edge by its number. (01, What is ported)
unfoldable pub edge : ℕ → Flows → EdgeRead
edge e f = refusing (edge_causes e f) EdgeRead_variants.Refused (EdgeRead_variants.Found (get_or f.edges e blank_edge))

-- The mean of an edge's load from 0 to a time. (01, Questions)
unfoldable pub mean_over : Float → Edge → Float
mean_over until e = cond (nought ≺ until) (e.busy_transfer_seconds ⊘ until) nought

-- Why there is no mean. (01, Numbers and Questions)
abbrev pub mean_causes : ℕ → Float → Flows → List Cause
mean_causes e until f =
    1 when not_finite until
    ∷ 3 when no_such_edge f e
    ∷ []

-- The mean of an edge's load, by its number. (01, Questions)
unfoldable pub mean_in_flight : ℕ → Float → Flows → Answer
mean_in_flight e until f =
    refusing (mean_causes e until f) Refused
    (Value (mean_over until (get_or f.edges e blank_edge)))

-- ---- rates

-- The rate of the transfer with that id, or that there is none. (01, Questions)
unfoldable pub rate_in : ℕ → List Transfer → Answer
rate_in id slots = of_id id Unknown (λ t. Value t.rate) slots

-- A transfer's rate, brought up to date. (01, Questions)
unfoldable pub rate : ℕ → Flows → Outcome
rate id f = let g = ensure_rates f in answering (rate_in id g.in_flight) g

-- Why the transfer with that id is no faster, as the last filling left it, or that there is none. (02, P4)
unfoldable pub limit_in : ℕ → List Transfer → Answer
limit_in id slots = of_id id Unknown (λ t. Limited t.limit) slots

-- A transfer's bottleneck, rates being brought up to date as for its rate. (02, P4)
unfoldable pub bottleneck : ℕ → Flows → Outcome
bottleneck id f = let g = ensure_rates f in answering (limit_in id g.in_flight) g
