-- Edges: one more, and one that becomes wider or narrower. (01, Numbers and Clock) Definitions only.
use Rattle.std.specs.Prelude.{ℕ, suc, Bool, not, ◌&&◌, ◌||◌, List, [], ◌∷◌, leb, set, get_or, Float}
use Rattle.doubles.specs.Doubles.{◌⊕◌, nought, read_zero}
use Rattle.rules.specs.declared.Edge.{Edge}
use Rattle.rules.specs.declared.Answer.TheVariants.{Done, Added}
use Rattle.rules.specs.declared.Outcome.{Outcome}
use Rattle.rules.specs.declared.Flows.{Flows}
use Rattle.rules.specs.Lists.{update}
use Rattle.rules.specs.Records.{max_edges, blank_edge, with_edges, made_stale}
use Rattle.rules.specs.Clock.{drained_to_clock}
use Rattle.rules.specs.Refusals.{Cause, ◌when◌, refusing, answering, refused, not_finite, not_an_amount, no_such_edge}

-- ---- one more

-- Why an edge is not added. (01, Numbers)
abbrev pub add_edge_causes : Float → Flows → List Cause
add_edge_causes capacity f =
    1 when not_an_amount capacity
    ∷ 7 when leb max_edges f.num_edges
    ∷ []

-- The simulator drained to its clock, with one more edge. (01, Clock and Departures)
unfoldable pub edge_added : Float → Flows → Flows
edge_added capacity f =
    let d = drained_to_clock f in
    made_stale (with_edges (set d.edges d.num_edges (record { capacity = capacity; bytes_moved = nought; busy_transfer_seconds = nought })) (suc d.num_edges) d)

-- One more edge, which gets the next number. (01, Numbers and Clock)
unfoldable pub add_edge : Float → Flows → Outcome
add_edge capacity f =
    refusing (add_edge_causes capacity f) (refused f)
    (answering (Added f.num_edges) (edge_added (read_zero capacity) f))

-- ---- another capacity

-- The capacity of an edge with some amount more. (01, Numbers)
unfoldable pub wider : Float → Edge → Float
wider amount e = e.capacity ⊕ amount

-- 1: the amount is not finite, or the edge is there and its new capacity would be no amount. An absent edge has none that could go wrong. (01, Numbers)
unfoldable pub no_widening : Float → ℕ → Flows → Bool
no_widening amount e f = not_finite amount || not (no_such_edge f e) && not_an_amount (wider amount (get_or f.edges e blank_edge))

-- Why an edge is not widened. For an absent edge only the amount itself comes before 3. (01, Numbers)
abbrev pub widen_causes : ℕ → Float → Flows → List Cause
widen_causes e amount f =
    1 when no_widening amount e f
    ∷ 3 when no_such_edge f e
    ∷ []

-- The simulator drained to its clock, with an edge of another capacity. (01, Clock and Departures)
unfoldable pub edge_widened : ℕ → Float → Flows → Flows
edge_widened e amount f =
    let d = drained_to_clock f in
    made_stale (with_edges (update e (λ edge. record { capacity = wider amount edge; bytes_moved = edge.bytes_moved; busy_transfer_seconds = edge.busy_transfer_seconds }) d.edges) d.num_edges d)

-- An amount added to an edge's capacity. (01, Numbers and Clock)
unfoldable pub widen : ℕ → Float → Flows → Outcome
widen e amount f =
    refusing (widen_causes e amount f) (refused f)
    (answering Done (edge_widened e (read_zero amount) f))
