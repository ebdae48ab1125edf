-- What a change of edges leaves: a drain to the clock keeps how many edges there are, so the next number stays the next, and one edge is one store. Assumes nothing.
use mathlib.Core.Path.{◌≡◌, refl}
use mathlib.Core.List.{[], ◌∷◌}
use native.Mathlib.Numerals.{add-one}
use Prim.Native.Nat.{ℕ, ◌+◌}
use lib.ListN.{get_or, set}
use lib.Ieee.{Float}
use Rattle.doubles.specs.Doubles.{◌⊕◌, nought, read_zero}
use Rattle.rules.specs.declared.Answer.TheVariants.{Done}
use Rattle.rules.specs.declared.Edge.{Edge}
use Rattle.rules.specs.declared.Flows.{Flows}
use Rattle.rules.specs.Records.{with_edges, made_stale}
use Rattle.rules.specs.Refusals.{◌when◌, refusing, answering, refused, no_such_edge}
use Rattle.rules.specs.Clock.{drained_to_clock}
use Rattle.rules.specs.Edges.{edge_added, wider, edge_widened, no_widening, widen}
use Rattle.rules.specs.Invariant.{Invariant}
use Rattle.rules.proofs.Steps.{update_is}
use Rattle.keeps.proofs.Draining.{drained_to_clock_reaches}

pub edge_added_is : (capacity : Float) {f : Flows} → Invariant f
    → edge_added capacity f ≡ made_stale (with_edges (set (drained_to_clock f).edges f.num_edges (record { capacity = capacity; bytes_moved = nought; busy_transfer_seconds = nought })) (f.num_edges + 1) (drained_to_clock f))
unfolding edge_added
edge_added_is capacity inv = rw ((drained_to_clock_reaches inv).edges, add-one)

-- An edge with an amount more capacity.
abbrev pub widened : Float → Edge → Edge
widened amount edge = record { capacity = edge.capacity ⊕ amount; bytes_moved = edge.bytes_moved; busy_transfer_seconds = edge.busy_transfer_seconds }

-- whatever would be read past the last edge
pub edge_widened_is : (e : ℕ) (amount : Float) (f : Flows) (past : Edge)
    → edge_widened e amount f ≡ made_stale (with_edges (set (drained_to_clock f).edges e (widened amount (get_or (drained_to_clock f).edges e past))) (drained_to_clock f).num_edges (drained_to_clock f))
unfolding edge_widened wider
edge_widened_is e amount f past = rw (update_is e (widened amount) (drained_to_clock f).edges past)

pub widen_is : (e : ℕ) (amount : Float) (f : Flows)
    → widen e amount f ≡ refusing (1 when no_widening amount e f ∷ 3 when no_such_edge f e ∷ []) (refused f) (answering Done (edge_widened e (read_zero amount) f))
unfolding widen
widen_is e amount f = refl
