-- `widen` tests the capacity of the simulator as it came, changes that of the drained one, and leaves what the edge has moved. Assumes nothing.
use borrow.Author.Rules.{rules}
use native.Mathlib.Omega.{arith}
use borrow.Author.Tests.{le-leb, lt-leb}
use denote.Floats.{passes}
use mathlib.Core.Path.{sym, ◌∙◌}
use lib.Ieee.{nan}
use Rattle.rules.specs.Records.{with_edges}
use Rattle.rules.specs.Refusals.{refusing, no_such_edge}
use Rattle.keeps.proofs.Calls.{widen_keeps}
use Rattle.keeps.proofs.Kept.{kept}
use Rattle.edges.proofs.Changed.{edge_widened_is, widen_is}
use Rattle.edges.proofs.widen.Goals as goal

pub returns-then-no_widening : goal.returns-then-no_widening
unfolding refusing
returns-then-no_widening c = let both = kept (widen_keeps c.args.edge c.args.bytes_per_sec c.args.flows (search rules) c.requires) (rw (c.refused.ensures, widen_is, sym c.no_widening.ensures ∙ c.if-no_widening.true)) in record { exactly = both.0; sound = both.1 }

pub returns-then-flows-e : goal.returns-then-flows-e
unfolding refusing no_such_edge
returns-then-flows-e c = let both = kept (widen_keeps c.args.edge c.args.bytes_per_sec c.args.flows (search rules) c.requires)
    (rw (c.refused-then-flows-e.ensures, widen_is, sym c.no_widening.ensures ∙ c.if-no_widening.false, le-leb c.args.flows.num_edges c.args.edge (omega arith))) in record { exactly = both.0; sound = both.1 }

pub returns : goal.returns
unfolding refusing no_such_edge with_edges
returns c = let both = kept (widen_keeps c.args.edge c.args.bytes_per_sec c.args.flows (passes _ c.well_formed.1.1.0.1) c.requires)
    (rw (widen_is, sym c.no_widening.ensures ∙ c.if-no_widening.false, lt-leb c.args.flows.num_edges c.args.edge (omega arith), edge_widened_is c.args.edge _ c.args.flows (record { capacity = nan; bytes_moved = nan; busy_transfer_seconds = nan }), c.made_stale.ensures, ← c.drained_to_clock.ensures.exactly, ← c.read_zero.ensures)) in record { exactly = both.0; sound = both.1 }
