-- `add_edge` gives the next number to an edge that nothing has crossed; the drain before it leaves how many edges there are. Assumes nothing.
use borrow.Author.Rules.{rules}
use native.Mathlib.Omega.{arith}
use borrow.Author.Tests.{le-leb, lt-leb}
use mathlib.Core.Path.{sym, ◌∙◌}
use Rattle.rules.specs.Records.{with_edges}
use Rattle.rules.specs.Refusals.{refusing}
use Rattle.rules.specs.Edges.{add_edge}
use Rattle.keeps.proofs.Calls.{add_edge_keeps}
use Rattle.keeps.proofs.Kept.{kept}
use Rattle.edges.proofs.Changed.{edge_added_is}
use Rattle.edges.proofs.add_edge.Goals as goal

pub returns-then-not_an_amount : goal.returns-then-not_an_amount
unfolding add_edge refusing
returns-then-not_an_amount c = let both = kept (add_edge_keeps c.args.capacity c.args.flows (search rules) c.requires) (rw (c.refused.ensures, sym c.not_an_amount.ensures ∙ c.if-not_an_amount.true)) in record { exactly = both.0; sound = both.1 }

pub returns-then-e-ge64 : goal.returns-then-e-ge64
unfolding add_edge refusing
returns-then-e-ge64 c = let both = kept (add_edge_keeps c.args.capacity c.args.flows (search rules) c.requires) (rw (c.refused-then-e-ge64.ensures, sym c.not_an_amount.ensures ∙ c.if-not_an_amount.false, le-leb 64 c.args.flows.num_edges (omega arith))) in record { exactly = both.0; sound = both.1 }

pub returns : goal.returns
unfolding add_edge refusing with_edges
returns c = let both = kept (add_edge_keeps c.args.capacity c.args.flows (search rules) c.requires)
    (rw (sym c.not_an_amount.ensures ∙ c.if-not_an_amount.false, lt-leb 64 c.args.flows.num_edges (omega arith), edge_added_is _ c.requires, c.made_stale.ensures, ← c.drained_to_clock.ensures.exactly, ← c.read_zero.ensures)) in record { exactly = both.0; sound = both.1 }
