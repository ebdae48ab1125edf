-- `no_widening` reads a capacity only of an edge that is there. Assumes nothing.
use native.Mathlib.Omega.{arith}
use borrow.Author.Tests.{le-leb, lt-leb, le-ltb}
use Rattle.rules.specs.Refusals.{no_such_edge}
use Rattle.rules.specs.Edges.{wider, no_widening}
use Rattle.rules.specs.Records.{blank_edge}
use Rattle.rules.proofs.Steps.{get_d_any}
use Rattle.edges.proofs.no_widening.Goals as goal

pub returns-then-not_finite : goal.returns-then-not_finite
unfolding no_widening
returns-then-not_finite c = rw (← c.not_finite.ensures, c.if-not_finite.true)

pub returns-then-e-flows : goal.returns-then-e-flows
unfolding no_widening no_such_edge wider
returns-then-e-flows c =
    let flows = c.args.flows.now in
    let told = rw (get_d_any flows.edges c.args.e _ blank_edge (omega arith)) at c.not_an_amount.ensures in
    rw (← c.not_finite.ensures, c.if-not_finite.false, lt-leb flows.num_edges c.args.e (omega arith), told)

pub returns-else-e-flows : goal.returns-else-e-flows
unfolding no_widening no_such_edge
returns-else-e-flows c = rw (← c.not_finite.ensures, c.if-not_finite.false, le-leb c.args.flows.now.num_edges c.args.e (omega arith)) (le-ltb c.args.e c.args.flows.now.num_edges (omega arith))
