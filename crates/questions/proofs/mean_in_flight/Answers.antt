-- `mean_in_flight` refuses in the order of the numbers, and then reads the edge. Assumes nothing.
use mathlib.Core.Path.{sym, ◌∙◌}
use native.Mathlib.Omega.{arith}
use Rattle.questions.proofs.There.{there}
use Rattle.rules.proofs.Steps.{get_d_any}
use Rattle.rules.specs.Questions.{mean_in_flight}
use Rattle.rules.specs.Records.{blank_edge}
use Rattle.rules.specs.Refusals.{refusing}
use Rattle.questions.proofs.mean_in_flight.Goals as goal

pub bounds-flows-wide : goal.bounds-flows-wide
bounds-flows-wide c = omega (arith, there c.requires c.args.edge (sym c.no_such_edge.ensures ∙ c.if-no_such_edge.false), c.wide.ensures)

pub returns : goal.returns
unfolding mean_in_flight refusing
returns c =
    let inside = there c.requires c.args.edge (sym c.no_such_edge.ensures ∙ c.if-no_such_edge.false) in
    rw (← c.not_finite.ensures, ← c.no_such_edge.ensures, c.if-not_finite.false, c.if-no_such_edge.false, c.mean_over.ensures, c.wide.ensures, ← get_d_any c.args.flows.edges c.args.edge blank_edge)
