-- `verdict` takes the definition's cases one by one, with its one test where there is a cap. Assumes nothing.
use Rattle.rules.specs.Filling.{verdict}
use Rattle.rounds.proofs.verdict.Goals as goal

pub returns-in_default : goal.returns-in_default
unfolding verdict
returns-in_default c = rw c.in_default.is

pub returns-then-cap-best : goal.returns-then-cap-best
unfolding verdict
returns-then-cap-best c = simp (c.in-At.is, c.if-cap-best.true)

pub returns-else-cap-best : goal.returns-else-cap-best
unfolding verdict
returns-else-cap-best c = simp (c.in-At.is, c.if-cap-best.false)
