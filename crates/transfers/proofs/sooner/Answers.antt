-- `sooner` is its definition, variant by variant. Assumes nothing.
use Rattle.rules.specs.Done.{sooner}
use Rattle.transfers.proofs.sooner.Goals as goal

pub returns-in-Never-default : goal.returns-in-Never-default
unfolding sooner
returns-in-Never-default c = rw c.in-Never-default.is-0

pub returns-in_default-Never : goal.returns-in_default-Never
unfolding sooner
returns-in_default-Never c = simp (c.in_default-Never.is-0, c.in_default-Never.is-1)

pub returns-then-y-x : goal.returns-then-y-x
unfolding sooner
returns-then-y-x c = simp (c.in-After-After.is-0, c.in-After-After.is-1, c.if-y-x.true)

pub returns-else-y-x : goal.returns-else-y-x
unfolding sooner
returns-else-y-x c = simp (c.in-After-After.is-0, c.in-After-After.is-1, c.if-y-x.false)
