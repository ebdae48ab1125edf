-- `ahead` is its definition, variant by variant. Assumes nothing.
use Rattle.rules.specs.Clock.{ahead}
use Rattle.transfers.proofs.ahead.Goals as goal

pub returns-in-After : goal.returns-in-After
unfolding ahead
returns-in-After c = rw c.in-After.is

pub returns-in-Never : goal.returns-in-Never
unfolding ahead
returns-in-Never c = rw c.in-Never.is
