-- `seat` makes the definition's test, and each branch says how it ended. Assumes nothing.
use Rattle.rules.specs.Filling.{seat}
use Rattle.filling.proofs.seat.Goals as goal

pub returns-then-takes_part : goal.returns-then-takes_part
unfolding seat
returns-then-takes_part c = rw (c.entered.ensures, ← c.takes_part.ensures, c.if-takes_part.true)

pub returns : goal.returns
unfolding seat
returns c = rw (c.with_rate.ensures, ← c.takes_part.ensures, c.if-takes_part.false)
