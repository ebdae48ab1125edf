-- `not_a_time`: an amount is one unless it is beyond 2^40, which the literal is. Assumes nothing.
use lib.Ieee.{of_bits, of_int}
use Rattle.rules.specs.Refusals.{not_a_time}
use Rattle.arguments.proofs.not_a_time.Goals as goal

pub returns-then-not_an_amount : goal.returns-then-not_an_amount
unfolding not_a_time
returns-then-not_an_amount c = rw (← c.not_an_amount.ensures, c.if-not_an_amount.true)

pub returns-else-not_an_amount : goal.returns-else-not_an_amount
unfolding not_a_time of_bits of_int
returns-else-not_an_amount c = rw (← c.not_an_amount.ensures, c.if-not_an_amount.false)
