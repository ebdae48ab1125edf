-- `takes_part` is its definition, test by test. Assumes nothing.
use lib.Ieee.{of_bits, round}
use Rattle.rules.specs.Filling.{takes_part}
use Rattle.transfers.proofs.takes_part.Goals as goal

pub returns-then-t : goal.returns-then-t
unfolding takes_part of_bits round
returns-then-t c = rw c.if-t.true

pub returns-else-t : goal.returns-else-t
unfolding takes_part
returns-else-t c = rw c.if-t.false
