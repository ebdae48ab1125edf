-- `is_done` is its definition, test by test. Assumes nothing.
use lib.Ieee.{of_bits, round}
use Rattle.rules.specs.Done.{is_done}
use Rattle.transfers.proofs.is_done.Goals as goal

pub returns-then-t : goal.returns-then-t
unfolding is_done of_bits round
returns-then-t c = simp (c.if-t-eps.true, c.if-t.true)

pub returns-then-t-2 : goal.returns-then-t-2
unfolding is_done of_bits round
returns-then-t-2 c = rw (c.if-t-eps.true, c.if-t.false, c.if-t-2.true)

pub returns-else-t-2 : goal.returns-else-t-2
unfolding is_done of_bits round
returns-else-t-2 c = rw (c.if-t-eps.true, c.if-t.false, c.if-t-2.false)

pub returns-else-t-eps : goal.returns-else-t-eps
unfolding is_done
returns-else-t-eps c = rw c.if-t-eps.false
