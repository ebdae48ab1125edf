-- `sooner_with` chooses where the slot is taken, by what its two callees give. Assumes nothing.
use Rattle.transfers.proofs.sooner_with.Goals as goal

pub returns-then-t : goal.returns-then-t
returns-then-t c = rw (c.sooner.ensures, c.time_to_done.ensures, c.if-t.true)

pub returns-else-t : goal.returns-else-t
returns-else-t c = rw c.if-t.false
