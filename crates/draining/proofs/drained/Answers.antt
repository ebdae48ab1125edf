-- `drained` sets the fields that its definition sets, by what its callees give. Assumes nothing.
use Rattle.rules.specs.Clock.{drained}
use Rattle.draining.proofs.drained.Goals as goal

pub returns-then-moves : goal.returns-then-moves
unfolding drained
returns-then-moves c = rw (c.latency_paid.ensures, c.bytes_flowing.ensures, ← c.moves.ensures, c.if-moves.true, c.if-t.true)

pub returns-else-moves : goal.returns-else-moves
unfolding drained
returns-else-moves c = rw (c.latency_paid.ensures, ← c.moves.ensures, c.if-moves.false, c.if-t.true)

pub returns-else-t : goal.returns-else-t
unfolding drained
returns-else-t c = rw c.if-t.false
