-- `bytes_flowing` is the smaller of what flows and what is left. Assumes nothing.
use Rattle.rules.specs.Clock.{bytes_flowing}
use Rattle.draining.proofs.bytes_flowing.Goals as goal

pub returns : goal.returns
unfolding bytes_flowing
returns c = rw (c.smaller.ensures, c.flowing_time.ensures)
