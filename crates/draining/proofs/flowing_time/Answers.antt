-- `flowing_time` is what the latency leaves. Assumes nothing.
use Rattle.rules.specs.Clock.{flowing_time}
use Rattle.draining.proofs.flowing_time.Goals as goal

pub returns : goal.returns
unfolding flowing_time
returns c = rw c.latency_paid.ensures
