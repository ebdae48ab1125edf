-- `latency_paid` is the smaller of the two that its definition names. Assumes nothing.
use Rattle.rules.specs.Clock.{latency_paid}
use Rattle.draining.proofs.latency_paid.Goals as goal

pub returns : goal.returns
unfolding latency_paid
returns c = rw c.smaller.ensures
