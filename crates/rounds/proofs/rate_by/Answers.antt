-- `rate_by` takes the definition's cases one by one. Assumes nothing.
use Rattle.rules.specs.Filling.{rate_by}
use Rattle.rounds.proofs.rate_by.Goals as goal

pub returns-in-ByCap : goal.returns-in-ByCap
unfolding rate_by
returns-in-ByCap c = rw c.in-ByCap.is

pub returns-in-ByEdge : goal.returns-in-ByEdge
unfolding rate_by
returns-in-ByEdge c = rw c.in-ByEdge.is
