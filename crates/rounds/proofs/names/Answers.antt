-- `names` takes the definition's cases one by one: a number is equal, or the path crosses the edge. Assumes nothing.
use Rattle.rules.specs.Filling.{names}
use Rattle.rounds.proofs.names.Goals as goal

pub returns-in-ByCap : goal.returns-in-ByCap
unfolding names
returns-in-ByCap c = rw c.in-ByCap.is

pub returns-in-ByEdge : goal.returns-in-ByEdge
unfolding names
returns-in-ByEdge c = rw (c.in-ByEdge.is, c.crosses.ensures)
