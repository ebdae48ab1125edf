-- `limit_by` takes the definition's cases one by one. Assumes nothing.
use mathlib.Core.Path.{sym, ap}
use Rattle.rules.specs.Filling.{limit_by}
use Rattle.rounds.proofs.limit_by.Goals as goal

pub returns-in-ByCap : goal.returns-in-ByCap
unfolding limit_by
returns-in-ByCap c = sym (ap limit_by c.in-ByCap.is)

pub returns-in-ByEdge : goal.returns-in-ByEdge
unfolding limit_by
returns-in-ByEdge c = sym (ap limit_by c.in-ByEdge.is)
