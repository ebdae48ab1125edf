-- `with_rate` makes the transfer anew with the definition's fields. Assumes nothing.
use mathlib.Core.Path.{refl}
use Rattle.rules.specs.Filling.{with_rate}
use Rattle.transfers.proofs.with_rate.Goals as goal

pub returns : goal.returns
unfolding with_rate
returns c = refl
