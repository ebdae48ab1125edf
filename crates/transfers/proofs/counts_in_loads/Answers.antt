-- `counts_in_loads` is its definition. Assumes nothing.
use mathlib.Core.Path.{refl}
use Rattle.rules.specs.Clock.{counts_in_loads}
use Rattle.transfers.proofs.counts_in_loads.Goals as goal

pub returns : goal.returns
unfolding counts_in_loads
returns c = refl
