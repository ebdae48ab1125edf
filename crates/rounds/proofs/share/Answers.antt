-- `share` divides; a load of at most 2,048 is exact as a double. Assumes nothing.
use mathlib.Core.Path.{refl}
use Rattle.rules.specs.Filling.{share}
use Rattle.rounds.proofs.share.Goals as goal

pub returns : goal.returns
unfolding share
returns c = refl
