-- `made_stale` sets the one mark. Assumes nothing.
use mathlib.Core.Path.{refl}
use Rattle.rules.specs.Records.{with_clock, made_stale}
use Rattle.clock.proofs.made_stale.Goals as goal

pub returns : goal.returns
unfolding made_stale with_clock
returns c = refl
