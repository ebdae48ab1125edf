-- `Tolerance::new` has F as its floor: the literal is the double nearest to it. Assumes nothing.
use mathlib.Core.Path.{refl}
use lib.Ieee.{of_bits, round}
use Rattle.rules.proofs.Tolerance.new.Goals as goal

pub returns : goal.returns
unfolding of_bits round
returns c = refl
