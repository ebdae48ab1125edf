-- `Transfer::free` is the blank slot, field by field. Assumes nothing.
use mathlib.Core.Path.{refl}
use lib.Ieee.{of_bits}
use Rattle.rules.proofs.Transfer.free.Goals as goal

pub returns : goal.returns
unfolding of_bits
returns c = refl
