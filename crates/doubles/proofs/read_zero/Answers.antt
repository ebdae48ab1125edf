-- `doubles::read_zero` meets its contract: the definition's test is the code's, and each branch says how it ended. Assumes nothing.
use Rattle.std.proofs.Common.{◌≡◌, true, false}
use lib.Ieee.{eq}
use Rattle.doubles.specs.Doubles.{nought, read_zero}
use Rattle.doubles.proofs.read_zero.Goals as goal

pub returns-then-x : goal.returns-then-x
unfolding read_zero
returns-then-x c = let a_zero : eq c.args.x nought ≡ true = c.if-x.true in rw a_zero

pub returns-else-x : goal.returns-else-x
unfolding read_zero
returns-else-x c = let no_zero : eq c.args.x nought ≡ false = c.if-x.false in rw no_zero
