-- `doubles::larger` meets its contract: the definition's test is the code's, and each branch says how it ended. Assumes nothing.
use Rattle.std.proofs.Common.{◌≡◌, true, false}
use lib.Ieee.{lt}
use Rattle.doubles.specs.Doubles.{larger}
use Rattle.doubles.proofs.larger.Goals as goal

pub returns-then-x-y : goal.returns-then-x-y
unfolding larger
returns-then-x-y c = let first_below : lt c.args.x c.args.y ≡ true = c.if-x-y.true in rw first_below

pub returns-else-x-y : goal.returns-else-x-y
unfolding larger
returns-else-x-y c = let not_first_below : lt c.args.x c.args.y ≡ false = c.if-x-y.false in rw not_first_below
