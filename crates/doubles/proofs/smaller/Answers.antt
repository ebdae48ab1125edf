-- `doubles::smaller` meets its contract: the definition's test is the code's, and each branch says how it ended. Assumes nothing.
use Rattle.std.proofs.Common.{◌≡◌, true, false}
use lib.Ieee.{lt}
use Rattle.doubles.specs.Doubles.{smaller}
use Rattle.doubles.proofs.smaller.Goals as goal

pub returns-then-y-x : goal.returns-then-y-x
unfolding smaller
returns-then-y-x c = let second_below : lt c.args.y c.args.x ≡ true = c.if-y-x.true in rw second_below

pub returns-else-y-x : goal.returns-else-y-x
unfolding smaller
returns-else-y-x c = let not_second_below : lt c.args.y c.args.x ≡ false = c.if-y-x.false in rw not_second_below
