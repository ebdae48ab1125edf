-- `Tolerance::not_a_floor` tests both ends, which its literals are. Assumes nothing.
use mathlib.Core.Path.{◌≡◌}
use mathlib.Core.Bool.{true, false}
use lib.Ieee.{of_bits, round}
use Rattle.doubles.specs.Doubles.{◌≼◌}
use Rattle.rules.specs.Tolerance.{F}
use Rattle.rules.specs.Refusals.{not_a_floor}
use Rattle.rules.proofs.Tolerance.not_a_floor.Goals as goal
use Rattle.rules.proofs.Tolerance.not_a_floor.Goals.{then-floor, else-floor}

pub returns : goal.returns
unfolding not_a_floor of_bits round
returns c = elim c.if-floor.branch [
  | then-floor w ↦ let low : (F ≼ c.args.floor) ≡ true = w.if-floor.true in rw (w.result-is, low)
  | else-floor w ↦ let low : (F ≼ c.args.floor) ≡ false = w.if-floor.false in rw (w.result-is, low)
]
