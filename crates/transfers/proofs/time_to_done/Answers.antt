-- `time_to_done` is its definition, case by case. Assumes nothing.
use mathlib.Core.Path.{◌≡◌}
use mathlib.Core.Bool.{true}
use lib.Ieee.{of_bits, round}
use Rattle.doubles.specs.Doubles.{◌≺◌, nought}
use Rattle.rules.specs.Done.{time_to_done}
use Rattle.transfers.proofs.time_to_done.Goals as goal

pub returns-then-is_done : goal.returns-then-is_done
unfolding time_to_done of_bits
returns-then-is_done c = rw (← c.is_done.ensures, c.if-is_done.true)

pub returns-then-t : goal.returns-then-t
unfolding time_to_done of_bits round
returns-then-t c = rw (← c.is_done.ensures, c.if-is_done.false, c.if-t.true)

pub returns-then-t-2 : goal.returns-then-t-2
unfolding time_to_done of_bits round
returns-then-t-2 c =
    let moves : (nought ≺ c.args.t.rate) ≡ true = c.if-t-2.true in
    rw (← c.is_done.ensures, c.if-is_done.false, c.if-t.false, moves)

pub returns-else-t-2 : goal.returns-else-t-2
unfolding time_to_done of_bits round
returns-else-t-2 c = rw (← c.is_done.ensures, c.if-is_done.false, c.if-t.false, c.if-t-2.false)
