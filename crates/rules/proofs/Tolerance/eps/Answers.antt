-- `Tolerance::eps` is the larger of four steps at the clock and the floor: its literals are the doubles that the definition names. Assumes nothing.
use lib.Ieee.{of_bits, of_int, round}
use Rattle.rules.specs.Tolerance.{eps}
use Rattle.rules.proofs.Tolerance.eps.Goals as goal

pub returns : goal.returns
unfolding eps of_bits of_int round
returns c = c.larger.ensures
