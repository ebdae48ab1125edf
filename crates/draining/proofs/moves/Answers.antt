-- `moves` is its definition, test by test. Assumes nothing.
use lib.Ieee.{of_bits}
use native.Mathlib.Omega.{arith}
use Rattle.rules.specs.Clock.{moves}
use Rattle.draining.proofs.moves.Goals as goal

pub returns-then-t-2 : goal.returns-then-t-2
unfolding moves of_bits
returns-then-t-2 c = grind arith

pub returns-else-t-2 : goal.returns-else-t-2
unfolding moves of_bits
returns-else-t-2 c = grind arith
