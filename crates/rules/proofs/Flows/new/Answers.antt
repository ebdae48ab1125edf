-- `Flows::new` is the fresh simulator, field by field, and so keeps the invariant. Assumes nothing.
use lib.Ieee.{of_bits}
use Rattle.rules.proofs.Fresh.{fresh_keeps}
use Rattle.rules.proofs.Flows.new.Goals as goal

pub returns : goal.returns
unfolding of_bits
returns c = record { exactly = rw (c.new.ensures, c.free-free.ensures); sound = rw (c.new.ensures, c.free-free.ensures) fresh_keeps }
