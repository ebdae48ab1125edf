-- `drained_to_clock` drains to the time that it is, which is a clock time and no earlier. Assumes nothing.
use Rattle.keeps.proofs.Arguments.{le_itself}
use Rattle.rules.specs.Clock.{drained_to_clock}
use Rattle.clock.proofs.drained_to_clock.Goals as goal

pub drain_to-requires : goal.drain_to-requires
drain_to-requires c = record { sound = c.requires; time = c.requires.clock; later = le_itself c.requires.clock.plain }

pub returns : goal.returns
unfolding drained_to_clock
returns c = c.drain_to.ensures
