-- `on_tally` stores the changed tally under its kind. Assumes nothing.
use Rattle.rules.specs.Records.{with_totals, on_tally}
use Rattle.tallies.proofs.on_tally.Goals as goal

pub returns-in-Worker : goal.returns-in-Worker
unfolding on_tally with_totals
returns-in-Worker g c = (c.change-tally.result, rw (← c.tally_of.ensures) c.change-tally.ensures, rw c.in-Worker.is)

pub returns-in-Handoff : goal.returns-in-Handoff
unfolding on_tally with_totals
returns-in-Handoff g c = (c.change-tally.result, rw (← c.tally_of.ensures) c.change-tally.ensures, rw c.in-Handoff.is)

pub returns-in-Write : goal.returns-in-Write
unfolding on_tally with_totals
returns-in-Write g c = (c.change-tally.result, rw (← c.tally_of.ensures) c.change-tally.ensures, rw c.in-Write.is)
