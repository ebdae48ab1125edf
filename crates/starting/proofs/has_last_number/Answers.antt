-- `has_last_number` compares the number that was counted of the kind. Assumes nothing.
use Rattle.starting.proofs.has_last_number.Goals as goal

pub returns : goal.returns
returns c = rw c.tally_of.ensures
