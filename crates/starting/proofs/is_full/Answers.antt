-- `is_full` adds up; the sum is at most 256. Assumes nothing.
use Rattle.rules.specs.Records.{num_in_flight}
use Rattle.rules.specs.Refusals.{is_full}
use Rattle.starting.proofs.is_full.Goals as goal

pub returns : goal.returns
unfolding is_full num_in_flight
returns c = rw c.num_taken.ensures.exactly
