-- `submitted_transfer` fills in each field as read. Assumes nothing.
use Rattle.rules.specs.Submission.{submitted_transfer}
use Rattle.submission.proofs.submitted_transfer.Goals as goal

pub returns : goal.returns
unfolding submitted_transfer
returns c = rw (c.read_zero-2.ensures, c.whole.ensures, c.larger.ensures, c.read_zero.ensures, c.read_cap.ensures, c.route_of.ensures)
