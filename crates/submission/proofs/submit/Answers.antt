-- `submit` is a capped submission with no cap. Assumes nothing.
use Rattle.rules.specs.Submission.{submit}
use Rattle.submission.proofs.submit.Goals as goal

pub returns : goal.returns
unfolding submit
returns c = record { exactly = rw c.submit_capped.ensures.exactly; sound = c.submit_capped.ensures.sound }
