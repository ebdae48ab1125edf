-- `session::made` meets its contract: what the call lists has room in its buffer. Assumes nothing.
use Rattle.flows.proofs.Fitting.{call_fits}
use Rattle.session.proofs.made.Goals as goal

pub said-requires-clause-fits_said : goal.said-requires-clause-fits_said
said-requires-clause-fits_said c =
    let make = c.make-made in rw (c.width.ensures, make.ensures.exactly, make.auto.lent) (call_fits c.args.call c.args.path.now c.args.flows.now c.args.lent.now)
