-- `first_share` is the share of the first edge with load: those before it give none. Assumes nothing.
use mathlib.Core.Path.{◌∙◌}
use Rattle.rounds.proofs.Searching.{first_share_is}
use Rattle.rounds.proofs.first_share.Goals as goal

pub returns : goal.returns
returns c =
    c.share.ensures ∙ rw c.first_loaded-first.ensures.first (first_share_is c.args.load.now c.args.residual.now _ c.requires.same c.requires.loaded)
