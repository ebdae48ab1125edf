-- `crosses`: the library's search of a slice is the definition's, but for the order in which two numbers are compared. Assumes nothing.
use mathlib.Core.Path.{◌∙◌}
use Rattle.rules.proofs.Chains.{any_is}
use Rattle.rules.proofs.Crossings.{eqb_swap}
use Rattle.paths.proofs.crosses.Goals as goal

pub returns : goal.returns
returns c = c.contains.ensures.value ∙ any_is (λ x. eqb_swap x c.args.e) c.args.path.now
