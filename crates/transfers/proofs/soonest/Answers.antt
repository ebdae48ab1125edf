-- `soonest` is the fold of its definition, whose step is a call of `sooner_with`. Assumes nothing.
use Rattle.std.proofs.Common.{rules}
use Rattle.rules.specs.Clock.{soonest}
use Rattle.rules.proofs.Chains.{folded}
use Rattle.transfers.proofs.soonest.Goals as goal

pub returns : goal.returns
unfolding soonest
returns c = folded _ _ _ (λ a x b f' k. search rules) _ _ c.iter.ensures.rest _ _ c.fold.ensures.ran
