-- `completed` counts on what it read of the kind. Assumes nothing.
use Rattle.std.proofs.Common.{rules, ◌≡◌}
use Rattle.rules.specs.Records.{tally_of}
use Rattle.rules.specs.Advance.{count_completed}
use Rattle.tallies.proofs.Known.{by_change}
use Rattle.tallies.proofs.completed.Goals as goal

pub returns : goal.returns
unfolding count_completed
returns c =
    let e = c.on_tally.ensures in
    let counted : e.0 ≡ count_completed (tally_of c.args.owner c.args.flows.now.totals) = search rules in
    by_change c.args.owner count_completed c.args.flows.now _ (e.0, counted, e.2)
