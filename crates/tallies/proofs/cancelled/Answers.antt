-- `cancelled` counts on what it read of the kind. Assumes nothing.
use Rattle.std.proofs.Common.{rules, ◌≡◌}
use Rattle.rules.specs.Records.{tally_of}
use Rattle.rules.specs.Cancel.{count_cancelled}
use Rattle.tallies.proofs.Known.{by_change}
use Rattle.tallies.proofs.cancelled.Goals as goal

pub returns : goal.returns
unfolding count_cancelled
returns c =
    let e = c.on_tally.ensures in
    let counted : e.0 ≡ count_cancelled (tally_of c.args.owner c.args.flows.now.totals) = search rules in
    by_change c.args.owner count_cancelled c.args.flows.now _ (e.0, counted, e.2)
