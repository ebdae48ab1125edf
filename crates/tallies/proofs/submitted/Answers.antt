-- `submitted` counts on what it read of the kind. Assumes nothing.
use Rattle.std.proofs.Common.{rules, ◌≡◌}
use Rattle.rules.specs.Records.{tally_of}
use Rattle.rules.specs.Submission.{count_submitted}
use Rattle.tallies.proofs.Known.{by_change}
use Rattle.tallies.proofs.submitted.Goals as goal

pub returns : goal.returns
unfolding count_submitted
returns c =
    let e = c.on_tally.ensures in
    let counted : e.0 ≡ count_submitted c.args.bytes (tally_of c.args.owner c.args.flows.now.totals) = search rules in
    by_change c.args.owner (count_submitted c.args.bytes) c.args.flows.now _ (e.0, counted, e.2)
