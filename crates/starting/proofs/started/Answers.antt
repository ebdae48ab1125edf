-- `started` drains, which changes neither the tallies nor who is in flight, so there is still a number and a slot for the transfer. Assumes nothing.
use native.Mathlib.Omega.{arith}
use mathlib.Core.Path.{◌≡◌, ap, ◌∙◌}
use Rattle.rules.specs.declared.Tally.{Tally}
use Rattle.rules.specs.declared.Flows.{Flows}
use Rattle.rules.specs.Records.{num_in_flight, tally_of, on_tally}
use Rattle.rules.specs.Submission.{count_submitted}
use Rattle.starting.proofs.Unmoved.{still_counted, still_in_flight, counted_in_flight}
use Rattle.starting.proofs.started.Goals as goal

pub submitted-requires : goal.submitted-requires
submitted-requires c =
    let same = ap (λ (f : Flows). (tally_of c.args.transfer.owner f.totals).submitted) c.drain_to.ensures.exactly in
    let still = ap (λ (y : Tally). y.submitted) (still_counted c.requires.sound c.requires.time c.requires.later c.args.transfer.owner) in
    omega (arith, same, still, c.requires.numbered)

pub joined-requires : goal.joined-requires
joined-requires c =
    let counted = ap num_in_flight c.submitted.ensures ∙ counted_in_flight _ _ _ in
    let drained = ap num_in_flight c.drain_to.ensures.exactly ∙ still_in_flight c.requires.sound c.requires.time c.requires.later in
    omega (arith, counted, drained, c.requires.room)

pub returns : goal.returns
returns c =
    let args = c.args in
    let counted : c.submitted.new.flows ≡ on_tally args.transfer.owner (count_submitted args.bytes) c.drain_to.new.flows = c.submitted.ensures in
    rw (c.made_stale.ensures, c.joined.ensures, ← c.drain_to.ensures.exactly, ← counted)
