-- `cancel` frees the one slot where the id was found, which is there after the drain too, and counts it for its owner. Assumes nothing.
use native.Mathlib.Omega.{arith}
use mathlib.Core.Path.{sym, ap, ◌∙◌}
use lib.ListN.{get_or}
use Rattle.rules.specs.declared.Flows.{Flows}
use Rattle.rules.specs.Records.{free, contains, tally_of, with_in_flight}
use Rattle.rules.specs.Cancel.{cancel}
use Rattle.rules.proofs.Steps.{get_d_any}
use Rattle.slots.proofs.Found.{nowhere, somewhere}
use Rattle.keeps.proofs.Calls.{cancel_keeps}
use Rattle.keeps.proofs.Kept.{kept}
use Rattle.cancel.proofs.Freed.{found_below, drained_tally, cancelled_is, room_to_cancel}
use Rattle.cancel.proofs.cancel.Goals as goal

pub returns-in_default : goal.returns-in_default
unfolding cancel contains
returns-in_default c = let both = kept (cancel_keeps c.args.id c.args.flows c.requires) (rw (nowhere c.args.id c.args.flows.in_flight (sym c.find.ensures ∙ c.in_default.is)).none_has) in record { exactly = both.0; sound = both.1 }

pub offset_bounds-flows-i : goal.offset_bounds-flows-i
offset_bounds-flows-i c = omega (arith, found_below c.requires c.args.id (sym c.find.ensures ∙ c.in-Slot.is))

pub bounds-flows-i : goal.bounds-flows-i
bounds-flows-i c = omega (arith, found_below c.requires c.args.id (sym c.find.ensures ∙ c.in-Slot.is))

pub cancelled-requires : goal.cancelled-requires
cancelled-requires c =
    let flows = c.args.flows in
    let i = c.in-Slot.i in
    let found = somewhere c.args.id flows.in_flight i (sym c.find.ensures ∙ c.in-Slot.is) in
    let kept_totals = ap (λ (g : Flows). (tally_of (get_or flows.in_flight i free).owner g.totals).cancelled) c.drained_to_clock.ensures.exactly in
    rw (get_d_any flows.in_flight i _ free found.inside)
    (omega (arith, kept_totals, drained_tally c.requires (get_or flows.in_flight i free).owner, room_to_cancel c.args.id i c.requires found))

pub offset_bounds-flows-i-2 : goal.offset_bounds-flows-i-2
offset_bounds-flows-i-2 c = omega (arith, found_below c.requires c.args.id (sym c.find.ensures ∙ c.in-Slot.is))

pub bounds-flows-i-2 : goal.bounds-flows-i-2
bounds-flows-i-2 c = omega (arith, found_below c.requires c.args.id (sym c.find.ensures ∙ c.in-Slot.is))

pub returns : goal.returns
unfolding cancel contains with_in_flight
returns c =
    let flows = c.args.flows in
    let i = c.in-Slot.i in
    let found = somewhere c.args.id flows.in_flight i (sym c.find.ensures ∙ c.in-Slot.is) in
    let counted = rw (get_d_any flows.in_flight i _ free found.inside) at c.cancelled.ensures in let both = kept (cancel_keeps c.args.id flows c.requires)
    (rw (found.some_has, cancelled_is c.args.id i c.requires found, c.made_stale.ensures, counted, c.free.ensures, ← c.drained_to_clock.ensures.exactly)) in record { exactly = both.0; sound = both.1 }
