-- `of_id` hands out the slot that a search finds. Assumes nothing.
use mathlib.Core.Path.{sym, ◌∙◌}
use native.Mathlib.Omega.{arith}
use Rattle.rules.proofs.Steps.{get_d_any}
use Rattle.rules.specs.Records.{free}
use Rattle.slots.proofs.Found.{nowhere, somewhere}
use Rattle.slots.proofs.of_id.Goals as goal

pub returns-in_default : goal.returns-in_default
returns-in_default c = c.free.ensures ∙ sym ((nowhere c.args.id c.args.in_flight.now (sym c.find.ensures ∙ c.in_default.is)).of_none free (λ t. t))

pub offset_bounds-in_flight-i : goal.offset_bounds-in_flight-i
offset_bounds-in_flight-i c = omega (arith, (somewhere c.args.id c.args.in_flight.now _ (sym c.find.ensures ∙ c.in-Slot.is)).inside)

pub bounds-in_flight-i : goal.bounds-in_flight-i
bounds-in_flight-i c = omega (arith, (somewhere c.args.id c.args.in_flight.now _ (sym c.find.ensures ∙ c.in-Slot.is)).inside)

pub returns : goal.returns
returns c =
    let found = somewhere c.args.id c.args.in_flight.now _ (sym c.find.ensures ∙ c.in-Slot.is) in
    get_d_any c.args.in_flight.now _ _ free found.inside ∙ sym (found.of_some free (λ t. t))
