-- `start` asks the tables in the order of the numbers, and where none refuses there is room and a number for the transfer. Assumes nothing.
use native.Mathlib.Omega.{arith}
use Prim.Native.Nat.{◌+◌, ◌-◌, ◌^◌}
use borrow.Author.Tests.{leb-false, eqb-false}
use mathlib.Core.Path.{sym, ◌∙◌}
use Rattle.rules.specs.Records.{num_in_flight, tally_of, contains}
use Rattle.rules.specs.Refusals.{refusing, is_full}
use Rattle.slots.proofs.Found.{nowhere, somewhere}
use Rattle.starting.specs.Started.{start}
use Rattle.starting.proofs.start.Goals as goal

pub returns-in-Slot : goal.returns-in-Slot
unfolding start refusing contains
returns-in-Slot c =
    let found = somewhere c.args.transfer.id c.args.flows.in_flight _ (sym c.find.ensures ∙ c.in-Slot.is) in rw (c.refused.ensures, found.some_has)

pub returns-then-is_full : goal.returns-then-is_full
unfolding start refusing contains
returns-then-is_full c =
    let missing = nowhere c.args.transfer.id c.args.flows.in_flight (sym c.find.ensures ∙ c.in_default.is) in rw (c.refused-then-is_full.ensures, missing.none_has, ← c.is_full.ensures, c.if-is_full.true)

pub returns-then-has_last_number : goal.returns-then-has_last_number
unfolding start refusing contains
returns-then-has_last_number c =
    let missing = nowhere c.args.transfer.id c.args.flows.in_flight (sym c.find.ensures ∙ c.in_default.is) in
    rw (c.refused-then-has_last_number.ensures, missing.none_has, ← c.is_full.ensures, c.if-is_full.false, ← c.has_last_number.ensures, c.if-has_last_number.true)

pub started-requires : goal.started-requires
unfolding is_full
started-requires c =
    let inv = c.requires.sound in
    let f = c.args.flows in
    let y = tally_of c.args.transfer.owner f.totals in
    let room = leb-false 256 (num_in_flight f + f.num_completed) (sym c.is_full.ensures ∙ c.if-is_full.false) in
    let more = eqb-false y.submitted (2 ^ 64 - 1) (sym c.has_last_number.ensures ∙ c.if-has_last_number.false) in record { sound = inv; time = c.requires.time; later = c.requires.later; room = omega (arith, room); numbered = omega (arith, more, (inv.balanced c.args.transfer.owner).fits) }

pub returns : goal.returns
unfolding start refusing contains
returns c =
    let missing = nowhere c.args.transfer.id c.args.flows.in_flight (sym c.find.ensures ∙ c.in_default.is) in
    rw (c.started.ensures, missing.none_has, ← c.is_full.ensures, c.if-is_full.false, ← c.has_last_number.ensures, c.if-has_last_number.false)
