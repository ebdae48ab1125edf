-- `advance` makes its tests in their order, and each decides as in the definition. Assumes nothing.
use borrow.Author.Rules.{rules}
use mathlib.Core.Bool.{true, false}
use mathlib.Core.Path.{◌≡◌, refl, sym, ap, ◌∙◌}
use lib.Ieee.{Float}
use Rattle.advance.proofs.Advanced.{advance_no_time, advance_early, advance_still, advance_lists, advance_sound, quiet_fresh}
use Rattle.doubles.specs.Doubles.{read_zero}
use Rattle.keeps.proofs.Arguments.{time_clock, time_no_earlier}
use Rattle.rules.specs.Advance.{quiet, advance}
use Rattle.rules.specs.declared.Answer.TheVariants.{Listed}
use Rattle.rules.specs.declared.Outcome.{Outcome}
use Rattle.rules.specs.Refusals.{not_a_time}
use Rattle.advance.proofs.advance.Goals as goal

pub returns-then-not_a_time : goal.returns-then-not_a_time
returns-then-not_a_time c =
    let odd : not_a_time c.args.until ≡ true = sym c.not_a_time.ensures ∙ c.if-not_a_time.true in
    let e = advance_no_time c.args.until c.args.flows c.args.out.now odd in record { exactly = rw (c.refused.ensures, e) refl; buffer = rw e refl; sound = rw c.refused.ensures c.requires }

pub returns-then-until-flows : goal.returns-then-until-flows
returns-then-until-flows c =
    let time : not_a_time c.args.until ≡ false = sym c.not_a_time.ensures ∙ c.if-not_a_time.false in
    let e = advance_early c.args.until c.args.flows c.args.out.now time c.if-until-flows.true in record { exactly = rw (c.refused-then-until-flows.ensures, e) refl; buffer = rw e refl; sound = rw c.refused-then-until-flows.ensures c.requires }

pub still-requires : goal.still-requires
still-requires c =
    let still : quiet c.read_zero-time.result c.args.flows ≡ true = sym c.quiet.ensures ∙ c.if-quiet.true in record { sound = c.requires; fresh = quiet_fresh c.read_zero-time.result c.args.flows still }

pub returns-then-quiet : goal.returns-then-quiet
returns-then-quiet c =
    let until = c.args.until in
    let flows = c.args.flows in
    let out = c.args.out.now in
    let time : not_a_time until ≡ false = sym c.not_a_time.ensures ∙ c.if-not_a_time.false in
    let still : quiet (read_zero until) flows ≡ true = ap (λ (u : Float). quiet u flows) (sym c.read_zero-time.ensures) ∙ sym c.quiet.ensures ∙ c.if-quiet.true in
    let e = advance_still until flows out time c.if-until-flows.false still in
    let exactly : ◌≡◌ {A = Outcome} (record { answer = Listed 0; flows = c.still.new.flows }) (advance until flows out).outcome = rw (e, ← c.read_zero-time.ensures, c.still.ensures) refl in record { exactly = exactly; buffer = rw e refl; sound = advance_sound until flows out (search rules) c.requires exactly }

pub list_done-requires : goal.list_done-requires
list_done-requires c =
    let until = c.args.until in
    let time : not_a_time until ≡ false = sym c.not_a_time.ensures ∙ c.if-not_a_time.false in record { sound = c.requires; time = rw c.read_zero-time.ensures (time_clock until (search rules) time); later = rw c.read_zero-time.ensures (time_no_earlier until (search rules) time c.requires.clock.plain c.if-until-flows.false) }

pub returns : goal.returns
returns c =
    let until = c.args.until in
    let flows = c.args.flows in
    let out = c.args.out.now in
    let time : not_a_time until ≡ false = sym c.not_a_time.ensures ∙ c.if-not_a_time.false in
    let loud : quiet (read_zero until) flows ≡ false = ap (λ (u : Float). quiet u flows) (sym c.read_zero-time.ensures) ∙ sym c.quiet.ensures ∙ c.if-quiet.false in
    let e = advance_lists until flows out time c.if-until-flows.false loud in
    let exactly : c.list_done.result ≡ (advance until flows out).outcome = rw (e, ← c.read_zero-time.ensures) c.list_done.ensures.exactly in record { exactly = exactly; buffer = rw (e, ← c.read_zero-time.ensures) c.list_done.ensures.buffer; sound = advance_sound until flows out (search rules) c.requires exactly }
