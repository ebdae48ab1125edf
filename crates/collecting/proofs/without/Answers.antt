-- `without` stores each entry that is another's: those stored, and those left written behind them, make the list at the front of a table of blanks. Assumes nothing.
use mathlib.Core.Path.{◌≡◌, refl, sym, ap, ◌∙◌}
use mathlib.Core.Bool.{true, false, not}
use Prim.Native.Nat.{◌<◌}
use native.Mathlib.Omega.{arith}
use lib.ListN.{length, length-set}
use Rattle.rules.specs.Lists.{write_front}
use Rattle.rules.specs.Records.{blank_completion}
use Rattle.rules.specs.Queue.{belongs}
use Rattle.queue.specs.Tables.{table_of}
use Rattle.rules.proofs.Fronts.{written_none, written_one, written_blank}
use Rattle.collecting.proofs.Chosen.{those_by, those_none}
use Rattle.collecting.proofs.without.Invariants.{others}
use Rattle.collecting.proofs.without.Goals.{then-not-belongs, else-not-belongs}
use Rattle.collecting.proofs.without.Goals as goal

pub loop-c-preserved : goal.loop-c-preserved
loop-c-preserved c =
    elim c.if-not-belongs.branch [
      | then-not-belongs w ↦ let one = those_by (λ d. not (belongs c.args.owner d)) c.args.waiting.now c.loop-c.c-index _ true (ap not (sym c.belongs.ensures ∙ w.if-not-belongs.true)) (omega arith) in
          let room : c.loop-c.count < length c.loop-c.entries = omega arith in (
            omega arith,
            rw w.entries-is (simp length-set c.loop-c.invariant.1),
            omega (arith, ap length one),
            rw (w.entries-is, w.count-is, written_one, ← c.loop-c.invariant.3, one) refl,
          )
      | else-not-belongs w ↦ let none = those_by (λ d. not (belongs c.args.owner d)) c.args.waiting.now c.loop-c.c-index _ false (ap not (sym c.belongs.ensures ∙ w.if-not-belongs.false)) (omega arith) in (
        omega arith,
        rw w.entries-is c.loop-c.invariant.1,
        omega (arith, ap length none),
        rw (w.entries-is, w.count-is, ← c.loop-c.invariant.3, none) refl,
      )
    ]

pub returns : goal.returns
unfolding table_of
returns c =
    let over = those_none (λ d. not (belongs c.args.owner d)) c.args.waiting.now c.loop-c.c-index (omega arith) in
    let all : c.loop-c.count ≡ length (others c.args.owner c.args.waiting.now) = omega (arith, ap length over) in
    let kept : c.loop-c.entries ≡ write_front (others c.args.owner c.args.waiting.now) _ = sym (written_none c.loop-c.count c.loop-c.entries) ∙ (rw over at c.loop-c.invariant.3) in
    rw (kept, written_blank 256 blank_completion (others c.args.owner c.args.waiting.now), ← all) refl
