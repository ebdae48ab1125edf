-- `write_ids` stores an id for each entry that is the owner's: those stored, and the ids left written behind them, make the list at the front. Assumes nothing.
use mathlib.Core.Path.{◌≡◌, refl, sym, ap, ◌∙◌}
use mathlib.Core.Bool.{true, false}
use Prim.Native.Nat.{◌<◌}
use native.Mathlib.Omega.{arith}
use lib.ListN.{length, length-set}
use Rattle.rules.specs.Queue.{belongs}
use Rattle.rules.proofs.Steps.{count_by}
use Rattle.rules.proofs.Fronts.{written_none, written_one}
use Rattle.collecting.proofs.Chosen.{those_by, those_none}
use Rattle.collecting.proofs.write_ids.Goals.{then-belongs, else-belongs}
use Rattle.collecting.proofs.write_ids.Goals as goal

pub bounds-out-k : goal.bounds-out-k
bounds-out-k c =
    let one = count_by (belongs c.args.owner) c.args.waiting.now c.loop-c.c-index _ true (sym c.belongs.ensures ∙ c.if-belongs.true) (omega arith) in
    omega arith

pub loop-c-preserved : goal.loop-c-preserved
loop-c-preserved c =
    elim c.if-belongs.branch [
      | then-belongs w ↦ let mine = sym c.belongs.ensures ∙ w.if-belongs.true in
          let one = those_by (belongs c.args.owner) c.args.waiting.now c.loop-c.c-index _ true mine (omega arith) in
          let more = count_by (belongs c.args.owner) c.args.waiting.now c.loop-c.c-index _ true mine (omega arith) in
          let room : c.loop-c.k < length c.loop-c.out = omega arith in
          let long : length c.if-belongs.out ≡ length c.loop-c.out = rw w.out-is (simp length-set) in
          (omega arith, omega arith, omega arith, rw (w.out-is, w.k-is, written_one, ← c.loop-c.invariant.3, one) refl)
      | else-belongs w ↦ let other = sym c.belongs.ensures ∙ w.if-belongs.false in
          let none = those_by (belongs c.args.owner) c.args.waiting.now c.loop-c.c-index _ false other (omega arith) in
          let same = count_by (belongs c.args.owner) c.args.waiting.now c.loop-c.c-index _ false other (omega arith) in
          let long : length c.if-belongs.out ≡ length c.loop-c.out = ap length w.out-is in
          (omega arith, omega arith, omega arith, rw (w.out-is, w.k-is, ← c.loop-c.invariant.3, none) refl)
    ]

pub returns : goal.returns
returns c = sym (written_none c.loop-c.k c.loop-c.out) ∙ (rw (those_none (belongs c.args.owner) c.args.waiting.now c.loop-c.c-index (omega arith)) at c.loop-c.invariant.3)
