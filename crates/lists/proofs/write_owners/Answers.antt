-- `write_owners` stores two numbers an owner, at its last entry, which is where its definition keeps it: those stored, and the pairs left written behind them, make
-- the list at the front. Assumes nothing.
use mathlib.Core.Path.{refl, sym, ap, ◌∙◌}
use mathlib.Core.Bool.{true, false}
use Prim.Native.Nat.{◌+◌, ◌<◌}
use native.Mathlib.Omega.{arith}
use lib.ListN.{length, length-set}
use Rattle.rules.specs.Records.{blank_completion}
use Rattle.rules.specs.Queue.{pairs}
use Rattle.rules.proofs.Fronts.{written_none, written_two}
use Rattle.rules.proofs.Steps.{get_d_any}
use Rattle.queue.proofs.Taken.{past_end}
use Rattle.lists.proofs.Adjacent.{owners_by, owners_none}
use Rattle.lists.proofs.write_owners.Goals.{then-not-comes_again, else-not-comes_again}
use Rattle.lists.proofs.write_owners.Goals as goal

pub bounds-out-k : goal.bounds-out-k
bounds-out-k c =
    let one = owners_by c.args.waiting.now c.loop-i.i blank_completion false (sym c.comes_again.ensures ∙ c.if-not-comes_again.true) (omega arith) in
    omega (arith, ap length one)

pub bounds-out-k-then-not-comes_again : goal.bounds-out-k-then-not-comes_again
bounds-out-k-then-not-comes_again c =
    let one = owners_by c.args.waiting.now c.loop-i.i blank_completion false (sym c.comes_again.ensures ∙ c.if-not-comes_again.true) (omega arith) in
    simp length-set (omega (arith, ap length one))

pub loop-i-preserved : goal.loop-i-preserved
unfolding pairs
loop-i-preserved c =
    elim c.if-not-comes_again.branch [
      | then-not-comes_again w ↦ let one = owners_by c.args.waiting.now c.loop-i.i past_end false (rw (get_d_any c.args.waiting.now c.loop-i.i past_end blank_completion (omega arith)) (sym c.comes_again.ensures ∙ w.if-not-comes_again.true)) (omega arith) in
          let room : c.loop-i.k + 1 < length c.loop-i.out = omega (arith, ap length one) in (
            omega (arith, w.k-is),
            rw w.out-is (simp length-set c.loop-i.invariant.1),
            rw w.out-is (simp length-set (omega (arith, w.k-is, ap length one))),
            rw (w.out-is, w.k-is, written_two, ← c.loop-i.invariant.3, one, ← w.owner_kind.ensures, ← w.owner_worker.ensures) refl,
          )
      | else-not-comes_again w ↦ let none = owners_by c.args.waiting.now c.loop-i.i blank_completion true (sym c.comes_again.ensures ∙ w.if-not-comes_again.false) (omega arith) in (
        omega (arith, w.k-is),
        rw w.out-is c.loop-i.invariant.1,
        rw w.out-is (omega (arith, w.k-is, ap length none)),
        rw (w.out-is, w.k-is, ← c.loop-i.invariant.3, none) refl,
      )
    ]

pub returns : goal.returns
unfolding pairs
returns c = sym (written_none c.loop-i.k c.loop-i.out) ∙ (rw (owners_none c.args.waiting.now c.loop-i.i (omega arith)) at c.loop-i.invariant.3)
