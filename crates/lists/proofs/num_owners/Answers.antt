-- `num_owners` counts each owner at its last entry, which is where its definition keeps it: what is counted, and what is left to count, make the whole.
-- Assumes nothing.
use mathlib.Core.Path.{sym, ap, ◌∙◌}
use mathlib.Core.Bool.{true, false}
use native.Mathlib.Omega.{arith}
use lib.ListN.{length}
use Rattle.rules.specs.Records.{blank_completion}
use Rattle.lists.proofs.Adjacent.{owners_by, owners_none}
use Rattle.lists.proofs.num_owners.Goals.{then-not-comes_again, else-not-comes_again}
use Rattle.lists.proofs.num_owners.Goals as goal

pub loop-i-preserved : goal.loop-i-preserved
loop-i-preserved c =
    elim c.if-not-comes_again.branch [
      | then-not-comes_again w ↦ let one = owners_by c.args.waiting.now c.loop-i.i blank_completion false (sym c.comes_again.ensures ∙ w.if-not-comes_again.true) (omega arith) in
          (omega (arith, w.found-is), omega (arith, w.found-is, ap length one))
      | else-not-comes_again w ↦ let none = owners_by c.args.waiting.now c.loop-i.i blank_completion true (sym c.comes_again.ensures ∙ w.if-not-comes_again.false) (omega arith) in
          (omega (arith, w.found-is), omega (arith, w.found-is, ap length none))
    ]

pub returns : goal.returns
returns c = let over = owners_none c.args.waiting.now c.loop-i.i (omega arith) in omega (arith, ap length over)
