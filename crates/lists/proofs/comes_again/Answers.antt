-- `comes_again` looks at the next entry alone, which is enough in a queue that is in order. Assumes nothing.
use mathlib.Core.Path.{sym, ◌∙◌}
use native.Mathlib.Omega.{arith}
use borrow.Author.Tests.{le-ltb}
use borrow.Author.Rules.{rules}
use lib.ListN.{get_or}
use Rattle.rules.specs.Records.{blank_completion}
use Rattle.rules.proofs.Steps.{get_d_any}
use Rattle.queue.proofs.Taken.{past_end}
use Rattle.lists.proofs.Adjacent.{comes_again, comes_last}
use Rattle.lists.proofs.comes_again.Goals as goal

pub returns-then-i-waiting : goal.returns-then-i-waiting
returns-then-i-waiting c =
    rw (get_d_any c.args.waiting.now c.args.i blank_completion past_end (omega arith))
    (c.same_owner.ensures ∙ sym (comes_again c.args.waiting.now c.args.i past_end c.requires.in_order (omega arith)))

pub returns-else-i-waiting : goal.returns-else-i-waiting
returns-else-i-waiting c =
    let at_last = le-ltb _ _ c.if-i-waiting.false in
    let none = comes_last c.args.waiting.now c.args.i (get_or c.args.waiting.now c.args.i blank_completion).owner (omega arith) in
    search rules
