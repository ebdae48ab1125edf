-- `tighter` makes the definition's test. Assumes nothing.
use mathlib.Core.Path.{sym, ap}
use mathlib.Core.Bool.{Bool, cond}
use Rattle.rules.specs.Filling.{tighter_share}
use Rattle.rounds.proofs.tighter.Goals as goal

pub returns-then-y-x : goal.returns-then-y-x
unfolding tighter_share
returns-then-y-x c = ap (λ (b : Bool). cond b c.args.y c.args.x) (sym c.if-y-x.true)

pub returns-else-y-x : goal.returns-else-y-x
unfolding tighter_share
returns-else-y-x c = ap (λ (b : Bool). cond b c.args.y c.args.x) (sym c.if-y-x.false)
