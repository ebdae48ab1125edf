-- `fill` goes round by round: each freezes somebody and leaves what the definition has left to do. Assumes nothing.
use Rattle.filling.proofs.Running.{Running}
use Rattle.filling.proofs.fill.Given as goal

abbrev pub invariant-loop-f : goal.invariant-loop-f
invariant-loop-f l = Running l.initial.f l.order l.f

abbrev pub decreases-loop-f : goal.decreases-loop-f
decreases-loop-f l = l.f.unfrozen
