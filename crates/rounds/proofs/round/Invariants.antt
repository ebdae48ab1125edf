-- `round` carries the verdict out seat by seat, in place, counting those that stay unfrozen. Assumes nothing.
use Rattle.rounds.proofs.Freezing.{Freezing}
use Rattle.rounds.proofs.round.Given as goal

abbrev pub invariant-loop-i : goal.invariant-loop-i
invariant-loop-i l = Freezing l.v l.fn.f.seats l.fn.f.residual l.seats l.residual l.load l.unfrozen l.i
