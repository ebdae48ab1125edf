-- `winning_edge` folds: the best so far, the first share to begin with, against the shares of the edges left gives the smallest of all. Assumes nothing.
use mathlib.Core.Path.{◌≡◌}
use mathlib.Core.List.{foldl}
use lib.ListN.{drop}
use Rattle.rules.specs.Filling.{tighter_share, smallest_share}
use Rattle.rounds.specs.Standing.{shares_by}
use Rattle.rounds.proofs.winning_edge.Given as goal

abbrev pub invariant-loop-e : goal.invariant-loop-e
invariant-loop-e l = foldl tighter_share l.best (shares_by l.load l.e (drop l.e l.residual)) ≡ smallest_share (shares_by l.load 0 l.residual)
