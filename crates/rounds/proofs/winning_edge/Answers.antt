-- `winning_edge` folds: the best so far, the first share to begin with, against the shares of the edges left gives the smallest of all. Assumes nothing.
use mathlib.Core.Path.{refl, sym, ◌∙◌}
use Prim.Native.Nat.{◌≤◌}
use lib.ListN.{length, drop_of_length-le}
use Rattle.rules.specs.Filling.{shares, smallest_share}
use Rattle.rounds.proofs.Searching.{best_one}
use native.Mathlib.Omega.{arith}
use Rattle.rounds.proofs.winning_edge.Goals as goal

pub loop-e-init : goal.loop-e-init
unfolding smallest_share
loop-e-init c = rw c.first_share-best.ensures refl

pub loop-e-preserved : goal.loop-e-preserved
loop-e-preserved c =
    rw c.against-best.ensures (sym (best_one c.args.load.now c.args.residual.now c.loop-e.e _ (omega arith) c.loop-e.best) ∙ c.loop-e.invariant)

pub returns : goal.returns
unfolding shares
returns c =
    let over : length c.args.residual.now ≤ c.loop-e.e = omega arith in
    rw (drop_of_length-le c.args.residual.now over) at c.loop-e.invariant
