-- `spend` takes the rate off once for each crossing: the loop walks the path, one store to a crossing. Assumes nothing.
use borrow.Author.Rules.{rules}
use lib.Ieee.{nan, of_bits}
use Rattle.rules.specs.Filling.{spend}
use Rattle.paths.proofs.Walk.{walk_starts, walk_one, walk_ends, place_known}
use Rattle.paths.proofs.spend.Goals as goal

pub loop-e-init : goal.loop-e-init
loop-e-init c = walk_starts

pub offset_bounds-residual-e : goal.offset_bounds-residual-e
offset_bounds-residual-e c = let known = place_known c.requires c.loop-e.invariant c.loop-e-test.true in search rules

pub bounds-residual-e : goal.bounds-residual-e
bounds-residual-e c = place_known c.requires c.loop-e.invariant c.loop-e-test.true

pub bounds-residual-e-in-loop-e : goal.bounds-residual-e-in-loop-e
bounds-residual-e-in-loop-e c = place_known c.requires c.loop-e.invariant c.loop-e-test.true

pub loop-e-preserved : goal.loop-e-preserved
unfolding spend of_bits
loop-e-preserved c = walk_one nan c.loop-e.invariant c.loop-e-test.true (rw c.larger.ensures)

pub shape_of-residual : goal.shape_of-residual
shape_of-residual c = c.loop-e.invariant.long

pub returns : goal.returns
returns c = walk_ends c.loop-e.invariant (search rules)
