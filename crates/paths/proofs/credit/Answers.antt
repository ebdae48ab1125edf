-- `credit` adds the amount once for each crossing: the loop walks the path, one store to a crossing. Assumes nothing.
use mathlib.Core.Path.{refl}
use borrow.Author.Rules.{rules}
use lib.Ieee.{nan}
use Rattle.paths.proofs.Walk.{walk_starts, walk_one, walk_ends, place_known}
use Rattle.paths.proofs.credit.Goals as goal

pub loop-e-init : goal.loop-e-init
loop-e-init c = walk_starts

pub offset_bounds-moved-e : goal.offset_bounds-moved-e
offset_bounds-moved-e c = let known = place_known c.requires c.loop-e.invariant c.loop-e-test.true in search rules

pub bounds-moved-e : goal.bounds-moved-e
bounds-moved-e c = place_known c.requires c.loop-e.invariant c.loop-e-test.true

pub bounds-moved-e-in-loop-e : goal.bounds-moved-e-in-loop-e
bounds-moved-e-in-loop-e c = place_known c.requires c.loop-e.invariant c.loop-e-test.true

pub loop-e-preserved : goal.loop-e-preserved
loop-e-preserved c = walk_one nan c.loop-e.invariant c.loop-e-test.true refl

pub shape_of-moved : goal.shape_of-moved
shape_of-moved c = c.loop-e.invariant.long

pub returns : goal.returns
returns c = walk_ends c.loop-e.invariant (search rules)
