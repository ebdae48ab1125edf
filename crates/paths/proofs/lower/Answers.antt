-- `lower` counts one less for each crossing: the loop walks the path, and a counter never falls below the crossings left. Assumes nothing.
use native.Mathlib.Omega.{arith}
use borrow.Author.Rules.{rules}
use lib.ListN.{get_or}
use Rattle.paths.proofs.Walk.{walk_starts, walk_one, walk_ends, place_known, crossing_left, counted_one}
use Rattle.paths.proofs.lower.Goals as goal

pub loop-e-init : goal.loop-e-init
loop-e-init c = (walk_starts, c.requires.counted.counted)

pub offset_bounds-load-e : goal.offset_bounds-load-e
offset_bounds-load-e c = let known = place_known c.requires.known c.loop-e.invariant.0 c.loop-e-test.true in search rules

pub bounds-load-e : goal.bounds-load-e
bounds-load-e c = place_known c.requires.known c.loop-e.invariant.0 c.loop-e-test.true

pub overflow_sub-load : goal.overflow_sub-load
overflow_sub-load c =
    omega (
      arith,
      c.loop-e.invariant.1 (get_or c.args.path.now c.loop-e.e-index 0),
      crossing_left c.args.path.now c.loop-e.e-index c.loop-e-test.true,
    )

pub bounds-load-e-in-loop-e : goal.bounds-load-e-in-loop-e
bounds-load-e-in-loop-e c = place_known c.requires.known c.loop-e.invariant.0 c.loop-e-test.true

pub loop-e-preserved : goal.loop-e-preserved
loop-e-preserved c = (
  walk_one 0 c.loop-e.invariant.0 c.loop-e-test.true (omega arith),
  counted_one c.args.path.now c.loop-e.e-index c.loop-e-test.true c.loop-e.load (place_known c.requires.known c.loop-e.invariant.0 c.loop-e-test.true) c.loop-e.invariant.1,
)

pub shape_of-load : goal.shape_of-load
shape_of-load c = c.loop-e.invariant.0.long

pub returns : goal.returns
returns c = walk_ends c.loop-e.invariant.0 (search rules)
