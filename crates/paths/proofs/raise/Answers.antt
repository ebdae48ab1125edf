-- `raise` counts one more for each crossing: the loop walks the path, and a counter with the crossings left never passes what it holds at the end. Assumes nothing.
use native.Mathlib.Omega.{arith}
use borrow.Author.Rules.{rules}
use lib.ListN.{get_or}
use Rattle.paths.proofs.Walk.{walk_starts, walk_one, walk_ends, place_known, crossing_left, raised_at}
use Rattle.paths.proofs.raise.Goals as goal

pub loop-e-init : goal.loop-e-init
loop-e-init c = walk_starts

pub offset_bounds-load-e : goal.offset_bounds-load-e
offset_bounds-load-e c = let known = place_known c.requires.known c.loop-e.invariant c.loop-e-test.true in search rules

pub bounds-load-e : goal.bounds-load-e
bounds-load-e c = place_known c.requires.known c.loop-e.invariant c.loop-e-test.true

pub overflow_add-load : goal.overflow_add-load
overflow_add-load c =
    let known = place_known c.requires.known c.loop-e.invariant c.loop-e-test.true in
    let e = get_or c.args.path.now c.loop-e.e-index 0 in
    omega (
      arith,
      c.requires.roomy.room e,
      raised_at c.args.path.now c.args.load.now c.loop-e.load c.loop-e.e-index e c.loop-e.invariant known,
      crossing_left c.args.path.now c.loop-e.e-index c.loop-e-test.true,
    )

pub bounds-load-e-in-loop-e : goal.bounds-load-e-in-loop-e
bounds-load-e-in-loop-e c = place_known c.requires.known c.loop-e.invariant c.loop-e-test.true

pub loop-e-preserved : goal.loop-e-preserved
loop-e-preserved c = walk_one 0 c.loop-e.invariant c.loop-e-test.true (omega arith)

pub shape_of-load : goal.shape_of-load
shape_of-load c = c.loop-e.invariant.long

pub returns : goal.returns
returns c = walk_ends c.loop-e.invariant (search rules)
