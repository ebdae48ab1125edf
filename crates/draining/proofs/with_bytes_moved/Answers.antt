-- `with_bytes_moved` sets each edge's sum in place. Assumes nothing.
use mathlib.Core.Path.{refl, sym, ◌∙◌}
use native.Mathlib.Omega.{arith}
use lib.Ieee.{nan}
use lib.ListN.{length-set}
use Rattle.doubles.specs.Doubles.{nought}
use Rattle.rules.proofs.Numbered.{place_one, place_end}
use Rattle.rules.proofs.Steps.{get_d_any}
use Rattle.draining.specs.Credits.{with_moved}
use Rattle.draining.proofs.with_bytes_moved.Invariants.{moved_at}
use Rattle.draining.proofs.with_bytes_moved.Goals as goal

pub loop-e-init : goal.loop-e-init
loop-e-init c = (c.told-edges, refl)

pub loop-e-preserved : goal.loop-e-preserved
unfolding with_moved
loop-e-preserved c = (
  length-set c.loop-e.after c.loop-e.e _ ∙ c.loop-e.invariant.0,
  rw (get_d_any c.args.moved.now c.loop-e.e nan nought (omega arith)) (place_one (moved_at c.args.moved.now) c.loop-e.after c.loop-e.e _ (omega arith) ∙ c.loop-e.invariant.1),
)

pub returns : goal.returns
returns c = sym (place_end (moved_at c.args.moved.now) c.loop-e.after c.loop-e.e (omega arith)) ∙ c.loop-e.invariant.1
