-- `gain_busy_all` puts each edge through `gain_busy` in place. Assumes nothing.
use mathlib.Core.Path.{refl, sym, ◌∙◌}
use native.Mathlib.Omega.{arith}
use lib.ListN.{length-set}
use Rattle.rules.proofs.Numbered.{place_one, place_end}
use Rattle.crossings.proofs.gain_busy_all.Invariants.{busier}
use Rattle.crossings.proofs.gain_busy_all.Goals as goal

pub loop-e-init : goal.loop-e-init
loop-e-init c = (c.told-edges, refl)

pub loop-e-preserved : goal.loop-e-preserved
loop-e-preserved c = (
  length-set c.loop-e.after c.loop-e.e c.gain_busy.result ∙ c.loop-e.invariant.0,
  rw c.gain_busy.ensures (place_one (busier c.args.dt c.args.load.now) c.loop-e.after c.loop-e.e _ (omega arith) ∙ c.loop-e.invariant.1),
)

pub returns : goal.returns
returns c = sym (place_end (busier c.args.dt c.args.load.now) c.loop-e.after c.loop-e.e (omega arith)) ∙ c.loop-e.invariant.1
