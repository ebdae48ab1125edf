-- `loads_of` counts slot by slot: the slots left, counted on what is counted, make the whole, and there is room for the paths left. Assumes nothing.
use mathlib.Core.Path.{refl, sym, ◌∙◌}
use mathlib.Core.Bool.{true, false}
use Prim.Native.Nat.{◌≤◌}
use native.Mathlib.Nat.{le_of_eq}
use native.Mathlib.Omega.{arith}
use lib.ListN.{length, drop_of_length-le}
use Rattle.rules.specs.Records.{own_path}
use Rattle.rules.proofs.Routes.{route_at}
use Rattle.paths.proofs.Routes.{known_route, known_more}
use Rattle.crossings.proofs.Loads.{loads_counted, room_starts, room_now, counted_next}
use Rattle.crossings.proofs.loads_of.Goals as goal
use Rattle.crossings.proofs.loads_of.Goals.{then-counts, else-counts}

pub loop-t-init : goal.loop-t-init
loop-t-init g c = (λ p tells. refl, room_starts c.args.in_flight.now c.requires.room)

pub raise-requires-clause-known : goal.raise-requires-clause-known
raise-requires-clause-known g c = rw c.hops.ensures (known_more (le_of_eq (sym c.if-counts.array_long)) (known_route (route_at c.args.in_flight.now c.loop-t.t-index _ c.requires.routes (omega arith))))

pub raise-requires-clause-roomy : goal.raise-requires-clause-roomy
unfolding own_path
raise-requires-clause-roomy g c = rw c.hops.ensures (room_now c.args.in_flight.now c.loop-t.load c.loop-t.t-index _ (omega arith) c.loop-t.invariant.1)

pub loop-t-preserved : goal.loop-t-preserved
unfolding own_path
loop-t-preserved g c = elim c.if-counts.branch [
  | then-counts w ↦ counted_next c.args.in_flight.now c.loop-t.load c.loop-t.t-index _ (omega arith) c.loop-t.invariant.1 _ _ true (rw (← w.hops.ensures) (w.load-is ∙ w.raise.ensures)) (λ p tells. sym w.if-counts.true ∙ tells _ _ c.counts.ensures) c.loop-t.invariant.0
  | else-counts w ↦ counted_next c.args.in_flight.now c.loop-t.load c.loop-t.t-index _ (omega arith) c.loop-t.invariant.1 _ _ false w.load-is (λ p tells. sym w.if-counts.false ∙ tells _ _ c.counts.ensures) c.loop-t.invariant.0
]

pub returns : goal.returns
returns g c = λ p tells.
    let over : length c.args.in_flight.now ≤ c.loop-t.t-index = omega arith in
    rw (drop_of_length-le c.args.in_flight.now over) at (c.loop-t.invariant.0 p tells) ∙ loads_counted p c.args.in_flight.now
