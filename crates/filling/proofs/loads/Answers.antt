-- `loads` raises the counters seat by seat: what is counted and the load of the seats left make up the whole. Assumes nothing.
use mathlib.Core.Path.{◌∙◌}
use Rattle.rules.specs.Records.{own_path}
use Rattle.paths.proofs.Routes.{known_route}
use Rattle.rounds.proofs.Loading.{route_at, counting_starts, counting_room, counting_on, counting_past, counting_ends}
use native.Mathlib.Omega.{arith}
use Rattle.filling.proofs.loads.Goals.{then-s, else-s}
use Rattle.filling.proofs.loads.Goals as goal

pub loop-s-init : goal.loop-s-init
loop-s-init c = counting_starts c.args.seats.now

pub raise-requires : goal.raise-requires
unfolding own_path
raise-requires c =
    rw c.hops.ensures (record {
      known = rw c.loop-s.invariant.places (known_route (route_at c.args.seats.now c.requires c.loop-s.s-index _ (omega arith)));
      roomy = counting_room c.args.seats.now c.loop-s.load c.loop-s.s-index c.loop-s.invariant c.requires (omega arith) _ (omega arith);
    })

pub loop-s-preserved : goal.loop-s-preserved
unfolding own_path
loop-s-preserved c =
    elim c.if-s.branch [
      | then-s w ↦ counting_on c.args.seats.now c.loop-s.load c.loop-s.s-index c.loop-s.invariant _ (omega arith) (omega arith) w.if-s.true _ (w.load-is ∙ (rw w.hops.ensures at w.raise.ensures))
      | else-s w ↦ counting_past c.args.seats.now c.loop-s.load c.loop-s.s-index c.loop-s.invariant _ (omega arith) (omega arith) w.if-s.false _ w.load-is
    ]

pub returns : goal.returns
returns c = counting_ends c.args.seats.now c.loop-s.load c.loop-s.s-index c.loop-s.invariant (omega arith)
