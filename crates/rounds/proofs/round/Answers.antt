-- `round` carries the verdict out seat by seat, in place, counting those that stay unfrozen. Assumes nothing.
use mathlib.Core.Path.{◌≡◌, refl, sym, ap, ◌∙◌}
use mathlib.Core.Bool.{Bool, true, false, cond}
use Prim.Native.Nat.{◌+◌}
use Rattle.rules.specs.Filling.{num_unfrozen, frozen_by}
use Rattle.rounds.proofs.Freezing.{filling_same, freezing_starts, freezing_asks, freezing_one, seats_done, edges_done, loads_done, count_done}
use native.Mathlib.Omega.{arith}
use Rattle.rounds.proofs.round.Goals.{then-s, else-s}
use Rattle.rounds.proofs.round.Goals as goal

pub loop-i-init : goal.loop-i-init
loop-i-init c =
    let f = c.args.f.now in
    freezing_starts c.args.v f.seats f.residual f.load c.requires.standing.places c.requires.standing.edges c.requires.standing.loads

pub freeze-requires : goal.freeze-requires
freeze-requires c =
    let f = c.args.f.now in
    let loop = c.loop-i in
    freezing_asks c.args.v f.seats c.requires.standing.places f.residual loop.seats loop.residual loop.load loop.unfrozen loop.i loop.invariant _ c.loop-i-test.true c.requires.standing.paths

pub loop-i-preserved : goal.loop-i-preserved
loop-i-preserved c =
    let f = c.args.f.now in
    let loop = c.loop-i in
    let is : (b : Bool) → c.freeze.result.unfrozen ≡ b → c.if-s.unfrozen ≡ loop.unfrozen + cond b 1 0 → c.if-s.unfrozen ≡ loop.unfrozen + cond c.freeze.result.unfrozen 1 0 = λ b u e. e ∙ ap (λ (z : Bool). loop.unfrozen + cond z 1 0) (sym u) in
    freezing_one c.args.v f.seats c.requires.standing.places f.residual loop.seats loop.residual loop.load loop.unfrozen loop.i loop.invariant _ c.loop-i-test.true _ c.freeze.ensures.residual _ c.freeze.ensures.load c.freeze.result c.if-s.unfrozen c.freeze.ensures.seat
    (elim c.if-s.branch [
      | then-s w ↦ is true w.if-s.true w.unfrozen-is
      | else-s w ↦ is false w.if-s.false (omega (arith, w.unfrozen-is))
    ])

pub returns : goal.returns
unfolding frozen_by num_unfrozen
returns c =
    let f = c.args.f.now in
    let loop = c.loop-i in
    let places = c.requires.standing.places in
    let seats_are = seats_done c.args.v f.seats places f.residual loop.seats loop.residual loop.load loop.unfrozen loop.i loop.invariant (omega arith) in
    let edges_are = edges_done c.args.v f.seats places f.residual loop.seats loop.residual loop.load loop.unfrozen loop.i loop.invariant (omega arith) c.requires.standing.edges in
    record {
      same = filling_same seats_are edges_are (omega arith);
      loads = rw seats_are (loads_done c.args.v f.seats places f.residual loop.seats loop.residual loop.load loop.unfrozen loop.i loop.invariant (omega arith));
      counted = rw seats_are (count_done c.args.v f.seats places f.residual loop.seats loop.residual loop.load loop.unfrozen loop.i loop.invariant (omega arith));
      passed = refl;
    }
