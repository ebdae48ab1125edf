-- `freeze` spends and lowers along the path exactly where the definition freezes. Assumes nothing.
use mathlib.Core.Path.{◌≡◌, refl, sym, ◌∙◌}
use mathlib.Core.Bool.{true, false}
use Rattle.rules.specs.Records.{own_path}
use Rattle.rules.specs.Filling.{freezes}
use Rattle.rounds.proofs.Freezing.{freezes_when, freezes_not, freeze_when, frozen_is}
use Rattle.rounds.proofs.freeze.Goals.{else-s-via-then-s+else-names, else-s-via-else-s}
use Rattle.rounds.proofs.freeze.Goals as goal

pub lower-requires-clause-counted : goal.lower-requires-clause-counted
unfolding own_path
lower-requires-clause-counted c = rw c.hops-path.ensures (c.requires.counted c.if-s.true)

pub returns-then-names : goal.returns-then-names
unfolding own_path
returns-then-names c =
    let start = c.args in
    let rate = c.rate_by-rate.ensures in
    let f = freezes_when start.v start.i start.s true c.if-s.true (sym (rw c.hops-path.ensures at c.names.ensures) ∙ c.if-names.true) in
    record {
      seat = frozen_is start.v start.i start.s c.with_rate.result _ _ f rate c.limit_by.ensures c.with_rate.ensures;
      residual = rw (f, c.spend.ensures, c.hops-path.ensures, ← rate);
      load = rw (f, c.lower.ensures, c.hops-path.ensures);
    }

pub returns : goal.returns
unfolding own_path
returns c =
    let start = c.args in
    let f : freezes own_path start.v start.i start.s ≡ false = elim c.else-s.branch [
      | else-s-via-then-s+else-names w ↦ freezes_when start.v start.i start.s false w.if-s.true (sym (rw c.hops-path.ensures at w.names.ensures) ∙ w.if-names.false)
      | else-s-via-else-s w ↦ freezes_not start.v start.i start.s w.if-s.false
    ] in
    record { seat = sym (freeze_when start.v start.i start.s false f); residual = rw f refl; load = rw f refl }
