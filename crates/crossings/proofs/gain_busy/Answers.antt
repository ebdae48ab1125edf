-- `gain_busy` is its definition: no crossing, or the successor of some number. Assumes nothing.
use mathlib.Core.Path.{◌≡◌, refl}
use Prim.Native.Nat.{ℕ, zero, suc}
use lib.Ieee.{Float}
use Rattle.doubles.specs.Doubles.{◌⊕◌, ◌⊗◌, whole}
use Rattle.rules.specs.declared.Edge.{Edge}
use Rattle.rules.specs.Clock.{gain_busy}
use Rattle.crossings.proofs.gain_busy.Goals as goal

crossed : (dt : Float) (n : ℕ) (e : Edge) → (n ≡ 0 → ⊥) → gain_busy dt n e ≡ record { capacity = e.capacity; bytes_moved = e.bytes_moved; busy_transfer_seconds = e.busy_transfer_seconds ⊕ whole n ⊗ dt }
unfolding gain_busy
crossed dt zero e h = absurd (h refl)
crossed dt (suc n) e h = refl

pub returns-then-crossings-eq0 : goal.returns-then-crossings-eq0
unfolding gain_busy
returns-then-crossings-eq0 c = rw c.if-crossings-eq0.true

pub returns : goal.returns
returns c = rw (c.whole.ensures, crossed c.args.dt c.args.crossings c.args.edge c.if-crossings-eq0.false)
