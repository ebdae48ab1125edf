-- A double that passes as a floor is a sound one, and the default is. Assumes nothing.
use Prim.Native.Nat.{ℕ, ◌*◌, ◌<◌}
use mathlib.Core.Path.{◌≡◌}
use mathlib.Core.Bool.{true, false}
use native.Mathlib.Nat.{mul-pos}
use native.Mathlib.Omega.{arith}
use lib.IntN.{ℤ}
use lib.Dec.{T, eqb, ltb→lt, eqb→eq}
use lib.Ieee.{Float, nan, inf, fin, binary64, up, down, lt, le, of_bits, fits}
use lib.Ieee.Fits.{and_r, down_pos}
use Rattle.doubles.specs.Doubles.{◌≺◌, ◌≼◌, nought}
use Rattle.rules.specs.Tolerance.{F, max_floor}
use Rattle.rules.specs.Invariant.{SoundFloor}
use Rattle.rules.proofs.Everything.{everything}

-- what is above zero is not at most something negative
none_below : (y : Float) → T (nought ≺ y) → (n : ℕ) (d : ℤ) → T (y ≼ fin true n d) → ⊥
unfolding le lt of_bits
none_below nan above n d h = absurd above
none_below (inf true) above n d h = absurd above
none_below (inf false) above n d h = absurd h
none_below (fin true m e) above n d h = absurd above
none_below (fin false m e) above n d h =
    let scaled = m * up e * down d in
    let none : scaled ≡ 0 = eqb→eq scaled 0 (and_r (eqb scaled (n * up d * down e)) (eqb scaled 0) h) in
    let some : 0 < m * up e = omega (arith, ltb→lt (0 * 1 * down e) (m * up e * 1) above) in
    omega (arith, none, mul-pos some (down_pos d))

pub sound_floor : (x : Float) → T (fits binary64 x) → T (F ≼ x) → T (x ≼ max_floor) → SoundFloor x
unfolding everything
sound_floor nan held l u = absurd l
sound_floor (inf true) held l u = absurd l
sound_floor (inf false) held l u = absurd u
sound_floor (fin true m e) held l u = absurd (none_below F tt m e l)
sound_floor (fin false m e) held l u = record { plain = record { is_plain = tt; is_held = held }; no_finer = l; no_coarser = u }

pub default_floor : SoundFloor F
unfolding everything
default_floor = record { plain = record { is_plain = tt; is_held = tt }; no_finer = tt; no_coarser = tt }
