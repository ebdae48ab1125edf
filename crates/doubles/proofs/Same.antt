-- The exact value tells a plain float: two that a format holds are the same float where their exact values are equal, so rounding a float's own exact value gives
-- that float, and only zero has the exact value 0. Assumes nothing.
use Rattle.std.proofs.Common.{◌≡◌, ℕ, ◌+◌, ◌-◌, ◌*◌, ◌/◌, ◌^◌, true, false, T, pos, sym, refl, ap, ◌∙◌, zero-mul, mul-div_cancel, pow_pos}
use lib.Ieee.{Float, nan, inf, fin, Format, prec, low, size, to_bits, of_bits, fits, hid}
use lib.Ieee.Bits.{of_bits-to_bits}
use lib.Ieee.Positive.{num, den, den_pos}
use Rattle.doubles.specs.Doubles.{plain, PlainIn}
use Rattle.doubles.specs.Exact.{exact_in, scaled, places}
use Rattle.doubles.proofs.Units.{grid_value}
use Rattle.doubles.proofs.Rounded.{rounded, rounded_own}

-- the bits that are written for a float of g smallest values
abbrev bits_at : Format → ℕ → ℕ
bits_at f g = 0 + (size g - prec f) * hid f + g / 2 ^ (size g - prec f)

bits_by_size : (f : Format) (x : Float) → T (plain x) → to_bits f x ≡ bits_at f (num x * 2 ^ low f / den x)
unfolding plain to_bits
bits_by_size f nan p = absurd p
bits_by_size f (inf s) p = absurd p
bits_by_size f (fin true m e) p = absurd p
bits_by_size f (fin false m e) p = refl

module _ {f : Format} {x : Float} (p : PlainIn f x) where
  bits_by_exact : to_bits f x ≡ bits_at f (exact_in f x / hid f)
  bits_by_exact =
      let g = (grid_value p).0 in
      let n = g.0 * 2 ^ g.1 in
      bits_by_size f x p.is_plain
      ∙ ap (bits_at f) (ap (λ (z : ℕ). z / den x) g.4 ∙ mul-div_cancel n (den_pos x) ∙ sym (ap (λ (z : ℕ). z / hid f) (grid_value p).2 ∙ mul-div_cancel n (pow_pos (prec f - 1))))

-- ---- the laws
pub exact_same : {f : Format} {x y : Float} → PlainIn f x → PlainIn f y → exact_in f x ≡ exact_in f y → x ≡ y
exact_same {f} {x} {y} p q e =
    sym (of_bits-to_bits f x p.is_held) ∙ ap (of_bits f) (bits_by_exact p ∙ ap (λ (z : ℕ). bits_at f (z / hid f)) e ∙ sym (bits_by_exact q)) ∙ of_bits-to_bits f y q.is_held

pub rounded_is_own : {f : Format} {x : Float} → PlainIn f x → rounded f (exact_in f x) 1 ≡ x
rounded_is_own p = exact_same (rounded_own p).0 p (rounded_own p).1

-- zero, with its sign clear
abbrev pub zero_float : Float
zero_float = fin false 0 (pos 0)

pub zero_plain : (f : Format) → PlainIn f zero_float
unfolding plain fits
zero_plain f = record { is_plain = tt; is_held = tt }

pub zero_exact : (f : Format) → exact_in f zero_float ≡ 0
unfolding exact_in scaled
zero_exact f = zero-mul (2 ^ (places f + 0))

pub nothing_is_zero : {f : Format} {x : Float} → PlainIn f x → exact_in f x ≡ 0 → x ≡ zero_float
nothing_is_zero {f} p e = exact_same p (zero_plain f) (e ∙ sym (zero_exact f))
