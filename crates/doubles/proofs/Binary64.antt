-- The laws of this crate for doubles, in the operators of the definitions and with binary64's numbers written out: 2^53 for the largest count, 2^52 and 2^1126 for the
-- units. Assumes nothing.
use Rattle.std.proofs.Common.{◌≡◌, ℕ, ◌+◌, ◌*◌, ◌/◌, ◌^◌, ◌<◌, ◌≤◌, T, refl}
use lib.Ieee.{Float, binary64, of_int, of_bits}
use lib.Ieee.Scale.{finite}
use Rattle.doubles.specs.Doubles.{◌⊖◌, ◌⊗◌, ◌⊘◌, ◌≺◌, ◌≼◌, nought, whole, nearest, larger, Plain, Nonneg}
use Rattle.doubles.specs.Exact.{places, one, exact, step}
use Rattle.doubles.proofs.Units.{step_in}
use Rattle.doubles.proofs.Rounded.{rounded_within}
use Rattle.doubles.proofs.Quotient.{count_plain, count_exact, quotient_plain, quotient_le, quotient_within, quotient_mono}
use Rattle.doubles.proofs.Left.{Step, left_plain, left_le, left_step}
use Rattle.doubles.proofs.Signs.{nearest_nonneg, product_above_nonneg, quotient_nonneg, left_nonneg}

-- ---- the numbers
pub one64 : one binary64 ≡ 2 ^ 1126
unfolding one places
one64 = refl

-- ---- counts
pub whole_plain : (n : ℕ) → n ≤ 2 ^ 53 → Plain (whole n)
whole_plain n h = count_plain binary64 n h

pub whole_exact : (n : ℕ) → n ≤ 2 ^ 53 → exact (whole n) ≡ n * 2 ^ 1126
unfolding one places
whole_exact n h = count_exact binary64 n h

-- beyond 2^53 a count is rounded, and is still a double with its sign clear
pub whole_nonneg : (n : ℕ) → Nonneg (whole n)
unfolding of_int
whole_nonneg n = nearest_nonneg binary64 n 1

-- ---- the rounding of A / B units under C
pub rounding64 : (A B C : ℕ) → 0 < B → T (finite (nearest A (B * 2 ^ 1126))) → C / 2 ^ 52 * 2 ^ 52 ≡ C → A ≤ C * B
    → (2 * (exact (nearest A (B * 2 ^ 1126)) * B) ≤ 2 * A + B * (C / 2 ^ 52 + 2 ^ 52)) × (2 * A ≤ 2 * (exact (nearest A (B * 2 ^ 1126)) * B) + B * (C / 2 ^ 52 + 2 ^ 52))
unfolding one places step_in
rounding64 A B C P t e h = rounded_within binary64 A B C P t e h

-- ---- division by a count
module _ {x : Float} (p : Plain x) (l : ℕ) (L : 0 < l) (M : l ≤ 2 ^ 53) where
  pub over_count_plain : Plain (x ⊘ whole l)
  over_count_plain = quotient_plain p l L M

  pub over_count_le : T (x ⊘ whole l ≼ x)
  over_count_le = quotient_le p l L M

  pub over_count_within : (C : ℕ) → C / 2 ^ 52 * 2 ^ 52 ≡ C → exact x ≤ C
      → (2 * (exact (x ⊘ whole l) * l) ≤ 2 * exact x + l * step C) × (2 * exact x ≤ 2 * (exact (x ⊘ whole l) * l) + l * step C)
  unfolding step step_in
  over_count_within C e h = quotient_within p l L M C e h

pub over_count_mono : {x y : Float} → Plain x → Plain y → (k l : ℕ) → 0 < k → k ≤ 2 ^ 53 → 0 < l → l ≤ 2 ^ 53 → exact x * l ≤ exact y * k → T (x ⊘ whole k ≼ y ⊘ whole l)
over_count_mono p q k l K K' L L' h = quotient_mono p q k l K K' L L' h

-- ---- the larger of a difference and zero
module _ {x y : Float} where
  pub left_of_plain : Plain x → Plain y → Plain (larger (x ⊖ y) nought)
  unfolding of_bits
  left_of_plain p q = left_plain p q

  pub left_of_le : Plain x → Plain y → T (larger (x ⊖ y) nought ≼ x)
  unfolding of_bits
  left_of_le p q = left_le p q

  pub left_of_step : Plain x → Plain y → (C : ℕ) → C / 2 ^ 52 * 2 ^ 52 ≡ C → exact x ≤ C → Step (step C) (exact x) (exact y) (exact (larger (x ⊖ y) nought))
  unfolding of_bits step step_in
  left_of_step p q C e h = left_step p q C e h

  -- the same where the minuend may be infinite
  pub left_of_nonneg : Nonneg x → Plain y → Nonneg (larger (x ⊖ y) nought)
  unfolding of_bits
  left_of_nonneg p q = left_nonneg p q

  -- a product by what is above zero, and a quotient by it, where the other may be infinite
  pub times_nonneg : Nonneg x → Plain y → T (nought ≺ y) → Nonneg (x ⊗ y)
  unfolding of_bits
  times_nonneg p q h = product_above_nonneg p q h

  pub over_nonneg : Plain x → Nonneg y → T (nought ≺ y) → Nonneg (x ⊘ y)
  unfolding of_bits
  over_nonneg p q h = quotient_nonneg p q h
