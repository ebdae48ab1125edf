-- Answers that are known without this crate, as closed values that antt computes: a definition changed to give another one is refused here. Assumes nothing.
use Rattle.std.proofs.Common.{◌≡◌, ◌+◌, ◌-◌, ◌*◌, ◌/◌, ◌^◌, false, not, T, leb, refl}
use lib.Ieee.{nan, lt, eq, of_int, of_bits as decoded, round}
use Rattle.doubles.specs.Doubles.{nought, infinity, whole, nearest, larger, smaller, read_zero, is_finite, of_bits, bits_of}
use Rattle.doubles.specs.Exact.{places, scaled, exact_in, exact, step, slack}

-- ---- the helpers
larger_either_way : (larger nought infinity ≡ infinity) × (larger infinity nought ≡ infinity)
unfolding larger lt decoded
larger_either_way = (refl, refl)

smaller_either_way : (smaller nought infinity ≡ nought) × (smaller infinity nought ≡ nought)
unfolding smaller lt decoded
smaller_either_way = (refl, refl)

negative_zero_read : read_zero (of_bits 0x8000_0000_0000_0000) ≡ nought
unfolding read_zero eq decoded
negative_zero_read = refl

infinity_not_finite : is_finite infinity ≡ false
unfolding is_finite
infinity_not_finite = refl

nan_pattern : bits_of nan ≡ 0x7ff8_0000_0000_0000
unfolding bits_of
nan_pattern = refl

-- ---- exact values: of one, of the smallest double above zero and of the largest double
pub exact_one : exact (whole 1) ≡ 2 ^ 1126
unfolding exact_in scaled places of_int
exact_one = refl

pub exact_smallest : exact (of_bits 1) ≡ 2 ^ 52
unfolding exact_in scaled places decoded
exact_smallest = refl

pub exact_largest : exact (of_bits 0x7fef_ffff_ffff_ffff) ≡ (2 ^ 53 - 1) * 2 ^ (971 + 1126)
unfolding exact_in scaled places decoded
exact_largest = refl

-- ---- the step: 2^53 + 1 is a tie, which half a step reaches and a quarter does not
half_step_reaches : T (leb (2 * ((2 ^ 53 + 1) * 2 ^ 1126)) (2 * exact (nearest (2 ^ 53 + 1) 1) + step ((2 ^ 53 + 1) * 2 ^ 1126)))
unfolding exact_in scaled places step round
half_step_reaches = tt

quarter_step_falls_short : T (not (leb (2 * ((2 ^ 53 + 1) * 2 ^ 1126)) (2 * exact (nearest (2 ^ 53 + 1) 1) + step ((2 ^ 53 + 1) * 2 ^ 1126) / 2)))
unfolding exact_in scaled places step round
quarter_step_falls_short = tt

-- an edge that is crossed once has two steps of slack
slack_of_one : slack 1 0 ≡ 2 * 2 ^ 52
unfolding step
slack_of_one = refl
