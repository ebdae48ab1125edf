-- Where some digits hold a number, the fewest that hold it are no more. Assumes nothing.
use Rattle.std.proofs.Common.{ℕ, ◌-◌, ◌^◌, ◌<◌, ◌≤◌, le_of_suc-le-suc, lt_of_not-le, arith}
use native.Mathlib.Nat.{pow-le-pow_right}
use Rattle.io.specs.Digits.{IsDigitCount}

not_more : (b least n k most : ℕ) → 0 < b → IsDigitCount b least n k → least ≤ most → n < b ^ most → most < k → ⊥
not_more b least n k most h fewest within holds over =
    let p : b ^ (k - 1) ≤ n = fewest.2 (omega arith) in
    let q : b ^ most ≤ b ^ (k - 1) = pow-le-pow_right h (omega arith) in
    omega arith

pub at_most : (b least n k most : ℕ) → 0 < b → IsDigitCount b least n k → least ≤ most → n < b ^ most → k ≤ most
at_most b least n k most h fewest within holds = le_of_suc-le-suc (lt_of_not-le (not_more b least n k most h fewest within holds))
