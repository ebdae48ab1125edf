-- The exact value by the fields of a bit pattern: the exponent's field and the digits below the leading one. Assumes nothing.
use Rattle.std.proofs.Common.{◌≡◌, ℕ, zero, suc, ◌+◌, ◌-◌, ◌*◌, ◌^◌, ◌<◌, ◌≤◌, Bool, true, false, cond, not, T, eqb, leb, pos, negsuc, ap, ◌∙◌, mul-one, arith, pow_pos, pow_mono}
use lib.Dec.{nleb→lt}
use lib.Count.{count_trailing_zeros}
use lib.Ieee.{inf, nan, Format, prec, low, down, minus, odd, ones, of_fields, hid}
use lib.Ieee.Exact.{odd_sign}
use lib.Ieee.Positive.{den}
use Rattle.doubles.specs.Exact.{exact_in}
use Rattle.doubles.proofs.Units.{exact_of_value}

minus_den : (a l : ℕ) → down (minus a l) ≤ 2 ^ l
minus_den a l = go (leb l a) (nleb→lt l a)
  where
    room : (a l : ℕ) → a < l → suc (l - suc a) ≤ l
    room a l h = omega arith

    go : (b : Bool) → (T (not b) → a < l) → down (cond b (pos (a - l)) (negsuc (l - suc a))) ≤ 2 ^ l
    go true h = pow_pos l
    go false h = pow_mono (room a l (h tt))

odd_den : (d q k l : ℕ) → den (odd d false q k l) ≤ 2 ^ l
unfolding odd
odd_den d zero k l = pow_pos l
odd_den d (suc q) k l = minus_den (k + count_trailing_zeros d (suc q)) l

exact_odd : (f : Format) (d q k : ℕ) → exact_in f (odd d false q k (low f)) ≡ q * 2 ^ k * hid f
exact_odd f d q k = exact_of_value f (odd d false q k (low f)) (q * 2 ^ k) (odd_den d q k (low f)) (odd_sign d false q k (low f))

-- an exponent's field of 0: t of the format's smallest values
pub exact_subnormal : (f : Format) (t : ℕ) → exact_in f (of_fields f false 0 t) ≡ t * hid f
unfolding of_fields
exact_subnormal f t = exact_odd f (prec f) t 0 ∙ ap (λ (z : ℕ). z * hid f) (mul-one t)

-- an exponent's field of x + 1, not all ones: the leading digit stands before the t
pub exact_normal : (f : Format) (x t : ℕ) → T (not (eqb (suc x) (ones f))) → exact_in f (of_fields f false (suc x) t) ≡ (hid f + t) * 2 ^ x * hid f
unfolding of_fields
exact_normal f x t h = go (eqb (suc x) (ones f)) h
  where
    go : (b : Bool) → T (not b) → exact_in f (cond b (cond (eqb t 0) (inf false) nan) (odd (prec f) false (hid f + t) x (low f))) ≡ (hid f + t) * 2 ^ x * hid f
    go true k = absurd k
    go false k = exact_odd f (prec f) (hid f + t) x
