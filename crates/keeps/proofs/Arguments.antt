-- What a call's tests tell of its arguments: an amount that passes is plain once a negative zero is read as zero, a time that passes is a clock time that is not before
-- the clock, and a capacity that passes is plain with the amount on it. Assumes nothing.
use Prim.Native.Nat.{ℕ, zero, suc, ◌+◌, ◌*◌, ◌^◌, ◌≤◌}
use native.Mathlib.Nat.{add-zero}
use native.Mathlib.Decide.{dec_le}
use native.Mathlib.Omega.{arith}
use mathlib.Core.Path.{◌≡◌, refl}
use mathlib.Core.Logic.{◌⊎◌, inl, inr}
use mathlib.Core.Bool.{Bool, true, false, not, ◌||◌, cond}
use lib.IntN.{pos, negsuc}
use lib.Dec.{T, T_not, eqb→eq, nltb→le}
use lib.Arith.{le→nltb}
use lib.Ieee.{Float, nan, inf, fin, binary64, up, down, sub, neg, lt, eq, fits, of_bits}
use lib.Ieee.Fits.{up_pos, neg-fits}
use Rattle.doubles.specs.Doubles.{◌⊕◌, ◌⊖◌, ◌≺◌, ◌≼◌, nought, whole, larger, read_zero, is_finite, plain, Plain}
use Rattle.doubles.specs.Exact.{exact}
use Rattle.doubles.proofs.Tests.{failed}
use Rattle.doubles.proofs.Binary64.{whole_plain}
use Rattle.doubles.proofs.Ordered.{not_below, exact→le}
use Rattle.doubles.proofs.Same.{rounded_is_own}
use Rattle.doubles.proofs.Left.{difference_plain}
use Rattle.doubles.proofs.Difference.{difference_below}
use Rattle.doubles.proofs.Signs.{plain_nonneg, finite_plain, sum_nonneg}
use Rattle.doubles.proofs.Zeros.{nought_plain, nought_exact, read_zero_plain, read_zero_own, floored_plain}
use Rattle.rules.specs.declared.Cap.{Cap}
use Rattle.rules.specs.declared.Cap.TheVariants.{AtMost, Uncapped}
use Rattle.rules.specs.Refusals.{not_finite, not_an_amount, not_a_time, not_a_cap, read_cap}
use Rattle.rules.specs.Histories.{typed_cap}
use Rattle.rules.specs.Invariant.{ClockTime, SoundCap, at_most, uncapped}
use Rattle.doubles.proofs.Monotone.{sum_rounded}
use Rattle.keeps.proofs.Refusing.{neither}

pub le_itself : {x : Float} → Plain x → T (x ≼ x)
le_itself p = exact→le p p (omega arith)

is_not : (b : Bool) → not b ≡ false → T b
is_not true e = tt
is_not false e = absurd (let z : ◌≡◌ {A = ℕ} 0 1 = cc in omega (arith, z))

-- ---- not below zero is plain, or the negative zero

minus_zero : Float
minus_zero = fin true 0 (pos 0)

not_negative : (x : Float) → T (fits binary64 x) → T (is_finite x) → T (not (x ≺ nought)) → Plain x ⊎ (x ≡ minus_zero)
unfolding is_finite minus_zero of_bits lt plain
not_negative nan t i h = absurd i
not_negative (inf s) t i h = absurd i
not_negative (fin false m e) t i h = inl (record { is_plain = tt; is_held = t })
not_negative (fin true zero (pos zero)) t i h = inr refl
not_negative (fin true zero (pos (suc k))) t i h = absurd (unfold fits in omega (arith, eqb→eq (2 ^ suc k * 1) 1 t))
not_negative (fin true zero (negsuc k)) t i h = absurd (unfold fits in omega (arith, eqb→eq (1 * 2 ^ suc k) 1 t))
not_negative (fin true (suc m) e) t i h = absurd (omega (arith, nltb→le 0 (suc m * up e * 1 + 0 * 1 * down e) h, up_pos e))

-- ---- as read, against another

minus_zero_least : (y : Float) → Plain y → T (not (minus_zero ≺ y)) → T (not (nought ≺ y))
unfolding minus_zero of_bits lt plain
minus_zero_least nan p h = absurd p.is_plain
minus_zero_least (inf s) p h = absurd p.is_plain
minus_zero_least (fin true n d) p h = absurd p.is_plain
minus_zero_least (fin false n d) p h = le→nltb (0 * 1 * down d) (n * up d * 1) (omega (arith, nltb→le 0 (0 * 1 * down d + n * up d * 1) h))

minus_zero_read : read_zero minus_zero ≡ nought
unfolding minus_zero of_bits read_zero eq
minus_zero_read = refl

nought_least : {y : Float} → Plain y → T (nought ≼ y)
nought_least p = exact→le nought_plain p (rw (nought_exact binary64) (omega arith))

module _ (x : Float) (t : T (fits binary64 x)) (i : T (is_finite x)) (h : T (not (x ≺ nought))) {y : Float} (q : Plain y) where
  as_read : (P : Float → Type 0) → (Plain x → P x) → (x ≡ minus_zero → P nought) → P (read_zero x)
  as_read P own zeroed = elim (not_negative x t i h) [ inl p ↦ rw (read_zero_own p) (own p) | inr e ↦ rw (e, minus_zero_read) (zeroed e) ]

  read_no_less : T (not (x ≺ y)) → T (y ≼ read_zero x)
  read_no_less k = as_read (λ z. T (y ≼ z)) (λ p. not_below q p k) (λ e. not_below q nought_plain (minus_zero_least y q (rw e at k)))

  read_no_more : T (not (y ≺ x)) → T (read_zero x ≼ y)
  read_no_more k = as_read (λ z. T (z ≼ y)) (λ p. not_below p q k) (λ e. nought_least q)

-- ---- arguments

module _ (x : Float) (t : T (fits binary64 x)) where
  pub number_floored : not_finite x ≡ false → Plain (larger (read_zero x) nought)
  unfolding not_finite
  number_floored e = floored_plain binary64 x t (is_not (is_finite x) e)

  pub amount_plain : not_an_amount x ≡ false → Plain (read_zero x)
  unfolding not_an_amount
  amount_plain e = let n = neither (not (is_finite x)) (x ≺ nought) e in read_zero_plain binary64 x t (is_not (is_finite x) n.0) (failed n.1)

  pub time_clock : not_a_time x ≡ false → ClockTime (read_zero x)
  unfolding not_a_time not_an_amount
  time_clock e =
      let n = neither (not (is_finite x) || x ≺ nought) (whole (2 ^ 40) ≺ x) e in
      let m = neither (not (is_finite x)) (x ≺ nought) n.0 in
      record {
        plain = amount_plain n.0;
        bounded = read_no_more x t (is_not (is_finite x) m.0) (failed m.1) (whole_plain (2 ^ 40) (omega arith)) (failed n.1);
      }

  -- a time that is not before another
  pub time_no_earlier : not_a_time x ≡ false → {y : Float} → Plain y → (x ≺ y) ≡ false → T (y ≼ read_zero x)
  unfolding not_a_time not_an_amount
  time_no_earlier e q k =
      let n = neither (not (is_finite x) || x ≺ nought) (whole (2 ^ 40) ≺ x) e in
      let m = neither (not (is_finite x)) (x ≺ nought) n.0 in
      read_no_less x t (is_not (is_finite x) m.0) (failed m.1) q (failed k)

pub cap_sound : (cap : Cap) → T (typed_cap cap) → not_a_cap cap ≡ false → SoundCap (read_cap cap)
unfolding typed_cap not_a_cap read_cap
cap_sound (AtMost c) t e = at_most (amount_plain c t e)
cap_sound Uncapped t e = uncapped

-- ---- an amount of either sign on a capacity

module _ {c : Float} (p : Plain c) where
  nought_more : Plain (c ⊕ nought)
  nought_more = rw (sum_rounded p nought_plain, nought_exact binary64, add-zero (exact c), rounded_is_own p) p

  -- the one less the other, where that is not below zero
  plain_difference : {y : Float} → Plain y → T (not (c ⊖ y ≺ nought)) → Plain (c ⊖ y)
  unfolding of_bits
  plain_difference {y} q h = go (dec_le (exact y) (exact c))
    where
      go : Dec (exact y ≤ exact c) → Plain (c ⊖ y)
      go (yes k) = difference_plain p q k
      go (no k) = absurd (T_not (c ⊖ y ≺ nought) h (difference_below p q (omega (arith, k))))

  plain_sum : (a : Float) → T (fits binary64 a) → T (is_finite a) → T (is_finite (c ⊕ a)) → T (not (c ⊕ a ≺ nought)) → Plain (c ⊕ a)
  unfolding is_finite plain sub neg
  plain_sum nan t i j h = absurd i
  plain_sum (inf s) t i j h = absurd i
  plain_sum (fin false n d) t i j h = finite_plain (sum_nonneg (plain_nonneg p) (plain_nonneg (record { is_plain = tt; is_held = t }))) j
  plain_sum (fin true n d) t i j h = plain_difference {y = fin false n d} (record { is_plain = tt; is_held = neg-fits binary64 (fin true n d) t }) h

  pub widened_plain : (a : Float) → T (fits binary64 a) → not_finite a ≡ false → not_an_amount (c ⊕ a) ≡ false → Plain (c ⊕ read_zero a)
  unfolding not_finite not_an_amount read_zero
  widened_plain a t i e = go (eq a nought)
    where
      go : (b : Bool) → Plain (c ⊕ cond b nought a)
      go true = nought_more
      go false = let n = neither (not (is_finite (c ⊕ a))) (c ⊕ a ≺ nought) e in plain_sum a t (is_not (is_finite a) i) (is_not (is_finite (c ⊕ a)) n.0) (failed n.1)
