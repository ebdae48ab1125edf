-- The order where one of two floats may be infinite: what is not at most a plain float is above it, what is not above zero is zero, and a sum is at most what both its
-- parts are at most; and no float at all is below itself. Assumes nothing.
use Rattle.std.proofs.Common.{◌≡◌, ◌+◌, ◌*◌, ◌≤◌, true, false, not, T, refl, subst, inl, inr, le_refl, zero-lt-suc, arith, T_not, le-ltb}
use lib.Ieee.{Float, nan, inf, fin, Format, up, down, add, lt, le, of_bits}
use Rattle.doubles.specs.Doubles.{nought, plain, nonneg, is_finite, PlainIn, NonnegIn}
use Rattle.doubles.specs.Exact.{exact_in}
use Rattle.doubles.proofs.Tests.{le_or_above}
use Rattle.doubles.proofs.Ordered.{exact→le, exact→lt}
use Rattle.doubles.proofs.Rounded.{rounded_mono}
use Rattle.doubles.proofs.Same.{rounded_is_own, nothing_is_zero}
use Rattle.doubles.proofs.Signs.{plain_nonneg, finite_plain, under_plain, sum_nonneg}
use Rattle.doubles.proofs.Monotone.{plain_le_trans, sum_rounded}
use Rattle.doubles.proofs.Zeros.{nought_plain, nought_exact}

-- ---- not at most
below_infinity : (x : Float) → T (plain x) → T (lt x (inf false))
unfolding plain lt
below_infinity nan p = p
below_infinity (inf s) p = absurd p
below_infinity (fin s m e) p = tt

above_from : (f : Format) (x y : Float) → PlainIn f x → NonnegIn f y → T (not (le y x)) → T (lt x y)
unfolding nonneg
above_from f x nan p q h = absurd q.is_nonneg
above_from f x (inf true) p q h = absurd q.is_nonneg
above_from f x (inf false) p q h = below_infinity x p.is_plain
above_from f x (fin s m e) p q h =
    let r : PlainIn f (fin s m e) = finite_plain q (unfold is_finite in tt) in
    elim (le_or_above (exact_in f (fin s m e)) (exact_in f x)) [ inl l ↦ absurd (T_not (le (fin s m e) x) h (exact→le r p l)) | inr l ↦ exact→lt p r l ]

pub not_at_most : {f : Format} {x y : Float} → PlainIn f x → NonnegIn f y → T (not (le y x)) → T (lt x y)
not_at_most {f} {x} {y} p q h = above_from f x y p q h

-- ---- not above zero
zero_from : (f : Format) (x : Float) → NonnegIn f x → T (not (lt nought x)) → x ≡ nought
unfolding nonneg of_bits
zero_from f nan p h = absurd p.is_nonneg
zero_from f (inf true) p h = absurd p.is_nonneg
zero_from f (inf false) p h = absurd (unfold lt in h)
zero_from f (fin s m e) p h =
    let r : PlainIn f (fin s m e) = finite_plain p (unfold is_finite in tt) in
    elim (le_or_above (exact_in f (fin s m e)) 0) [
      | inl l ↦ nothing_is_zero r (omega arith)
      | inr l ↦ absurd (T_not (lt nought (fin s m e)) h (exact→lt nought_plain r (rw (nought_exact f) l)))
    ]

pub not_above_zero : {f : Format} {x : Float} → NonnegIn f x → T (not (lt nought x)) → x ≡ nought
not_above_zero {f} {x} p h = zero_from f x p h

-- ---- a sum and its parts
addend_finite : (f : Format) (x y : Float) → T (plain x) → T (nonneg y) → T (plain (add f x y)) → T (is_finite y)
unfolding plain nonneg is_finite add
addend_finite f nan y p q h = absurd p
addend_finite f (inf s) y p q h = absurd p
addend_finite f (fin s m e) nan p q h = q
addend_finite f (fin s m e) (inf t) p q h = h
addend_finite f (fin s m e) (fin t n d) p q h = tt

module _ {f : Format} {x y z : Float} (p : PlainIn f x) (q : NonnegIn f y) (r : PlainIn f z) (h : T (le (add f x y) z)) where
  sum_plain : PlainIn f (add f x y)
  sum_plain = under_plain (sum_nonneg (plain_nonneg p) q) r h

  addend : PlainIn f y
  addend = finite_plain q (addend_finite f x y p.is_plain q.is_nonneg sum_plain.is_plain)

  part : {w : Float} (k : PlainIn f w) → exact_in f w ≤ exact_in f x + exact_in f y → T (le w z)
  part {w} k l =
      plain_le_trans k sum_plain r
      (subst (λ (v : Float). T (le v (add f x y))) (rounded_is_own k)
      (rw (sum_rounded p addend) (rounded_mono f (exact_in f w) 1 (exact_in f x + exact_in f y) 1 (zero-lt-suc 0) (zero-lt-suc 0) (omega arith))))
      h

  pub sum_at_most : T (le x z) × T (le y z)
  sum_at_most = (part p (omega arith), part addend (omega arith))

-- ---- itself
pub not_below_itself : (x : Float) → lt x x ≡ false
unfolding lt
not_below_itself nan = refl
not_below_itself (inf true) = refl
not_below_itself (inf false) = refl
not_below_itself (fin true m e) = le-ltb (m * up e * down e) (m * up e * down e) (le_refl _)
not_below_itself (fin false m e) = le-ltb (m * up e * down e) (m * up e * down e) (le_refl _)
