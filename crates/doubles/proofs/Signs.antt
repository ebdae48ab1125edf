-- What arithmetic keeps: sums, products, quotients and differences of floats whose sign is clear are no NaN and have a clear sign, and they are plain where they are
-- finite. The results may be infinite, and the premises say which operands may be. Assumes nothing.
use Rattle.std.proofs.Common.{◌≡◌, ℕ, ◌+◌, ◌*◌, ◌<◌, Bool, true, false, cond, T, eqb, sym, refl, ap, ◌∙◌, subst, inl, inr, lt_irrefl, zero-mul, eqb→eq, ltb→lt}
use lib.Ieee.{Float, nan, inf, fin, Format, up, down, round, add, sub, mul, div, lt, le}
use lib.Ieee.Fits.{round-fits, add-fits, mul-fits, div-fits, inf-fits}
use Rattle.doubles.specs.Doubles.{larger, plain, nonneg, is_finite, PlainIn, NonnegIn}
use Rattle.doubles.proofs.Ordered.{le→exact}
use Rattle.doubles.proofs.Rounded.{round_kind, inf_above}
use Rattle.doubles.proofs.Same.{zero_float}
use Rattle.doubles.proofs.Left.{left, left_plain, difference_plain}

-- ---- plain is finite and nonneg
clear_of_plain : (x : Float) → T (plain x) → T (nonneg x)
unfolding plain nonneg
clear_of_plain nan p = p
clear_of_plain (inf s) p = absurd p
clear_of_plain (fin s m e) p = p

plain_of_clear : (x : Float) → T (nonneg x) → T (is_finite x) → T (plain x)
unfolding plain nonneg is_finite
plain_of_clear nan p t = p
plain_of_clear (inf s) p t = t
plain_of_clear (fin s m e) p t = p

finite_of_plain : (x : Float) → T (plain x) → T (is_finite x)
unfolding plain is_finite
finite_of_plain nan p = p
finite_of_plain (inf s) p = p
finite_of_plain (fin s m e) p = tt

module _ {f : Format} {x : Float} where
  pub plain_nonneg : PlainIn f x → NonnegIn f x
  plain_nonneg p = record { is_nonneg = clear_of_plain x p.is_plain; is_held = p.is_held }

  pub finite_plain : NonnegIn f x → T (is_finite x) → PlainIn f x
  finite_plain n t = record { is_plain = plain_of_clear x n.is_nonneg t; is_held = n.is_held }

  pub plain_is_finite : PlainIn f x → T (is_finite x)
  plain_is_finite p = finite_of_plain x p.is_plain

under_finite : (x y : Float) → T (nonneg x) → T (plain y) → T (le x y) → T (is_finite x)
unfolding nonneg is_finite
under_finite nan y p q h = p
under_finite (inf true) y p q h = absurd p
under_finite (inf false) y p q h = inf_above y q h
under_finite (fin s m e) y p q h = tt

-- what is at most a plain float is plain
pub under_plain : {f : Format} {x y : Float} → NonnegIn f x → PlainIn f y → T (le x y) → PlainIn f x
under_plain {f} {x} {y} p q h = finite_plain p (under_finite x y p.is_nonneg q.is_plain h)

pub infinity_nonneg : (f : Format) → NonnegIn f (inf false)
unfolding nonneg
infinity_nonneg f = record { is_nonneg = tt; is_held = inf-fits f false }

-- ---- a rounded fraction
round_clear : (f : Format) (a c : ℕ) → T (nonneg (round f false a c))
unfolding nonneg
round_clear f a c = elim (round_kind f a c) [ inl k ↦ clear_of_plain (round f false a c) k | inr e ↦ subst (λ (z : Float). T (nonneg z)) (sym e) tt ]

pub nearest_nonneg : (f : Format) (a b : ℕ) → NonnegIn f (round f false a b)
nearest_nonneg f a b = record { is_nonneg = round_clear f a b; is_held = round-fits f false a b }

-- ---- sums
sum_clear : (f : Format) (x y : Float) → T (nonneg x) → T (nonneg y) → T (nonneg (add f x y))
unfolding nonneg add
sum_clear f nan y p q = absurd p
sum_clear f (inf true) y p q = absurd p
sum_clear f (inf false) nan p q = absurd q
sum_clear f (inf false) (inf true) p q = absurd q
sum_clear f (inf false) (inf false) p q = tt
sum_clear f (inf false) (fin t n d) p q = tt
sum_clear f (fin true m e) y p q = absurd p
sum_clear f (fin false m e) nan p q = absurd q
sum_clear f (fin false m e) (inf true) p q = absurd q
sum_clear f (fin false m e) (inf false) p q = tt
sum_clear f (fin false m e) (fin true n d) p q = absurd q
sum_clear f (fin false m e) (fin false n d) p q = round_clear f (m * up e * down d + n * up d * down e) (down e * down d)

pub sum_nonneg : {f : Format} {x y : Float} → NonnegIn f x → NonnegIn f y → NonnegIn f (add f x y)
sum_nonneg {f} {x} {y} p q = record { is_nonneg = sum_clear f x y p.is_nonneg q.is_nonneg; is_held = add-fits f x y }

-- ---- a float above zero has digits
above_zero : (n u d : ℕ) → 0 * 1 * d < n * u * 1 → n ≡ 0 → ⊥
above_zero n u d h e = lt_irrefl 0 (subst (λ (z : ℕ). 0 < z) (ap (λ (z : ℕ). z * u * 1) e ∙ ap (λ (z : ℕ). z * 1) (zero-mul u) ∙ zero-mul 1) (subst (λ (z : ℕ). z < n * u * 1) (ap (λ (z : ℕ). z * d) (zero-mul 1) ∙ zero-mul d) h))

-- ---- products: an infinite factor beside a zero would make a NaN, so both are finite, or one is above zero
product_clear : (f : Format) (x y : Float) → T (plain x) → T (plain y) → T (nonneg (mul f x y))
unfolding plain mul
product_clear f nan y p q = absurd p
product_clear f (inf s) y p q = absurd p
product_clear f (fin true m e) y p q = absurd p
product_clear f (fin false m e) nan p q = absurd q
product_clear f (fin false m e) (inf t) p q = absurd q
product_clear f (fin false m e) (fin true n d) p q = absurd q
product_clear f (fin false m e) (fin false n d) p q = round_clear f (m * up e * (n * up d)) (down e * down d)

pub product_nonneg : {f : Format} {x y : Float} → PlainIn f x → PlainIn f y → NonnegIn f (mul f x y)
product_nonneg {f} {x} {y} p q = record { is_nonneg = product_clear f x y p.is_plain q.is_plain; is_held = mul-fits f x y }

infinite_product_clear : (f : Format) (y : Float) → T (plain y) → T (lt zero_float y) → T (nonneg (mul f (inf false) y))
unfolding plain nonneg lt mul
infinite_product_clear f nan q h = absurd q
infinite_product_clear f (inf s) q h = absurd q
infinite_product_clear f (fin true n d) q h = absurd q
infinite_product_clear f (fin false n d) q h = go (eqb n 0) (λ (t : T (eqb n 0)). above_zero n (up d) (down d) (ltb→lt (0 * 1 * down d) (n * up d * 1) h) (eqb→eq n 0 t))
  where
    go : (b : Bool) → (T b → ⊥) → T (nonneg (cond b nan (inf false)))
    go true k = absurd (k tt)
    go false k = tt

product_above_clear : (f : Format) (x y : Float) → T (nonneg x) → T (plain y) → T (lt zero_float y) → T (nonneg (mul f x y))
unfolding nonneg
product_above_clear f nan y p q h = absurd p
product_above_clear f (inf true) y p q h = absurd p
product_above_clear f (inf false) y p q h = infinite_product_clear f y q h
product_above_clear f (fin true m e) y p q h = absurd p
product_above_clear f (fin false m e) y p q h = product_clear f (fin false m e) y (unfold plain in tt) q

pub product_above_nonneg : {f : Format} {x y : Float} → NonnegIn f x → PlainIn f y → T (lt zero_float y) → NonnegIn f (mul f x y)
product_above_nonneg {f} {x} {y} p q h = record { is_nonneg = product_above_clear f x y p.is_nonneg q.is_plain h; is_held = mul-fits f x y }

-- ---- quotients: the divisor is above zero, and may be infinite
quotient_clear : (f : Format) (x y : Float) → T (plain x) → T (nonneg y) → T (lt zero_float y) → T (nonneg (div f x y))
unfolding plain nonneg lt div
quotient_clear f nan y p q h = absurd p
quotient_clear f (inf s) y p q h = absurd p
quotient_clear f (fin true m e) y p q h = absurd p
quotient_clear f (fin false m e) nan p q h = absurd q
quotient_clear f (fin false m e) (inf true) p q h = absurd q
quotient_clear f (fin false m e) (inf false) p q h = tt
quotient_clear f (fin false m e) (fin true n d) p q h = absurd q
quotient_clear f (fin false m e) (fin false n d) p q h = go (eqb n 0) (λ (t : T (eqb n 0)). above_zero n (up d) (down d) (ltb→lt (0 * 1 * down d) (n * up d * 1) h) (eqb→eq n 0 t))
  where
    go : (b : Bool) → (T b → ⊥) → T (nonneg (cond b (cond (eqb m 0) nan (inf false)) (round f false (m * up e * down d) (n * up d * down e))))
    go true k = absurd (k tt)
    go false k = round_clear f (m * up e * down d) (n * up d * down e)

pub quotient_nonneg : {f : Format} {x y : Float} → PlainIn f x → NonnegIn f y → T (lt zero_float y) → NonnegIn f (div f x y)
quotient_nonneg {f} {x} {y} p q h = record { is_nonneg = quotient_clear f x y p.is_plain q.is_nonneg h; is_held = div-fits f x y }

-- ---- differences: plain where the subtrahend is no more, and an infinite minuend stays so
pub difference_le_plain : {f : Format} {x y : Float} → PlainIn f x → PlainIn f y → T (le y x) → PlainIn f (sub f x y)
difference_le_plain p q h = difference_plain p q (le→exact q p h)

infinity_less : (f : Format) (y : Float) → T (plain y) → sub f (inf false) y ≡ inf false
unfolding plain sub
infinity_less f nan p = absurd p
infinity_less f (inf s) p = absurd p
infinity_less f (fin s m e) p = refl

difference_from : (f : Format) (x y : Float) → NonnegIn f x → PlainIn f y → T (le y x) → NonnegIn f (sub f x y)
unfolding nonneg
difference_from f nan y p q h = absurd p.is_nonneg
difference_from f (inf true) y p q h = absurd p.is_nonneg
difference_from f (inf false) y p q h = subst (λ (z : Float). NonnegIn f z) (sym (infinity_less f y q.is_plain)) (infinity_nonneg f)
difference_from f (fin s m e) y p q h = plain_nonneg (difference_le_plain (finite_plain p (unfold is_finite in tt)) q h)

pub difference_nonneg : {f : Format} {x y : Float} → NonnegIn f x → PlainIn f y → T (le y x) → NonnegIn f (sub f x y)
difference_nonneg {f} {x} {y} p q h = difference_from f x y p q h

left_from : (f : Format) (x y : Float) → NonnegIn f x → PlainIn f y → NonnegIn f (left f x y)
unfolding nonneg
left_from f nan y p q = absurd p.is_nonneg
left_from f (inf true) y p q = absurd p.is_nonneg
left_from f (inf false) y p q = subst (λ (z : Float). NonnegIn f (larger z zero_float)) (sym (infinity_less f y q.is_plain)) (unfold larger lt in infinity_nonneg f)
left_from f (fin s m e) y p q = plain_nonneg (left_plain (finite_plain p (unfold is_finite in tt)) q)

-- what is left of x after y, where x may be infinite
pub left_nonneg : {f : Format} {x y : Float} → NonnegIn f x → PlainIn f y → NonnegIn f (left f x y)
left_nonneg {f} {x} {y} p q = left_from f x y p q
