-- Reading a negative zero as zero: it changes no plain float, is done once for all, keeps finiteness, every order and every sum with a plain float, and makes a finite
-- float that is not below zero plain; with zero as its floor, every finite float. So a call's tests of an argument give the fact that the invariant keeps. Assumes
-- nothing.
use Rattle.std.proofs.Common.{◌≡◌, ℕ, zero, suc, ◌+◌, ◌*◌, ◌<◌, ◌≤◌, Bool, true, false, cond, not, ◌||◌, T, eqb, ltb, ℤ, sym, refl, ap, ◌∙◌, subst, add-zero, mul-pos, zero-add, zero-mul, arith, eqb→eq, lt→ltb, nltb→le}
use native.Mathlib.Nat.{sub-zero}
use lib.Dec.{leb-suc-zero}
use lib.Ieee.{Float, nan, inf, fin, Format, up, down, round, sum, add, eq, lt, le, fits, of_bits}
use lib.Ieee.Bits.{is_true}
use lib.Ieee.Fits.{and_l, eq→eqb, up_pos, down_pos, cond-fits}
use lib.Ieee.Scale.{round_same}
use Rattle.doubles.specs.Doubles.{nought, larger, read_zero, is_finite, plain, PlainIn}
use Rattle.doubles.specs.Exact.{exact_in}
use Rattle.doubles.proofs.Ordered.{le→exact}
use Rattle.doubles.proofs.Same.{zero_float, zero_plain, zero_exact, nothing_is_zero}

pub nought_plain : {f : Format} → PlainIn f nought
unfolding of_bits
nought_plain {f} = zero_plain f

pub nought_exact : (f : Format) → exact_in f nought ≡ 0
unfolding of_bits
nought_exact f = zero_exact f

-- ---- which floats equal zero
le_of_eq_float : (x y : Float) → T (eq x y) → T (le x y)
unfolding le
le_of_eq_float x y h = either (lt x y) (eq x y) h
  where
    either : (a b : Bool) → T b → T (a || b)
    either true b t = tt
    either false b t = t

-- a float that is not below zero is zero or has its sign clear
zero_size : (n u d : ℕ) → n * u * 1 + 0 * 1 * d ≤ 0 → (n * u * 1 ≡ 0 * 1 * d) × (n * u * 1 ≡ 0)
zero_size n u d h = let z : 0 * 1 * d ≡ 0 = ap (λ (w : ℕ). w * d) (zero-mul 1) ∙ zero-mul d in (omega arith, omega arith)

not_below_clear : (x : Float) → T (is_finite x) → T (not (lt x zero_float)) → T (plain (cond (eq x zero_float) zero_float x))
unfolding is_finite plain lt eq
not_below_clear nan t h = absurd t
not_below_clear (inf s) t h = absurd t
not_below_clear (fin false m e) t h = go (eq (fin false m e) zero_float)
  where
    go : (b : Bool) → T (plain (cond b zero_float (fin false m e)))
    go true = tt
    go false = tt
not_below_clear (fin true m e) t h =
    let z = zero_size m (up e) (down e) (nltb→le 0 (m * up e * 1 + 0 * 1 * down e) h) in
    rw (is_true (eqb (m * up e * 1) (0 * 1 * down e)) (eq→eqb z.0), is_true (eqb (m * up e * 1) 0) (eq→eqb z.1)) tt

-- ---- what does not tell a float as read from itself

-- what equals zero has no digits
of_zeros : (P : Float → Type 0) → ((s : Bool) (e : ℤ) → P (fin s 0 e)) → (x : Float) → T (eq x nought) → P x
unfolding eq of_bits
of_zeros P h nan t = absurd t
of_zeros P h (inf s) t = absurd t
of_zeros P h (fin s zero e) t = h s e
of_zeros P h (fin s (suc m) e) t = absurd (omega (arith, eqb→eq (suc m * up e * 1) (0 * 1 * down e) (and_l (eqb (suc m * up e * 1) (0 * 1 * down e)) _ t), up_pos e))

-- so what is the same for every zero is the same for a float and for the float as read
pub read_zero_unseen : {A : Type 0} (P : Float → A) → ((s : Bool) (e : ℤ) → P nought ≡ P (fin s 0 e)) → (x : Float) → P (read_zero x) ≡ P x
unfolding read_zero
read_zero_unseen P h x = go (eq x nought) (of_zeros (λ y. P nought ≡ P y) h x)
  where
    go : (b : Bool) → (T b → P nought ≡ P x) → P (cond b nought x) ≡ P x
    go true k = k tt
    go false k = refl

pub read_zero_finite : (x : Float) → is_finite (read_zero x) ≡ is_finite x
unfolding is_finite of_bits
read_zero_finite x = read_zero_unseen is_finite (λ s e. refl) x

pub read_zero_twice : (x : Float) → read_zero (read_zero x) ≡ read_zero x
unfolding read_zero eq of_bits
read_zero_twice x = read_zero_unseen read_zero zeros x
  where
    zeros : (s : Bool) (e : ℤ) → read_zero nought ≡ read_zero (fin s 0 e)
    zeros true e = simp zero-mul
    zeros false e = simp zero-mul

-- a multiple is above zero where the number is
multiple_above : (n d : ℕ) → 0 < d → ltb 0 (n * d) ≡ ltb 0 n
multiple_above zero d h = rw zero-mul
multiple_above (suc n) d h = is_true _ (lt→ltb 0 (suc n * d) (omega arith)) ∙ sym (is_true _ (lt→ltb 0 (suc n) (omega arith)))

pub read_zero_less : (x y : Float) → lt (read_zero x) y ≡ lt x y
unfolding lt of_bits
read_zero_less x y = read_zero_unseen (λ z. lt z y) (zeros y) x
  where
    zeros : (y : Float) (s : Bool) (e : ℤ) → lt nought y ≡ lt (fin s 0 e) y
    zeros nan s e = refl
    zeros (inf t) s e = refl
    zeros (fin false n d) false e = simp (zero-mul, multiple_above, down_pos)
    zeros (fin false n d) true e = simp (zero-mul, zero-add, multiple_above, down_pos)
    zeros (fin true n d) false e = refl
    zeros (fin true n d) true e = simp (zero-mul, leb-suc-zero)

pub less_read_zero : (x y : Float) → lt y (read_zero x) ≡ lt y x
unfolding lt of_bits
less_read_zero x y = read_zero_unseen (lt y) (zeros y) x
  where
    zeros : (y : Float) (s : Bool) (e : ℤ) → lt y nought ≡ lt y (fin s 0 e)
    zeros nan s e = refl
    zeros (inf t) s e = refl
    zeros (fin false n d) false e = simp (zero-mul, leb-suc-zero)
    zeros (fin false n d) true e = simp (zero-mul, leb-suc-zero)
    zeros (fin true n d) false e = simp (zero-mul, add-zero, multiple_above, down_pos)
    zeros (fin true n d) true e = simp (zero-mul, add-zero, multiple_above, down_pos)

pub read_zero_below : (x : Float) → lt (read_zero x) nought ≡ lt x nought
read_zero_below x = read_zero_less x nought

-- a sum with a plain float: of two zeros, only two negative ones make a negative one
sum_zeros : (f : Format) (x : Float) → T (plain x) → (s : Bool) (d : ℤ) → add f x nought ≡ add f x (fin s 0 d)
unfolding add sum plain of_bits
sum_zeros f nan p s d = absurd p
sum_zeros f (inf t) p s d = absurd p
sum_zeros f (fin true m e) p s d = absurd p
sum_zeros f (fin false m e) p s d = go s
  where
    own : round f false (m * up e * 1) (down e * 1) ≡ round f false (m * up e * down d) (down e * down d)
    own = round_same f false _ _ _ _ (mul-pos (down_pos e) (omega arith)) (mul-pos (down_pos e) (down_pos d)) (omega arith)

    go : (s : Bool) → add f (fin false m e) nought ≡ add f (fin false m e) (fin s 0 d)
    go false = simp (zero-mul, add-zero) own
    go true = simp (zero-mul, leb-suc-zero, add-zero, sub-zero) own

pub sum_read_zero : {f : Format} {x : Float} → PlainIn f x → (y : Float) → add f x (read_zero y) ≡ add f x y
sum_read_zero {f} {x} p y = read_zero_unseen (add f x) (sum_zeros f x p.is_plain) y

-- ---- held and plain as read
pub read_zero_held : (f : Format) (x : Float) → T (fits f x) → T (fits f (read_zero x))
unfolding read_zero of_bits
read_zero_held f x t = cond-fits f (eq x zero_float) zero_float x (zero_plain f).is_held t

pub read_zero_plain : (f : Format) (x : Float) → T (fits f x) → T (is_finite x) → T (not (lt x nought)) → PlainIn f (read_zero x)
unfolding read_zero of_bits
read_zero_plain f x t i h = record { is_plain = not_below_clear x i h; is_held = read_zero_held f x t }

pub read_zero_own : {f : Format} {x : Float} → PlainIn f x → read_zero x ≡ x
unfolding read_zero of_bits
read_zero_own {f} {x} p = go (eq x zero_float) (λ (h : T (eq x zero_float)). nothing_is_zero p (none (exact_in f x) (exact_in f zero_float) (le→exact p (zero_plain f) (le_of_eq_float x zero_float h)) (zero_exact f)))
  where
    none : (a b : ℕ) → a ≤ b → b ≡ 0 → a ≡ 0
    none a b h e = omega arith

    go : (b : Bool) → (T b → x ≡ zero_float) → cond b zero_float x ≡ x
    go true h = sym (h tt)
    go false h = refl

-- a finite float of any sign, with zero as its floor
pub floored_plain : (f : Format) (x : Float) → T (fits f x) → T (is_finite x) → PlainIn f (larger (read_zero x) nought)
unfolding larger
floored_plain f x t i = go (lt (read_zero x) nought) (λ (h : T (not (lt (read_zero x) nought))). read_zero_plain f x t i (subst (λ (b : Bool). T (not b)) (read_zero_below x) h))
  where
    go : (b : Bool) → (T (not b) → PlainIn f (read_zero x)) → PlainIn f (cond b nought (read_zero x))
    go true h = nought_plain
    go false h = h tt
