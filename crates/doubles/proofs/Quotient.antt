-- Division by a count: it is one rounding of the exact quotient, so it is plain, never exceeds its dividend, is off by half a step at most, and keeps the order of
-- exact quotients. Assumes nothing.
use Rattle.std.proofs.Common.{◌≡◌, ℕ, ◌+◌, ◌*◌, ◌/◌, ◌^◌, ◌<◌, ◌≤◌, Bool, true, false, cond, T, eqb, pos, sym, refl, ap, ◌∙◌, subst, true≢false, le_trans, lt_irrefl, mul_assoc, mul_comm, mul-pos, zero-mul, mul-one, mul_right_comm, le-mul_of_pos_right, mul_left_comm, eqb→eq}
use native.Mathlib.Nat.{eq_of_mul-eq-mul_right}
use lib.Ieee.{Float, nan, inf, fin, Format, prec, up, down, round, div, of_int, le, hid}
use lib.Ieee.Fits.{down_pos, of_int-fits}
use lib.Ieee.Exact.{HasValue}
use lib.Ieee.Back.{round_whole}
use lib.Ieee.Scale.{round_same}
use lib.Ieee.Positive.{num, den, den_pos, value→cross}
use Rattle.doubles.specs.Doubles.{plain, PlainIn}
use Rattle.doubles.specs.Exact.{one, exact_in}
use Rattle.doubles.proofs.Units.{step_in, plain_of_value, exact_cross}
use Rattle.doubles.proofs.Ordered.{exact→le}
use Rattle.doubles.proofs.Rounded.{rounded, over_pos, rounded_within, rounded_mono, rounded_le, plain_finite}

-- ---- a count up to 2 ^ prec is a value of the format
count_value : (f : Format) (l : ℕ) → l ≤ 2 ^ prec f → HasValue (of_int f (pos l)) false l 1
unfolding of_int
count_value f l h = round_whole f false l h

pub count_plain : (f : Format) (l : ℕ) → l ≤ 2 ^ prec f → PlainIn f (of_int f (pos l))
count_plain f l h = record { is_plain = plain_of_value (of_int f (pos l)) l 1 (count_value f l h); is_held = of_int-fits f (pos l) }

pub count_exact : (f : Format) (l : ℕ) → l ≤ 2 ^ prec f → exact_in f (of_int f (pos l)) ≡ l * one f
count_exact f l h =
    let y = of_int f (pos l) in
    eq_of_mul-eq-mul_right (den y) (den_pos y) (exact_in f y) (l * one f)
    (exact_cross (count_plain f l h) ∙ ap (λ (z : ℕ). z * one f) (sym (mul-one (num y)) ∙ value→cross y l 1 (count_value f l h)) ∙ mul_right_comm l (den y) (one f))

-- ---- the quotient as a rounding
not_zero : (n u l d : ℕ) → n * u * 1 ≡ l * d → 0 < l * d → T (eqb n 0) → ⊥
not_zero n u l d h p t = lt_irrefl 0 (subst (λ (x : ℕ). 0 < x) (sym h ∙ ap (λ (y : ℕ). y * u * 1) (eqb→eq n 0 t) ∙ ap (λ (y : ℕ). y * 1) (zero-mul u) ∙ zero-mul 1) p)

div_is : (f : Format) (x y : Float) (l : ℕ) → T (plain x) → HasValue y false l 1 → 0 < l → div f x y ≡ round f false (num x * den y) (num y * den x)
unfolding plain div
div_is f nan y l p v L = absurd p
div_is f (inf s) y l p v L = absurd p
div_is f (fin true m e) y l p v L = absurd p
div_is f (fin false m e) nan l p v L = absurd v
div_is f (fin false m e) (inf t) l p v L = absurd v
div_is f (fin false m e) (fin true n d) l p v L = absurd (true≢false v.0)
div_is f (fin false m e) (fin false n d) l p v L = go (eqb n 0) (not_zero n (up d) l (down d) v.1 (mul-pos L (down_pos d)))
  where
    go : (b : Bool) → (T b → ⊥)
        → cond b (cond (eqb m 0) nan (inf false)) (round f false (m * up e * down d) (n * up d * down e)) ≡ round f false (m * up e * down d) (n * up d * down e)
    go true k = absurd (k tt)
    go false k = refl

-- x over the count l
abbrev pub over : Format → Float → ℕ → Float
over f x l = div f x (of_int f (pos l))

module _ {f : Format} {x : Float} (p : PlainIn f x) (l : ℕ) (L : 0 < l) (L' : l ≤ 2 ^ prec f) where
  pub quotient_rounded : over f x l ≡ rounded f (exact_in f x) l
  quotient_rounded =
      let y = of_int f (pos l) in
      let v = count_value f l L' in
      let c : num y ≡ l * den y = sym (mul-one (num y)) ∙ value→cross y l 1 v in
      div_is f x y l p.is_plain v L
      ∙ round_same f false (num x * den y) (num y * den x) (exact_in f x) (l * one f) (subst (λ (z : ℕ). 0 < z * den x) (sym c) (mul-pos (mul-pos L (den_pos y)) (den_pos x))) (over_pos f l L)
      (mix (num x) (den x) (den y) (exact_in f x) l (one f) (exact_cross p) ∙ ap (λ (z : ℕ). exact_in f x * (z * den x)) (sym c))
    where
      mix : (nx dx dy X k o : ℕ) → X * dx ≡ nx * o → nx * dy * (k * o) ≡ X * (k * dy * dx)
      mix nx dx dy X k o h =
          let a : nx * dy * (k * o) ≡ nx * o * (k * dy) = simp (mul_assoc, mul_comm, mul_left_comm) in
          let b : X * dx * (k * dy) ≡ X * (k * dy * dx) = simp (mul_assoc, mul_comm, mul_left_comm) in
          a ∙ ap (λ (z : ℕ). z * (k * dy)) (sym h) ∙ b

  under : PlainIn f (rounded f (exact_in f x) l) × (exact_in f (rounded f (exact_in f x) l) ≤ exact_in f x)
  under = rounded_le p (exact_in f x) l L (le-mul_of_pos_right (exact_in f x) L)

  pub quotient_plain : PlainIn f (over f x l)
  quotient_plain = subst (λ (z : Float). PlainIn f z) (sym quotient_rounded) under.0

  -- a quotient never exceeds its dividend
  pub quotient_under : exact_in f (over f x l) ≤ exact_in f x
  quotient_under = subst (λ (z : Float). exact_in f z ≤ exact_in f x) (sym quotient_rounded) under.1

  pub quotient_le : T (le (over f x l) x)
  quotient_le = exact→le quotient_plain p quotient_under

  -- l quotients are within l half steps of the dividend
  pub quotient_within : (C : ℕ) → C / hid f * hid f ≡ C → exact_in f x ≤ C
      → (2 * (exact_in f (over f x l) * l) ≤ 2 * exact_in f x + l * step_in f C) × (2 * exact_in f x ≤ 2 * (exact_in f (over f x l) * l) + l * step_in f C)
  quotient_within C e h =
      subst (λ (z : Float). (2 * (exact_in f z * l) ≤ 2 * exact_in f x + l * step_in f C) × (2 * exact_in f x ≤ 2 * (exact_in f z * l) + l * step_in f C)) (sym quotient_rounded)
      (rounded_within f (exact_in f x) l C L (plain_finite (rounded f (exact_in f x) l) under.0.is_plain) e (le_trans h (le-mul_of_pos_right C L)))

-- ---- quotients are in the order of the exact ones
pub quotient_mono : {f : Format} {x y : Float} → PlainIn f x → PlainIn f y → (k l : ℕ) → 0 < k → k ≤ 2 ^ prec f → 0 < l → l ≤ 2 ^ prec f → exact_in f x * l ≤ exact_in f y * k
    → T (le (over f x k) (over f y l))
quotient_mono {f} {x} {y} p q k l K K' L L' h =
    subst (λ (z : Float). T (le z (over f y l))) (sym (quotient_rounded p k K K'))
    (subst (λ (z : Float). T (le (rounded f (exact_in f x) k) z)) (sym (quotient_rounded q l L L')) (rounded_mono f (exact_in f x) k (exact_in f y) l K L h))
