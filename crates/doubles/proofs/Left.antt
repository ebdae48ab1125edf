-- What is left of x after y, the larger of their difference and zero: it is plain, never exceeds x, is zero exactly where y is no less than x, and loses half a step
-- at most. Assumes nothing.
use Rattle.std.proofs.Common.{◌≡◌, ℕ, ◌+◌, ◌-◌, ◌*◌, ◌/◌, ◌^◌, ◌<◌, ◌≤◌, Bool, true, false, cond, T, sym, refl, ◌∙◌, subst, inl, inr, le_trans, le_of_eq, le_refl, le_of_lt, mul-le-mul_right, zero-lt-suc, mul_comm, mul-pos, one-mul, mul-one, not-le_of_lt, sub-le, arith, pow_pos}
use lib.Ieee.{Float, Format, prec, low, sub, lt, le, hid}
use Rattle.doubles.specs.Doubles.{larger, PlainIn}
use Rattle.doubles.specs.Exact.{one, exact_in}
use Rattle.doubles.proofs.Tests.{le_or_above}
use Rattle.doubles.proofs.Units.{step_in, one_split, exact_whole}
use Rattle.doubles.proofs.Ordered.{lt→exact, exact→le}
use Rattle.doubles.proofs.Rounded.{exact_round, rounded, over_pos, rounded_within, rounded_le, plain_finite}
use Rattle.doubles.proofs.Same.{zero_float, zero_plain, zero_exact}
use Rattle.doubles.proofs.Difference.{grid_pos, apart, difference_rounded, difference_below}

abbrev pub left : Format → Float → Float → Float
left f x y = larger (sub f x y) zero_float

-- R is left of X after Y, all three exact, at a step of v
pub record Step (v X Y R : ℕ) : Type 0 where
  pub down : 2 * X ≤ 2 * Y + 2 * R + v
  pub up : Y ≤ X → 2 * Y + 2 * R ≤ 2 * X + v
  pub out : X ≤ Y → R ≡ 0
  pub only : R ≡ 0 → X ≤ Y
  pub less : R ≤ X

taken : (b : Bool) (x y : Float) → T b → cond b x y ≡ x
taken true x y h = refl
taken false x y h = absurd h

not_taken : (b : Bool) (x y : Float) → (T b → ⊥) → cond b x y ≡ y
not_taken true x y h = absurd (h tt)
not_taken false x y h = refl

no_less : (z : ℕ) → z < 0 → ⊥
no_less z h = omega arith

kept_step : (v X Y R : ℕ) → Y ≤ X → 2 * (R * 1) ≤ 2 * (X - Y) + 1 * v → 2 * (X - Y) ≤ 2 * (R * 1) + 1 * v → R ≤ X → (X ≡ Y → R ≡ 0) → (Y < X → 0 < R) → Step v X Y R
kept_step v X Y R h a b l z n =
    record {
      down = omega arith;
      up = λ (g : Y ≤ X). omega arith;
      out = λ (g : X ≤ Y). z (same g);
      only = λ (g : R ≡ 0). elim (le_or_above X Y) [ inl k ↦ k | inr k ↦ absurd (clash g (n k)) ];
      less = l;
    }
  where
    same : X ≤ Y → X ≡ Y
    same g = omega arith

    clash : R ≡ 0 → 0 < R → ⊥
    clash g k = omega arith

gone_step : (v X Y R : ℕ) → X < Y → R ≡ 0 → Step v X Y R
gone_step v X Y R h e = record { down = omega arith; up = λ (g : Y ≤ X). absurd (not-le_of_lt h g); out = λ (g : X ≤ Y). e; only = λ (g : R ≡ 0). le_of_lt h; less = omega arith }

module _ {f : Format} {x y : Float} (p : PlainIn f x) (q : PlainIn f y) where
  rest : exact_in f y ≤ exact_in f x → PlainIn f (sub f x y) × (exact_in f (sub f x y) ≤ exact_in f x)
  rest h =
      subst (λ (z : Float). PlainIn f z × (exact_in f z ≤ exact_in f x)) (sym (difference_rounded p q h))
      (rounded_le p (exact_in f x - exact_in f y) 1 (zero-lt-suc 0) (le_trans (sub-le (exact_in f x) (exact_in f y)) (le_of_eq (sym (mul-one (exact_in f x))))))

  -- the difference itself, where the subtrahend is no more: it is plain, and at most the minuend
  pub difference_plain : exact_in f y ≤ exact_in f x → PlainIn f (sub f x y)
  difference_plain h = (rest h).0

  pub difference_under : exact_in f y ≤ exact_in f x → exact_in f (sub f x y) ≤ exact_in f x
  difference_under h = (rest h).1

  not_negative : exact_in f y ≤ exact_in f x → T (lt (sub f x y) zero_float) → ⊥
  not_negative h l = no_less (exact_in f (sub f x y)) (subst (λ (z : ℕ). exact_in f (sub f x y) < z) (zero_exact f) (lt→exact (rest h).0 (zero_plain f) l))

  -- so a difference is below zero only where the subtrahend is more
  pub below_difference : T (lt (sub f x y) zero_float) → exact_in f x < exact_in f y
  below_difference l = elim (le_or_above (exact_in f y) (exact_in f x)) [ inl h ↦ absurd (not_negative h l) | inr h ↦ h ]

  -- where the subtrahend is no more, what is left is the difference
  pub left_difference : exact_in f y ≤ exact_in f x → left f x y ≡ sub f x y
  unfolding larger
  left_difference h = not_taken (lt (sub f x y) zero_float) zero_float (sub f x y) (not_negative h)

  left_gone : exact_in f x < exact_in f y → left f x y ≡ zero_float
  unfolding larger
  left_gone h = taken (lt (sub f x y) zero_float) zero_float (sub f x y) (difference_below p q h)

  -- a difference is 0 exactly where the two are equal
  difference_none : exact_in f y ≤ exact_in f x → exact_in f x ≡ exact_in f y → exact_in f (sub f x y) ≡ 0
  difference_none h e =
      let A = exact_in f x - exact_in f y in
      let k = (rounded_le (zero_plain f) A 1 (zero-lt-suc 0) (gap (exact_in f x) (exact_in f y) (exact_in f zero_float * 1) e)).1 in
      subst (λ (z : Float). exact_in f z ≡ 0) (sym (difference_rounded p q h)) (none (exact_in f (rounded f A 1)) (exact_in f zero_float) k (zero_exact f))
    where
      gap : (a b c : ℕ) → a ≡ b → a - b ≤ c
      gap a b c i = omega arith

      none : (a b : ℕ) → a ≤ b → b ≡ 0 → a ≡ 0
      none a b i j = omega arith

  difference_some : exact_in f y < exact_in f x → 0 < exact_in f (sub f x y)
  difference_some h =
      let A = exact_in f x - exact_in f y in
      let i = difference_rounded p q (le_of_lt h) in
      let c : 1 * one f ≤ A * 2 ^ low f =
      le_trans (le_of_eq (one-mul (one f) ∙ one_split f ∙ mul_comm (2 ^ low f) (hid f))) (mul-le-mul_right (2 ^ low f) (apart (exact_in f y) (exact_in f x) (hid f) (exact_whole q) (exact_whole p) h)) in
      let k = plain_finite (rounded f A 1) (subst (λ (z : Float). PlainIn f z) i (rest (le_of_lt h)).0).is_plain in
      subst (λ (z : Float). 0 < exact_in f z) (sym i) (subst (λ (z : ℕ). 0 < z) (sym (exact_round f A (1 * one f) k)) (mul-pos (grid_pos f A (1 * one f) (over_pos f 1 (zero-lt-suc 0)) c) (pow_pos (prec f - 1))))

  -- ---- the laws
  pub left_plain : PlainIn f (left f x y)
  left_plain =
      elim (le_or_above (exact_in f y) (exact_in f x)) [
        | inl h ↦ subst (λ (z : Float). PlainIn f z) (sym (left_difference h)) (rest h).0
        | inr h ↦ subst (λ (z : Float). PlainIn f z) (sym (left_gone h)) (zero_plain f)
      ]

  pub left_step : (C : ℕ) → C / hid f * hid f ≡ C → exact_in f x ≤ C → Step (step_in f C) (exact_in f x) (exact_in f y) (exact_in f (left f x y))
  left_step C e h =
      let X = exact_in f x in
      let Y = exact_in f y in
      elim (le_or_above Y X) [
        | inl l ↦
            let i = difference_rounded p q l in
            let k = plain_finite (rounded f (X - Y) 1) (subst (λ (z : Float). PlainIn f z) i (rest l).0).is_plain in
            let w = rounded_within f (X - Y) 1 C (zero-lt-suc 0) k e (le_trans (sub-le X Y) (le_trans h (le_of_eq (sym (mul-one C))))) in
            subst (λ (d : Float). Step (step_in f C) X Y (exact_in f d)) (sym (left_difference l))
            (kept_step (step_in f C) X Y (exact_in f (sub f x y)) l (subst (λ (d : Float). 2 * (exact_in f d * 1) ≤ 2 * (X - Y) + 1 * step_in f C) (sym i) w.0) (subst (λ (d : Float). 2 * (X - Y) ≤ 2 * (exact_in f d * 1) + 1 * step_in f C) (sym i) w.1) (rest l).1 (difference_none l) difference_some)
        | inr l ↦ subst (λ (d : Float). Step (step_in f C) X Y (exact_in f d)) (sym (left_gone l)) (gone_step (step_in f C) X Y (exact_in f zero_float) l (zero_exact f))
      ]

  pub left_le : T (le (left f x y) x)
  left_le = exact→le left_plain p (left_step (exact_in f x) (exact_whole p) (le_refl (exact_in f x))).less
