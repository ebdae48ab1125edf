-- How far rounding moves a fraction: for an exact q between 0 and C the rounded value is within half of one step of q, on both sides, a step being C / 2^52 + 1 / 2^1074
-- for a double. All bounds are stated doubled, so that halves stay whole. Assumes nothing.
use Rattle.std.proofs.Common.{◌≡◌, ℕ, suc, ◌+◌, ◌-◌, ◌*◌, ◌/◌, ◌^◌, ◌<◌, ◌≤◌, Bool, true, false, cond, T, ltb, ◌⊎◌, sym, refl, ap, ◌∙◌, subst, inl, inr, le_trans, le_of_eq, le-add_right, mul-le-mul_right, zero-lt-suc, mul_assoc, mul_comm, eq-zero-or-pos, mul-pos, one-mul, le-div_iff_mul-le, mul-one, mul_right_comm, le_of_mul-le-mul_right, le-add_left, arith, pow_pos, pow-add}
use lib.Ieee.{Float, nan, inf, fin, Format, prec, low, size, odd, units, round, le, hid}
use lib.Ieee.Digits.{size_reaches}
use lib.Ieee.Fits.{two, two-le_pos, round_is, round-fits}
use lib.Ieee.Exact.{HasValue, odd_sign, round_exact}
use lib.Ieee.Order.{drop, kept, round_mono}
use lib.Ieee.Scale.{grid, overflow, finite, round_val, round_under, round_same}
use Rattle.doubles.specs.Doubles.{plain, PlainIn}
use Rattle.doubles.specs.Exact.{one, exact_in}
use Rattle.doubles.proofs.Closest.{Within, closest_within}
use Rattle.doubles.proofs.Units.{step_in, one_pos, one_split, plain_of_value, held_den, exact_of_value, grid_value}
use Rattle.doubles.proofs.Ordered.{le→exact}

-- ---- in the format's smallest values
all_in_use : (z p : ℕ) → 0 < p → 0 < z - p → p - 1 + (z - p) < z
all_in_use z p P h = omega arith

-- the last place kept, 2 ^ drop, is 1 or at most the fraction over 2 ^ (p - 1)
last_place : (p n c : ℕ) → 0 < p → 0 < c → c * 2 ^ drop p n c * 2 ^ (p - 1) ≤ n + c * 2 ^ (p - 1)
last_place p n c P C =
    elim (eq-zero-or-pos (drop p n c)) [
      | inl z ↦ subst (λ (k : ℕ). c * 2 ^ k * 2 ^ (p - 1) ≤ n + c * 2 ^ (p - 1)) (sym z) (le_trans (le_of_eq (ap (λ (x : ℕ). x * 2 ^ (p - 1)) (mul-one c))) (le-add_left (c * 2 ^ (p - 1)) n))
      | inr h ↦
          let k = drop p n c in
          le_trans (le_of_eq (mul_assoc c (2 ^ k) (2 ^ (p - 1)) ∙ mul_comm c (2 ^ k * 2 ^ (p - 1)) ∙ ap (λ (x : ℕ). x * c) (mul_comm (2 ^ k) (2 ^ (p - 1)) ∙ sym (pow-add 2 (p - 1) k))))
          (le_trans ((le-div_iff_mul-le C).0 (size_reaches (n / c) (p - 1 + k) (all_in_use (size (n / c)) p P h))) (le-add_right n (c * 2 ^ (p - 1))))
    ]

-- q * u is within u / 2 of n, where u = c * w and q * w = g; and u * H ≤ n + c * H
spread : (g q w c n H : ℕ) → g ≡ q * w → Within q (c * w) n → c * w * H ≤ n + c * H → (2 * (g * c * H) ≤ 2 * (n * H) + n + c * H) × (2 * (n * H) ≤ 2 * (g * c * H) + n + c * H)
spread g q w c n H e d l =
    let i : g * c * H ≡ q * (c * w) * H = ap (λ (x : ℕ). x * H) (ap (λ (x : ℕ). x * c) e ∙ mul_assoc q w c ∙ ap (λ (x : ℕ). q * x) (mul_comm w c)) in
    let a : 2 * (q * (c * w)) * H ≤ (2 * n + c * w) * H = mul-le-mul_right H d.0 in
    let b : 2 * n * H ≤ (2 * (q * (c * w)) + c * w) * H = mul-le-mul_right H d.1 in
    (upper i a, lower i b)
  where
    upper : g * c * H ≡ q * (c * w) * H → 2 * (q * (c * w)) * H ≤ (2 * n + c * w) * H → 2 * (g * c * H) ≤ 2 * (n * H) + n + c * H
    upper i a = omega arith

    lower : g * c * H ≡ q * (c * w) * H → 2 * n * H ≤ (2 * (q * (c * w)) + c * w) * H → 2 * (n * H) ≤ 2 * (g * c * H) + n + c * H
    lower i b = omega arith

pub grid_within : (f : Format) (a c : ℕ) → 0 < c
    → (2 * (grid f a c * c * hid f) ≤ 2 * (a * 2 ^ low f * hid f) + a * 2 ^ low f + c * hid f) × (2 * (a * 2 ^ low f * hid f) ≤ 2 * (grid f a c * c * hid f) + a * 2 ^ low f + c * hid f)
grid_within f a c C =
    let n = a * 2 ^ low f in
    let p = prec f in
    let k = drop p n c in
    spread (grid f a c) (kept p n c) (2 ^ k) c n (hid f) refl (closest_within n (c * 2 ^ k) (mul-pos C (pow_pos k))) (last_place p n c (two-le_pos p (two f)) C)

-- ---- in units
pub exact_round : (f : Format) (a c : ℕ) → T (finite (round f false a c)) → exact_in f (round f false a c) ≡ grid f a c * hid f
exact_round f a c t = exact_of_value f (round f false a c) (grid f a c) (held_den f (round f false a c) (round-fits f false a c)) (round_val f a c (round_under f a c t))

units_within : (f : Format) (a c : ℕ) → 0 < c → T (finite (round f false a c))
    → (2 * (exact_in f (round f false a c) * c) ≤ 2 * (a * one f) + a * 2 ^ low f + c * hid f) × (2 * (a * one f) ≤ 2 * (exact_in f (round f false a c) * c) + a * 2 ^ low f + c * hid f)
units_within f a c C t =
    let w = grid_within f a c C in
    let y : exact_in f (round f false a c) * c ≡ grid f a c * c * hid f = ap (λ (z : ℕ). z * c) (exact_round f a c t) ∙ mul_right_comm (grid f a c) (hid f) c in
    let n : a * one f ≡ a * 2 ^ low f * hid f = ap (λ (z : ℕ). a * z) (one_split f) ∙ sym (mul_assoc a (2 ^ low f) (hid f)) in
    (rw y (rw n w.0), rw y (rw n w.1))

-- where the fraction is at most C, a whole number of the format's smallest values
under_the_bound : (f : Format) (a c C : ℕ) → 0 < c → T (finite (round f false a c)) → C / hid f * hid f ≡ C → a * one f ≤ C * c
    → (2 * (exact_in f (round f false a c) * c) ≤ 2 * (a * one f) + c * step_in f C) × (2 * (a * one f) ≤ 2 * (exact_in f (round f false a c) * c) + c * step_in f C)
unfolding step_in
under_the_bound f a c C P t e h =
    let w = units_within f a c P t in
    let n = a * 2 ^ low f in
    let H = hid f in
    let t = C / H in
    let l : n ≤ t * c =
    le_of_mul-le-mul_right
    (le_trans (le_of_eq (mul_assoc a (2 ^ low f) H ∙ ap (λ (z : ℕ). a * z) (sym (one_split f)))) (le_trans h (le_of_eq (ap (λ (z : ℕ). z * c) (sym e) ∙ mul_right_comm t H c)))) (pow_pos (prec f - 1)) in
    (omega (arith, w.0, l), omega (arith, w.1, l))

-- ---- `rounded f A B`: A / B units, rounded; every operation of this crate is one of these
abbrev pub rounded : Format → ℕ → ℕ → Float
rounded f A B = round f false A (B * one f)

pub over_pos : (f : Format) (B : ℕ) → 0 < B → 0 < B * one f
over_pos f B h = mul-pos h (one_pos f)

-- THE ROUNDING: for A / B at most C the rounded value y has 2 * y within one step of 2 * A / B, both sides multiplied out by B
pub rounded_within : (f : Format) (A B C : ℕ) → 0 < B → T (finite (rounded f A B)) → C / hid f * hid f ≡ C → A ≤ C * B
    → (2 * (exact_in f (rounded f A B) * B) ≤ 2 * A + B * step_in f C) × (2 * A ≤ 2 * (exact_in f (rounded f A B) * B) + B * step_in f C)
rounded_within f A B C P t e h =
    let o = one f in
    let y = exact_in f (rounded f A B) in
    let w = under_the_bound f A (B * o) C (over_pos f B P) t e (le_trans (mul-le-mul_right o h) (le_of_eq (mul_assoc C B o))) in
    (le_of_mul-le-mul_right (upper y (step_in f C) o w.0) (one_pos f), le_of_mul-le-mul_right (lower y (step_in f C) o w.1) (one_pos f))
  where
    upper : (y v o : ℕ) → 2 * (y * (B * o)) ≤ 2 * (A * o) + B * o * v → 2 * (y * B) * o ≤ (2 * A + B * v) * o
    upper y v o k = omega arith

    lower : (y v o : ℕ) → 2 * (A * o) ≤ 2 * (y * (B * o)) + B * o * v → 2 * A * o ≤ (2 * (y * B) + B * v) * o
    lower y v o k = omega arith

-- ---- what rounding makes is plain, or it is the infinity above all
pub round_kind : (f : Format) (a c : ℕ) → T (plain (round f false a c)) ⊎ (round f false a c ≡ inf false)
unfolding units
round_kind f a c =
    subst (λ (z : Float). T (plain z) ⊎ (z ≡ inf false)) (sym (round_is f false a c)) (go (kept (prec f) (a * 2 ^ low f) c) (drop (prec f) (a * 2 ^ low f) c) (ltb (grid f a c) (overflow f)))
  where
    go : (q k : ℕ) (b : Bool) → T (plain (cond b (odd (suc (prec f)) false q k (low f)) (inf false))) ⊎ (cond b (odd (suc (prec f)) false q k (low f)) (inf false) ≡ inf false)
    go q k true = inl (plain_of_value (odd (suc (prec f)) false q k (low f)) (q * 2 ^ k) (2 ^ low f) (odd_sign (suc (prec f)) false q k (low f)))
    go q k false = inr refl

pub inf_above : (w : Float) → T (plain w) → T (le (inf false) w) → ⊥
unfolding plain le
inf_above nan p h = p
inf_above (inf s) p h = p
inf_above (fin true m e) p h = p
inf_above (fin false m e) p h = h

plain_under : (f : Format) (a c : ℕ) (w : Float) → T (plain w) → T (le (round f false a c) w) → PlainIn f (round f false a c)
plain_under f a c w p h =
    elim (round_kind f a c) [
      | inl k ↦ record { is_plain = k; is_held = round-fits f false a c }
      | inr e ↦ absurd (inf_above w p (subst (λ (z : Float). T (le z w)) e h))
    ]

pub plain_finite : (x : Float) → T (plain x) → T (finite x)
unfolding plain
plain_finite nan p = p
plain_finite (inf s) p = p
plain_finite (fin s m e) p = tt

-- ---- rounding keeps the order, and moves no value of the format
pub rounded_mono : (f : Format) (A B A' B' : ℕ) → 0 < B → 0 < B' → A * B' ≤ A' * B → T (le (rounded f A B) (rounded f A' B'))
rounded_mono f A B A' B' P P' h =
    round_mono f A (B * one f) A' (B' * one f) (over_pos f B P) (over_pos f B' P')
    (le_trans (le_of_eq (sym (mul_assoc A B' (one f)))) (le_trans (mul-le-mul_right (one f) h) (le_of_eq (mul_assoc A' B (one f)))))

module _ {f : Format} {x : Float} (p : PlainIn f x) where
  pub rounded_own : PlainIn f (rounded f (exact_in f x) 1) × (exact_in f (rounded f (exact_in f x) 1) ≡ exact_in f x)
  rounded_own =
      let G = (grid_value p).0 in
      let g = G.0 * 2 ^ G.1 in
      let l = 2 ^ low f in
      let e : exact_in f x ≡ g * hid f = (grid_value p).2 in
      let v : HasValue (round f false g l) false g l = round_exact f false g l G.0 G.1 (pow_pos (low f)) G.2 G.3 refl in
      let s : round f false g l ≡ rounded f (exact_in f x) 1 =
      round_same f false g l (exact_in f x) (1 * one f) (pow_pos (low f)) (over_pos f 1 (zero-lt-suc 0))
      (ap (λ (z : ℕ). g * z) (one-mul (one f) ∙ one_split f) ∙ sym (mul_assoc g l (hid f)) ∙ mul_right_comm g l (hid f) ∙ ap (λ (z : ℕ). z * l) (sym e)) in
      let v' : HasValue (rounded f (exact_in f x) 1) false g l = subst (λ (z : Float). HasValue z false g l) s v in
      let t = round-fits f false (exact_in f x) (1 * one f) in (
        record { is_plain = plain_of_value (rounded f (exact_in f x) 1) g l v'; is_held = t },
        exact_of_value f (rounded f (exact_in f x) 1) g (held_den f (rounded f (exact_in f x) 1) t) v' ∙ sym e,
      )

  -- what is at most x rounds to at most x
  pub rounded_le : (A B : ℕ) → 0 < B → A ≤ exact_in f x * B → PlainIn f (rounded f A B) × (exact_in f (rounded f A B) ≤ exact_in f x)
  rounded_le A B P h =
      let l : T (le (rounded f A B) (rounded f (exact_in f x) 1)) = rounded_mono f A B (exact_in f x) 1 P (zero-lt-suc 0) (le_trans (le_of_eq (mul-one A)) h) in
      let k = plain_under f A (B * one f) (rounded f (exact_in f x) 1) rounded_own.0.is_plain l in
      (k, le_trans (le→exact k rounded_own.0 l) (le_of_eq rounded_own.1))
