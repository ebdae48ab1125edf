-- Subtraction of plain values: where the subtrahend is no more, it is one rounding of the exact difference; elsewhere it is below zero, and never rounds to a zero.
-- Assumes nothing.
use Rattle.std.proofs.Common.{◌≡◌, ℕ, suc, ◌+◌, ◌-◌, ◌*◌, ◌/◌, ◌^◌, ◌<◌, ◌≤◌, Bool, true, false, cond, T, ltb, sym, refl, ap, ◌∙◌, subst, inl, inr, le_trans, le_of_eq, add-zero, mul-le-mul_right, zero-lt-suc, mul_assoc, mul_comm, eq-zero-or-pos, lt_of_mul-lt-mul_right, mul-le-mul_left, mul-pos, one-mul, zero-mul, mul-one, not-le_of_lt, le_of_mul-le-mul_right, arith, ltb→lt, lt→ltb, pow_pos, pow_mono}
use native.Mathlib.Nat.{mul-sub}
use mathlib.Core.Bool.{false≢true}
use lib.Ieee.{Float, nan, inf, fin, Format, prec, low, up, down, odd, units, round, sum, sub, lt, hid}
use lib.Ieee.Fits.{two, round_is, down_pos}
use lib.Ieee.Exact.{HasValue, odd_sign}
use lib.Ieee.Order.{drop, kept}
use lib.Ieee.Scale.{grid, overflow, round_same}
use lib.Ieee.Positive.{num, den, den_pos, first_pos}
use Rattle.doubles.specs.Doubles.{plain, PlainIn}
use Rattle.doubles.specs.Exact.{one, exact_in}
use Rattle.doubles.proofs.Units.{one_split, exact_whole}
use Rattle.doubles.proofs.Ordered.{both_cross, exact→cross, exact→cross_lt}
use Rattle.doubles.proofs.Rounded.{grid_within, rounded, over_pos}
use Rattle.doubles.proofs.Same.{zero_float}

-- ---- which of the two is larger decides the sum of the one and the other negated
sum_ge : (f : Format) (a b c : ℕ) → b ≤ a → sum f false a true b c ≡ round f false (a - b) c
unfolding sum
sum_ge f a b c h = go (ltb a b) (ltb→lt a b)
  where
    go : (t : Bool) → (T t → a < b) → cond t (round f true (b - a) c) (round f false (a - b) c) ≡ round f false (a - b) c
    go true k = absurd (not-le_of_lt (k tt) h)
    go false k = refl

sum_lt : (f : Format) (a b c : ℕ) → a < b → sum f false a true b c ≡ round f true (b - a) c
unfolding sum
sum_lt f a b c h = go (ltb a b) (lt→ltb a b h)
  where
    go : (t : Bool) → T t → cond t (round f true (b - a) c) (round f false (a - b) c) ≡ round f true (b - a) c
    go true k = refl
    go false k = absurd k

sub_is : (f : Format) (x y : Float) → T (plain x) → T (plain y) → sub f x y ≡ sum f false (num x * den y) true (num y * den x) (den x * den y)
unfolding plain sub
sub_is f nan y p q = absurd p
sub_is f (inf s) y p q = absurd p
sub_is f (fin true m e) y p q = absurd p
sub_is f (fin false m e) nan p q = absurd q
sub_is f (fin false m e) (inf t) p q = absurd q
sub_is f (fin false m e) (fin true n d) p q = absurd q
sub_is f (fin false m e) (fin false n d) p q = refl

minus_same : (X Y D a b o : ℕ) → X * D ≡ a * o → Y * D ≡ b * o → (a - b) * o ≡ (X - Y) * D
minus_same X Y D a b o p q =
    mul_comm (a - b) o
    ∙ mul-sub o a b
    ∙ ap (λ (z : ℕ). z - o * b) (mul_comm o a ∙ sym p ∙ mul_comm X D)
    ∙ ap (λ (z : ℕ). D * X - z) (mul_comm o b ∙ sym q ∙ mul_comm Y D)
    ∙ sym (mul-sub D X Y)
    ∙ mul_comm D (X - Y)

-- ---- a fraction that is the format's smallest value or more does not round to zero
hid_two : (f : Format) → 2 ≤ hid f
hid_two f = pow_mono (at_least (prec f) (two f))
  where
    at_least : (p : ℕ) → 2 ≤ p → 1 ≤ p - 1
    at_least p h = omega arith

pub grid_pos : (f : Format) (a c : ℕ) → 0 < c → c ≤ a * 2 ^ low f → 0 < grid f a c
grid_pos f a c C h = elim (eq-zero-or-pos (grid f a c)) [ inl z ↦ absurd (no (a * 2 ^ low f) (grid f a c) (hid f) z (hid_two f) h (grid_within f a c C).1) | inr p ↦ p ]
  where
    no : (n g H : ℕ) → g ≡ 0 → 2 ≤ H → c ≤ n → 2 * (n * H) ≤ 2 * (g * c * H) + n + c * H → ⊥
    no n g H z t k l =
        let a : g * c * H ≡ 0 = ap (λ (y : ℕ). y * c * H) z ∙ ap (λ (y : ℕ). y * H) (zero-mul c) ∙ zero-mul H in
        let b : c * H ≤ n * H = mul-le-mul_right H k in
        let d : n * 2 ≤ n * H = mul-le-mul_left n t in
        omega arith

-- two different whole numbers of the format's smallest values differ by one at least
pub apart : (X Y H : ℕ) → X / H * H ≡ X → Y / H * H ≡ Y → X < Y → H ≤ Y - X
apart X Y H a b h =
    let c : X / H * H < Y / H * H = subst (λ (z : ℕ). z < Y / H * H) (sym a) (subst (λ (z : ℕ). X < z) (sym b) h) in
    let d : suc (X / H) * H ≤ Y / H * H = mul-le-mul_right H (lt_of_mul-lt-mul_right H c) in
    omega arith

-- ---- a negated value of some size is below zero
below_value : (z : Float) (g l : ℕ) → HasValue z true g l → 0 < g → T (lt z zero_float)
unfolding lt
below_value nan g l v G = absurd v
below_value (inf s) g l v G = absurd v
below_value (fin false m e) g l v G = absurd (false≢true v.0)
below_value (fin true m e) g l v G =
    let p : 0 < m * up e = first_pos (m * up e) l (subst (λ (y : ℕ). 0 < y) (sym v.1) (mul-pos G (down_pos e))) in
    lt→ltb 0 (m * up e * 1 + 0 * down e) (subst (λ (y : ℕ). 0 < y) (sym (ap (λ (y : ℕ). m * up e * 1 + y) (zero-mul (down e)) ∙ add-zero (m * up e * 1) ∙ mul-one (m * up e))) p)

round_below : (f : Format) (a c : ℕ) → 0 < grid f a c → T (lt (round f true a c) zero_float)
unfolding units
round_below f a c G =
    subst (λ (z : Float). T (lt z zero_float)) (sym (round_is f true a c)) (go (kept (prec f) (a * 2 ^ low f) c) (drop (prec f) (a * 2 ^ low f) c) (ltb (grid f a c) (overflow f)) G)
  where
    go : (q k : ℕ) (b : Bool) → 0 < q * 2 ^ k → T (lt (cond b (odd (suc (prec f)) true q k (low f)) (inf true)) zero_float)
    go q k true h = below_value (odd (suc (prec f)) true q k (low f)) (q * 2 ^ k) (2 ^ low f) (odd_sign (suc (prec f)) true q k (low f)) h
    go q k false h = unfold lt in tt

-- ---- the laws
module _ {f : Format} {x y : Float} (p : PlainIn f x) (q : PlainIn f y) where
  pub difference_rounded : exact_in f y ≤ exact_in f x → sub f x y ≡ rounded f (exact_in f x - exact_in f y) 1
  difference_rounded h =
      sub_is f x y p.is_plain q.is_plain
      ∙ sum_ge f (num x * den y) (num y * den x) (den x * den y) (exact→cross q p h)
      ∙ round_same f false (num x * den y - num y * den x) (den x * den y) (exact_in f x - exact_in f y) (1 * one f) (mul-pos (den_pos x) (den_pos y)) (over_pos f 1 (zero-lt-suc 0))
      (ap (λ (z : ℕ). (num x * den y - num y * den x) * z) (one-mul (one f)) ∙ minus_same (exact_in f x) (exact_in f y) (den x * den y) (num x * den y) (num y * den x) (one f) (both_cross p q).0 (both_cross p q).1)

  pub difference_below : exact_in f x < exact_in f y → T (lt (sub f x y) zero_float)
  difference_below h =
      let a = num x * den y in
      let b = num y * den x in
      let c = den x * den y in
      let X = exact_in f x in
      let Y = exact_in f y in
      let k : hid f ≤ Y - X = apart X Y (hid f) (exact_whole p) (exact_whole q) h in
      let e : (Y - X) * c ≡ (b - a) * 2 ^ low f * hid f =
      sym (minus_same Y X c b a (one f) (both_cross p q).1 (both_cross p q).0) ∙ ap (λ (z : ℕ). (b - a) * z) (one_split f) ∙ sym (mul_assoc (b - a) (2 ^ low f) (hid f)) in
      let g : c ≤ (b - a) * 2 ^ low f = le_of_mul-le-mul_right (le_trans (le_of_eq (mul_comm c (hid f))) (le_trans (mul-le-mul_right c k) (le_of_eq e))) (pow_pos (prec f - 1)) in
      subst (λ (z : Float). T (lt z zero_float)) (sym (sub_is f x y p.is_plain q.is_plain ∙ sum_lt f a b c (exact→cross_lt p q h)))
      (round_below f (b - a) c (grid_pos f (b - a) c (mul-pos (den_pos x) (den_pos y)) g))
