-- Sums and products of plain floats are one rounding of the exact ones, so they grow with their operands; and what is under a plain sum or product is plain.
-- Assumes nothing.
use Rattle.std.proofs.Common.{◌≡◌, ℕ, ◌+◌, ◌*◌, ◌^◌, ◌≤◌, true, false, T, pos, sym, refl, ap, ◌∙◌, subst, le_trans, mul-le-mul_right, zero-lt-suc, mul_assoc, mul-le-mul, mul-pos, mul_left_comm, arith}
use lib.Ieee.{Float, nan, inf, fin, Format, prec, round, add, mul, le, of_int}
use lib.Ieee.Scale.{round_same}
use lib.Ieee.Positive.{num, den, den_pos}
use Rattle.doubles.specs.Doubles.{plain, PlainIn}
use Rattle.doubles.specs.Exact.{one, exact_in}
use Rattle.doubles.proofs.Units.{one_pos, exact_cross}
use Rattle.doubles.proofs.Ordered.{both_cross, le→exact, exact→le}
use Rattle.doubles.proofs.Rounded.{rounded, over_pos, rounded_mono}
use Rattle.doubles.proofs.Quotient.{count_plain, count_exact}
use Rattle.doubles.proofs.Signs.{plain_nonneg, under_plain, sum_nonneg, product_nonneg}

-- ---- the order of plain floats
module _ {f : Format} {x y z : Float} (p : PlainIn f x) (q : PlainIn f y) (r : PlainIn f z) where
  pub plain_le_trans : T (le x y) → T (le y z) → T (le x z)
  plain_le_trans h k = exact→le p r (le_trans (le→exact p q h) (le→exact q r k))

-- counts up to 2 ^ prec are in the order of numbers
pub count_le : (f : Format) (l n : ℕ) → l ≤ n → n ≤ 2 ^ prec f → T (le (of_int f (pos l)) (of_int f (pos n)))
count_le f l n h k =
    exact→le (count_plain f l (le_trans h k)) (count_plain f n k) (rw (count_exact f l (le_trans h k), count_exact f n k) (mul-le-mul_right (one f) h))

-- ---- sums
add_is : (f : Format) (x y : Float) → T (plain x) → T (plain y) → add f x y ≡ round f false (num x * den y + num y * den x) (den x * den y)
unfolding plain add
add_is f nan y p q = absurd p
add_is f (inf s) y p q = absurd p
add_is f (fin true m e) y p q = absurd p
add_is f (fin false m e) nan p q = absurd q
add_is f (fin false m e) (inf t) p q = absurd q
add_is f (fin false m e) (fin true n d) p q = absurd q
add_is f (fin false m e) (fin false n d) p q = refl

plus_same : (X Y D a b o : ℕ) → X * D ≡ a * o → Y * D ≡ b * o → (a + b) * (1 * o) ≡ (X + Y) * D
plus_same X Y D a b o p q = omega arith

pub sum_rounded : {f : Format} {x y : Float} → PlainIn f x → PlainIn f y → add f x y ≡ rounded f (exact_in f x + exact_in f y) 1
sum_rounded {f} {x} {y} p q =
    add_is f x y p.is_plain q.is_plain
    ∙ round_same f false (num x * den y + num y * den x) (den x * den y) (exact_in f x + exact_in f y) (1 * one f) (mul-pos (den_pos x) (den_pos y)) (over_pos f 1 (zero-lt-suc 0))
    (plus_same (exact_in f x) (exact_in f y) (den x * den y) (num x * den y) (num y * den x) (one f) (both_cross p q).0 (both_cross p q).1)

-- ---- products
mul_is : (f : Format) (x y : Float) → T (plain x) → T (plain y) → mul f x y ≡ round f false (num x * num y) (den x * den y)
unfolding plain mul
mul_is f nan y p q = absurd p
mul_is f (inf s) y p q = absurd p
mul_is f (fin true m e) y p q = absurd p
mul_is f (fin false m e) nan p q = absurd q
mul_is f (fin false m e) (inf t) p q = absurd q
mul_is f (fin false m e) (fin true n d) p q = absurd q
mul_is f (fin false m e) (fin false n d) p q = refl

times_same : (X Y dx dy nx ny o : ℕ) → X * dx ≡ nx * o → Y * dy ≡ ny * o → nx * ny * (o * o) ≡ X * Y * (dx * dy)
times_same X Y dx dy nx ny o p q =
    let a : nx * ny * (o * o) ≡ nx * o * (ny * o) = simp (mul_assoc, mul_left_comm) in
    let b : X * dx * (Y * dy) ≡ X * Y * (dx * dy) = simp (mul_assoc, mul_left_comm) in
    a ∙ ap (λ (z : ℕ). z * (ny * o)) (sym p) ∙ ap (λ (z : ℕ). X * dx * z) (sym q) ∙ b

pub product_rounded : {f : Format} {x y : Float} → PlainIn f x → PlainIn f y → mul f x y ≡ rounded f (exact_in f x * exact_in f y) (one f)
product_rounded {f} {x} {y} p q =
    mul_is f x y p.is_plain q.is_plain
    ∙ round_same f false (num x * num y) (den x * den y) (exact_in f x * exact_in f y) (one f * one f) (mul-pos (den_pos x) (den_pos y)) (over_pos f (one f) (one_pos f))
    (times_same (exact_in f x) (exact_in f y) (den x) (den y) (num x) (num y) (one f) (exact_cross p) (exact_cross q))

-- ---- the laws
module _ {f : Format} {x y a b : Float} (p : PlainIn f x) (q : PlainIn f y) (r : PlainIn f a) (s : PlainIn f b) (h : T (le x a)) (k : T (le y b)) where
  pub sum_mono : T (le (add f x y) (add f a b))
  sum_mono =
      rw (sum_rounded p q, sum_rounded r s)
      (rounded_mono f (exact_in f x + exact_in f y) 1 (exact_in f a + exact_in f b) 1 (zero-lt-suc 0) (zero-lt-suc 0) (both (exact_in f x) (exact_in f y) (exact_in f a) (exact_in f b) (le→exact p r h) (le→exact q s k)))
    where
      both : (X Y A B : ℕ) → X ≤ A → Y ≤ B → (X + Y) * 1 ≤ (A + B) * 1
      both X Y A B i j = omega arith

  pub product_mono : T (le (mul f x y) (mul f a b))
  product_mono =
      rw (product_rounded p q, product_rounded r s)
      (rounded_mono f (exact_in f x * exact_in f y) (one f) (exact_in f a * exact_in f b) (one f) (one_pos f) (one_pos f) (mul-le-mul_right (one f) (mul-le-mul (le→exact p r h) (le→exact q s k))))

  pub sum_under : PlainIn f (add f a b) → PlainIn f (add f x y)
  sum_under w = under_plain (sum_nonneg (plain_nonneg p) (plain_nonneg q)) w sum_mono

  pub product_under : PlainIn f (mul f a b) → PlainIn f (mul f x y)
  product_under w = under_plain (product_nonneg p q) w product_mono

  -- a bound that an amount b no longer changes is a bound of every sum of such amounts
  pub stall : add f a b ≡ a → PlainIn f (add f x y) × T (le (add f x y) a)
  stall e = (sum_under (subst (PlainIn f) (sym e) r), subst (λ (z : Float). T (le (add f x y) z)) e sum_mono)
