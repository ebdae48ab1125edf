-- What choosing keeps: the larger and the smaller of two floats are the larger and the smaller exact value, both stay plain, and the smaller is plain as soon as one
-- of the two is; so what is left of a float after the smaller of it and another is plain. Assumes nothing.
use Rattle.std.proofs.Common.{◌≡◌, ℕ, ◌<◌, ◌≤◌, min, max, Bool, true, false, cond, not, T, refl, le_refl, arith}
use lib.Ieee.{Float, nan, inf, fin, Format, sub, lt}
use Rattle.doubles.specs.Doubles.{larger, smaller, plain, nonneg, is_finite, PlainIn, NonnegIn}
use Rattle.doubles.specs.Exact.{exact_in}
use Rattle.doubles.proofs.Tests.{by_test}
use Rattle.doubles.proofs.Ordered.{le→exact, lt→exact, not_below}
use Rattle.doubles.proofs.Left.{difference_plain}
use Rattle.doubles.proofs.Signs.{finite_plain}

of_either : (P : Float → Type 0) (b : Bool) {x y : Float} → P x → P y → P (cond b x y)
of_either P true p q = p
of_either P false p q = q

module _ {f : Format} {x y : Float} where
  pub larger_plain : PlainIn f x → PlainIn f y → PlainIn f (larger x y)
  unfolding larger
  larger_plain p q = of_either (PlainIn f) (lt x y) q p

  pub smaller_plain : PlainIn f x → PlainIn f y → PlainIn f (smaller x y)
  unfolding smaller
  smaller_plain p q = of_either (PlainIn f) (lt y x) q p

  pub larger_nonneg : NonnegIn f x → NonnegIn f y → NonnegIn f (larger x y)
  unfolding larger
  larger_nonneg p q = of_either (NonnegIn f) (lt x y) q p

  pub smaller_nonneg : NonnegIn f x → NonnegIn f y → NonnegIn f (smaller x y)
  unfolding smaller
  smaller_nonneg p q = of_either (NonnegIn f) (lt y x) q p

-- ---- in exact values
module _ {f : Format} {x y : Float} (p : PlainIn f x) (q : PlainIn f y) where
  pub larger_exact : exact_in f (larger x y) ≡ max (exact_in f x) (exact_in f y)
  unfolding larger
  larger_exact =
      by_test (lt x y) (λ (b : Bool). exact_in f (cond b y x) ≡ max (exact_in f x) (exact_in f y)) (λ (h : T (lt x y)). above (exact_in f x) (exact_in f y) (lt→exact p q h))
      (λ (h : T (not (lt x y))). below (exact_in f x) (exact_in f y) (le→exact q p (not_below q p h)))
    where
      above : (a b : ℕ) → a < b → b ≡ max a b
      above a b h = omega arith

      below : (a b : ℕ) → b ≤ a → a ≡ max a b
      below a b h = omega arith

  pub smaller_exact : exact_in f (smaller x y) ≡ min (exact_in f x) (exact_in f y)
  unfolding smaller
  smaller_exact =
      by_test (lt y x) (λ (b : Bool). exact_in f (cond b y x) ≡ min (exact_in f x) (exact_in f y)) (λ (h : T (lt y x)). below (exact_in f x) (exact_in f y) (lt→exact q p h))
      (λ (h : T (not (lt y x))). above (exact_in f x) (exact_in f y) (le→exact p q (not_below p q h)))
    where
      below : (a b : ℕ) → b < a → b ≡ min a b
      below a b h = omega arith

      above : (a b : ℕ) → a ≤ b → a ≡ min a b
      above a b h = omega arith

-- ---- one of the two may be infinite
below_all : (x : Float) → T (plain x) → (lt x (inf false) ≡ true) × (lt (inf false) x ≡ false)
unfolding plain lt
below_all nan p = absurd p
below_all (inf s) p = absurd p
below_all (fin s m e) p = (refl, refl)

under_at : (f : Format) (x y : Float) → PlainIn f x → NonnegIn f y
    → (PlainIn f (smaller x y) × (exact_in f (smaller x y) ≤ exact_in f x)) × (PlainIn f (smaller y x) × (exact_in f (smaller y x) ≤ exact_in f x))
unfolding nonneg smaller
under_at f x nan p q = absurd q.is_nonneg
under_at f x (inf true) p q = absurd q.is_nonneg
under_at f x (inf false) p q = (rw (below_all x p.is_plain).1 (p, le_refl (exact_in f x)), rw (below_all x p.is_plain).0 (p, le_refl (exact_in f x)))
under_at f x (fin s m e) p q =
    let r : PlainIn f (fin s m e) = finite_plain q (unfold is_finite in tt) in
    let X = exact_in f x in
    let Y = exact_in f (fin s m e) in
    ((smaller_plain p r, first X Y (exact_in f (smaller x (fin s m e))) (smaller_exact p r)), (smaller_plain r p, second Y X (exact_in f (smaller (fin s m e) x)) (smaller_exact r p)))
  where
    first : (a b c : ℕ) → c ≡ min a b → c ≤ a
    first a b c h = omega arith

    second : (a b c : ℕ) → c ≡ min a b → c ≤ b
    second a b c h = omega arith

-- the smaller of a plain float and one that may be infinite, either way round: plain, and no more than the plain one
module _ {f : Format} {x y : Float} (p : PlainIn f x) (q : NonnegIn f y) where
  pub smaller_first_plain : PlainIn f (smaller x y)
  smaller_first_plain = (under_at f x y p q).0.0

  pub smaller_first_under : exact_in f (smaller x y) ≤ exact_in f x
  smaller_first_under = (under_at f x y p q).0.1

  pub smaller_second_plain : PlainIn f (smaller y x)
  smaller_second_plain = (under_at f x y p q).1.0

  pub smaller_second_under : exact_in f (smaller y x) ≤ exact_in f x
  smaller_second_under = (under_at f x y p q).1.1

  -- what is left of x after the smaller of it and y has been taken
  pub rest_first_plain : PlainIn f (sub f x (smaller x y))
  rest_first_plain = difference_plain p smaller_first_plain smaller_first_under

  pub rest_second_plain : PlainIn f (sub f x (smaller y x))
  rest_second_plain = difference_plain p smaller_second_plain smaller_second_under
