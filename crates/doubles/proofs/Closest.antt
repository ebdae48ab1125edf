-- A fraction rounded to the nearest whole number is off by a half at most. Nothing here is about floats. Assumes nothing.
use Rattle.std.proofs.Common.{◌≡◌, ℕ, ◌+◌, ◌*◌, ◌/◌, ◌%◌, ◌<◌, ◌≤◌, not, T, eqb, subst, mul-le-mul_right, mod-lt, div-add-mod', arith, eqb→eq, leb→le}
use Prim.Native.Nat.{compare, Ordering}
use lib.Dec.{is_le, compare_is_eq, nleb→lt, eqb_refl}
use lib.Arith.{lt_of_le-ne}
use lib.Ieee.{nearest}
use lib.Ieee.Nearest.{closest}

-- what a comparison says of its two numbers

abbrev Compared : Ordering → ℕ → ℕ → Type 0
Compared Ordering.lt a b = a < b
Compared Ordering.eq a b = a ≡ b
Compared Ordering.gt a b = b < a

compared : (a b : ℕ) → Compared (compare a b) a b
compared a b = go (compare a b) (leb→le a b) (nleb→lt a b) (eqb→eq a b) (λ (e : a ≡ b). subst (λ (x : ℕ). T (eqb a x)) e (eqb_refl a))
  where
    go : (o : Ordering) → (T (is_le o) → a ≤ b) → (T (not (is_le o)) → b < a) → (T (compare_is_eq o) → a ≡ b) → (a ≡ b → T (compare_is_eq o)) → Compared o a b
    go Ordering.lt h k e n = lt_of_le-ne (h tt) n
    go Ordering.eq h k e n = e tt
    go Ordering.gt h k e n = k tt

-- twice y * b is within b of twice a
abbrev pub Within : ℕ → ℕ → ℕ → Type 0
Within y b a = (2 * (y * b) ≤ 2 * a + b) × (2 * a ≤ 2 * (y * b) + b)

-- a is w * b + r, and the remainder r says which way to round
by_order : (w b r a : ℕ) (o : Ordering) → Compared o (r * 2) b → w * b + r ≡ a → r < b → Within (nearest w o) b a
by_order w b r a Ordering.lt c e l = omega arith
by_order w b r a Ordering.eq c e l = tie (w % 2) (bit w)
  where
    bit : (x : ℕ) → x % 2 < 2
    bit x = omega arith

    tie : (t : ℕ) → t < 2 → Within (w + t) b a
    tie t h = let p : t * b ≤ 1 * b = mul-le-mul_right b (le_one t h) in omega arith
      where
        le_one : (x : ℕ) → x < 2 → x ≤ 1
        le_one x g = omega arith
by_order w b r a Ordering.gt c e l = omega arith

pub closest_within : (a b : ℕ) → 0 < b → Within (closest a b) b a
closest_within a b B = by_order (a / b) b (a % b) a (compare (a % b * 2) b) (compared (a % b * 2) b) (div-add-mod' a b) (mod-lt a B)
