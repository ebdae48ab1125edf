-- Doubles, and the operations that every rule above this crate is written with: IEEE 754 binary64 as `lib.Ieee` has it, each result rounded once, to the
-- nearest, a tie to the even one. Definitions only.
use Rattle.std.specs.Prelude.{ℕ, Bool, true, false, cond, not, T, pos, from_bits, to_bits, Float}
use Rattle.std.specs.Float.{nan, inf, fin, Format, binary64}
use Rattle.std.specs.Float.Ieee.{add, sub, mul, div, lt, le, eq, of_int, round, fits}

infixl 65 ◌⊕◌ ◌⊖◌
infixl 70 ◌⊗◌ ◌⊘◌
infix 50 ◌≺◌ ◌≼◌
-- ---- arithmetic and order

-- The sum of two doubles.
abbrev pub ◌⊕◌ : Float → Float → Float
x ⊕ y = add binary64 x y

-- The first double less the second.
abbrev pub ◌⊖◌ : Float → Float → Float
x ⊖ y = sub binary64 x y

-- The product of two doubles.
abbrev pub ◌⊗◌ : Float → Float → Float
x ⊗ y = mul binary64 x y

-- The first double over the second.
abbrev pub ◌⊘◌ : Float → Float → Float
x ⊘ y = div binary64 x y

-- Whether the first is strictly below the second: false where a NaN stands.
abbrev pub ◌≺◌ : Float → Float → Bool
x ≺ y = lt x y

-- Whether the first is at most the second: false where a NaN stands, and the two zeros are equal.
abbrev pub ◌≼◌ : Float → Float → Bool
x ≼ y = le x y

-- ---- single doubles

-- Zero with its sign clear.
abbrev pub nought : Float
nought = from_bits binary64 0

-- The infinity above every number.
abbrev pub infinity : Float
infinity = inf false

-- A count as a double: itself up to 2^53, and the nearest double beyond. (01, What must change shape)
abbrev pub whole : ℕ → Float
whole n = of_int binary64 (pos n)

-- The double nearest to a / b: how a decimal constant is read. (01, Tolerance)
abbrev pub nearest : ℕ → ℕ → Float
nearest a b = round binary64 false a b

-- ---- the helpers

-- The larger of two: the second where the first is below it, and otherwise the first, so a tie or a NaN on the right keeps the first.
unfoldable pub larger : Float → Float → Float
larger x y = cond (x ≺ y) y x

-- The smaller of two: the second where it is below the first, and otherwise the first, so a tie or a NaN on the right keeps the first.
unfoldable pub smaller : Float → Float → Float
smaller x y = cond (y ≺ x) y x

-- A zero of either sign becomes the zero whose sign is clear, and every other double stays. (01, Numbers)
unfoldable pub read_zero : Float → Float
read_zero x = cond (eq x nought) nought x

-- Whether a double is a number: no NaN and no infinity. (01, Numbers)
unfoldable pub is_finite : Float → Bool
is_finite nan = false
is_finite (inf s) = false
is_finite (fin s m e) = true

-- ---- bit patterns

-- The pattern that stands for NaN wherever bits are written.
abbrev pub nan_bits : ℕ
nan_bits = 0x7ff8_0000_0000_0000

-- The double that sixty-four bits spell, every NaN pattern being the one NaN.
abbrev pub of_bits : ℕ → Float
of_bits n = from_bits binary64 n

-- The sixty-four bits of a double, NaN having one fixed pattern so that any two machines write the same.
unfoldable pub bits_of : Float → ℕ
bits_of nan = nan_bits
bits_of (inf s) = to_bits binary64 (inf s)
bits_of (fin s m e) = to_bits binary64 (fin s m e)

-- ---- the doubles that a state holds

-- Finite, with its sign clear: no NaN, no infinity, nothing negative, and no negative zero.
unfoldable pub plain : Float → Bool
plain nan = false
plain (inf s) = false
plain (fin s m e) = not s

-- Plain, or the infinity above every number: no NaN, and the sign clear.
unfoldable pub nonneg : Float → Bool
nonneg nan = false
nonneg (inf s) = not s
nonneg (fin s m e) = not s

-- A plain value that the format holds: the one fact that an invariant keeps of a finite field.
pub record PlainIn (f : Format) (x : Float) : Type 0 where
  pub is_plain : T (plain x)
  pub is_held : T (fits f x)

-- A value with its sign clear that the format holds: the one fact that an invariant keeps of a field that may be infinite.
pub record NonnegIn (f : Format) (x : Float) : Type 0 where
  pub is_nonneg : T (nonneg x)
  pub is_held : T (fits f x)

-- A plain double.
abbrev pub Plain : Float → Type 0
Plain x = PlainIn binary64 x

-- A double with its sign clear, infinity allowed.
abbrev pub Nonneg : Float → Type 0
Nonneg x = NonnegIn binary64 x
