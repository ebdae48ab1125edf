-- The numbers that digits spell. Definitions only.
use Rattle.std.specs.Prelude.{ℕ, ◌+◌, ◌-◌, ◌*◌, ◌^◌, cond, ◌&&◌, ltb, leb, Option, Some, None}
use mathlib.Core.List.{List, [], ◌∷◌, foldl}

-- What a digit counts: 0 to 9, then a to f or A to F, and 16 for what is no digit.
unfoldable pub digit : ℕ → ℕ
digit b =
    cond (ltb b 48) 16
    (cond (leb b 57) (b - 48)
    (cond (ltb b 65) 16
    (cond (leb b 70) (b - 65 + 10)
    (cond (ltb b 97) 16
    (cond (leb b 102) (b - 97 + 10) 16)))))

-- A number with one digit more behind it, where that is a digit of the base and the number stays below 2^64.
unfoldable pub more : ℕ → Option ℕ → ℕ → Option ℕ
more base None b = None
more base (Some n) b = cond (ltb (digit b) base && ltb (n * base + digit b) (2 ^ 64)) (Some (n * base + digit b)) None

-- The number that a word spells in a base: digits only, and at least one.
unfoldable pub number_of : ℕ → List ℕ → Option ℕ
number_of base [] = None
number_of base (b ∷ word) = foldl (more base) (Some 0) (b ∷ word)
