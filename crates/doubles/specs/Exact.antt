-- Exact values: a finite double that is not negative, and the slack of its rounding, as whole numbers of one small unit, 2^-1126. Definitions only.
-- Worked values: 1 is 2^1126 units, the smallest double 2^52 units, and two crossings of an edge of capacity 1 have a slack of 3 * (2^1074 + 2^52) units.
-- Why that unit: every finite double is a whole number of 2^-1074, the smallest of them, and the slack divides a double by 2^52, so it is a whole number of
-- 2^-1074 / 2^52 = 2^-1126. In another format the two exponents are `low` and `prec - 1`, and the text is the same.
use Rattle.std.specs.Prelude.{ℕ, suc, ◌+◌, ◌-◌, ◌*◌, ◌/◌, ◌^◌, true, false, ℤ, pos, negsuc, Float}
use Rattle.std.specs.Float.{nan, inf, fin, Format, binary64}
use Rattle.std.specs.Float.Ieee.{prec, low}

-- How many binary places the unit lies below one: 1074 + 52 for a double.
unfoldable pub places : Format → ℕ
places f = low f + (prec f - 1)

-- How many units make one: 2^1126 for a double.
unfoldable pub one : Format → ℕ
one f = 2 ^ places f

-- How many units make m times 2^e: the unit's places are added to the exponent.
unfoldable pub scaled : Format → ℕ → ℤ → ℕ
scaled f m (pos k) = m * 2 ^ (places f + k)
scaled f m (negsuc k) = m * 2 ^ (places f - suc k)

-- The exact value of a finite float that is not negative, read off its sign, fraction and exponent; 0 stands where there is none. (01, How far each contract reaches)
unfoldable pub exact_in : Format → Float → ℕ
exact_in f nan = 0
exact_in f (inf s) = 0
exact_in f (fin true m e) = 0
exact_in f (fin false m e) = scaled f m e

-- ---- for doubles

-- The exact value of a double, in units of 2^-1126.
abbrev pub exact : Float → ℕ
exact x = exact_in binary64 x

-- Twice what one rounding of a value up to c can move: c / 2^52 + 1 / 2^1074, where 1 / 2^1074 is 2^52 units.
unfoldable pub step : ℕ → ℕ
step c = c / 2 ^ 52 + 2 ^ 52

-- The slack of an edge that is crossed k times and has the capacity c: k + 1 steps.
abbrev pub slack : ℕ → ℕ → ℕ
slack k c = suc k * step c
