-- The doubles that words spell. Definitions only.
use Rattle.std.specs.Prelude.{ℕ, ◌+◌, ◌-◌, ◌^◌, cond, ltb, eqb, length, take, drop, get_or, Float, Option, Some, None, option_and_then}
use Rattle.std.specs.Option.{option_map, option_or}
use mathlib.Core.List.{List, foldl}
use Rattle.std.specs.Float.Ieee.{neg}
use Rattle.session_words.specs.Words.{index_of}
use Rattle.doubles.specs.Doubles.{whole, of_bits, ◌⊘◌}
use Rattle.session_numbers.specs.Numbers.{more, number_of}

-- A number of so many digits with a point before the last few: the nearest double, since fifteen digits and their power of ten are exact.
unfoldable pub fraction : Option ℕ → ℕ → ℕ → Option Float
fraction None digits places = None
fraction (Some n) digits places = cond (ltb 15 digits) None (Some (whole n ⊘ whole (10 ^ places)))

-- The digits before a point read on behind it. None where there is none before it.
unfoldable pub joined : Option ℕ → List ℕ → Option ℕ
joined front after = option_and_then (λ n. foldl (more 10) (Some n) after) front

-- A decimal number without a sign, its point at an index: there is none where that is the length, and none may stand last.
unfoldable pub pointed : ℕ → List ℕ → Option Float
pointed point word =
    cond (eqb point (length word)) (fraction (number_of 10 word) (length word) 0)
    (cond (eqb (point + 1) (length word)) None
    (fraction (joined (number_of 10 (take point word)) (drop (point + 1) word)) (length word - 1) (length word - (point + 1))))

-- A decimal number without a sign: up to fifteen digits and perhaps a point.
unfoldable pub plain_of : List ℕ → Option Float
plain_of word = cond (ltb 16 (length word)) None (pointed (index_of 46 word) word)

-- The same double with the other sign.
unfoldable pub negated : Option Float → Option Float
negated x = option_map neg x

-- A decimal number, below zero where a minus stands in front.
unfoldable pub signed_of : List ℕ → Option Float
signed_of word =
    let rest = plain_of (drop 1 word) in
    cond (eqb (length word) 0) None (cond (eqb (get_or word 0 0) 45) (negated rest) (plain_of word))

-- Bits where they can be read as such, and otherwise the other reading.
unfoldable pub bits_or : Option ℕ → Option Float → Option Float
bits_or bits other = option_or (option_map of_bits bits) other

-- The double that a word spells: sixteen hexadecimal digits are its bits, and anything else is a decimal number.
unfoldable pub double_of : List ℕ → Option Float
double_of word = cond (eqb (length word) 16) (bits_or (number_of 16 word) (signed_of word)) (signed_of word)
