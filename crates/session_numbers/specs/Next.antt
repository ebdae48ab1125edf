-- The next word of a line as a number, with the place where the word ends. Definitions only.
use Rattle.std.specs.Prelude.{ℕ, ◌^◌, cond, List, ltb, Float, Option, Some, None}
use Rattle.std.specs.Option.{option_map}
use Rattle.session_words.specs.Words.{next_word, bytes_of}
use Rattle.session_numbers.specs.Numbers.{number_of}
use Rattle.session_numbers.specs.Reals.{double_of}

unfoldable pub long_to : Option ℕ → ℕ → Option (ℕ × ℕ)
long_to number end = option_map (λ n. (n, end)) number

-- A number below 2^64.
unfoldable pub long_in : List ℕ → ℕ → Option (ℕ × ℕ)
long_in line at = let word = next_word line at in long_to (number_of 10 (bytes_of line word)) word.end

unfoldable pub short_of : Option (ℕ × ℕ) → Option (ℕ × ℕ)
short_of None = None
short_of (Some (n, end)) = cond (ltb n (2 ^ 32)) (Some (n, end)) None

-- A number below 2^32.
unfoldable pub short_in : List ℕ → ℕ → Option (ℕ × ℕ)
short_in line at = short_of (long_in line at)

unfoldable pub real_to : Option Float → ℕ → Option (Float × ℕ)
real_to real end = option_map (λ x. (x, end)) real

-- A double.
unfoldable pub real_in : List ℕ → ℕ → Option (Float × ℕ)
real_in line at = let word = next_word line at in real_to (double_of (bytes_of line word)) word.end
