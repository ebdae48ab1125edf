-- The words of a line: what stands between blanks. Definitions only.
use Rattle.std.specs.Prelude.{ℕ, suc, ◌+◌, ◌-◌, min, Bool, true, false, ◌||◌, not, cond, List, [], ◌∷◌, eqb, length, take, drop}
use Rattle.session_words.specs.declared.Word.{Word}

-- A space, a tab, a carriage return or a form feed.
unfoldable pub is_blank : ℕ → Bool
is_blank b = eqb b 32 || eqb b 9 || eqb b 13 || eqb b 12

-- Whether a byte ends a run: of blanks, or, asked for false, of what is none.
unfoldable pub stops : Bool → ℕ → Bool
stops blanks b = cond (is_blank b) (not blanks) blanks

-- How many bytes at the front go before the first that ends the run.
unfoldable pub run : Bool → List ℕ → ℕ
run blanks [] = 0
run blanks (b ∷ line) = cond (stops blanks b) 0 (suc (run blanks line))

-- The first word at or behind a place, which counts as the line's end where it lies behind it.
unfoldable pub next_word : List ℕ → ℕ → Word
next_word line at =
    let from = min at (length line) in
    let start = from + run true (drop from line) in
    record { start = start; end = start + run false (drop start line) }

-- The bytes of a word.
unfoldable pub bytes_of : List ℕ → Word → List ℕ
bytes_of line w = take (w.end - w.start) (drop w.start line)

-- Where a byte first stands; the length where it stands nowhere.
unfoldable pub index_of : ℕ → List ℕ → ℕ
index_of b [] = 0
index_of b (x ∷ bytes) = cond (eqb x b) 0 (suc (index_of b bytes))
