-- How digits are read: what one more of them does, that no number stays none, and what a word without any is. Assumes nothing.
use Rattle.std.proofs.Common.{◌≡◌, ◌<◌, ◌+◌, ℕ, List, [], ◌∷◌, refl, cond, eqb, Option, None, Some, length, drop, get_or, add-one, drop-cons, arith}
use mathlib.Core.List.{foldl}
use Rattle.std.proofs.lemmas.Grind.{common_steps}
use Rattle.session_numbers.specs.Numbers.{more, number_of}

pub none_stays : (base : ℕ) (word : List ℕ) → foldl (more base) None word ≡ None
unfolding more
none_stays base [] = refl
none_stays base (b ∷ word) = none_stays base word

pub one_on : (base : ℕ) (n : Option ℕ) (word : List ℕ) (i : ℕ) → i < length word → foldl (more base) n (drop i word) ≡ foldl (more base) (more base n (get_or word i 0)) (drop (i + 1) word)
one_on base n word i h = rw (add-one i, drop-cons word i 0) refl

pub by_length : (base : ℕ) (word : List ℕ) → number_of base word ≡ cond (eqb (length word) 0) None (foldl (more base) (Some 0) word)
unfolding number_of
by_length base [] = refl
by_length base (b ∷ word) = grind (arith, common_steps)
