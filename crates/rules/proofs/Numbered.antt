-- A table put through a numbered function: in place, element by element, and side by side with another table. Assumes nothing.
use mathlib.Core.Path.{◌≡◌, refl, sym, ap, ◌∙◌}
use mathlib.Core.List.{List, [], ◌∷◌, ◌++◌, append-nil}
use Prim.Native.Nat.{ℕ, zero, suc, ◌+◌, ◌<◌, ◌≤◌}
use native.Mathlib.Numerals.{add-one}
use native.Mathlib.Omega.{arith}
use lib.ListN.{length, drop, get_or, take, set, drop_of_length-le}
use lib.Seq.{drop-cons, take-suc-set, drop-set-lt, append_snoc, take_all}
use Rattle.rules.specs.Lists.{map_from}

-- ---- in place: what is done, and what is left put through g
module _ {A : Type 0} (g : ℕ → A → A) (xs : List A) (i : ℕ) where
  pub place_one : (d : A) → i < length xs → take (i + 1) (set xs i (g i (get_or xs i d))) ++ map_from (i + 1) g (drop (i + 1) (set xs i (g i (get_or xs i d)))) ≡ take i xs ++ map_from i g (drop i xs)
  unfolding map_from
  place_one d h =
      let below : i < suc i = omega arith in
      rw (add-one, take-suc-set xs i (g i (get_or xs i d)), drop-set-lt (suc i) xs i (g i (get_or xs i d)), append_snoc, drop-cons xs i d) refl

  pub place_end : length xs ≤ i → take i xs ++ map_from i g (drop i xs) ≡ xs
  unfolding map_from
  place_end h = rw (take_all i xs, drop_of_length-le xs) (append-nil xs)

-- ---- numbered maps
-- the same values at every place that there is
pub map_from_same : {A B : Type 0} (n : ℕ) (g h : ℕ → A → B) (xs : List A) → ((e : ℕ) (x : A) → e < n + length xs → g e x ≡ h e x) → map_from n g xs ≡ map_from n h xs
unfolding map_from
map_from_same n g h [] k = refl
map_from_same n g h (x ∷ xs) k =
    ap (λ (b : _). b ∷ map_from (suc n) g xs) (k n x (omega arith)) ∙ ap (λ (r : List _). h n x ∷ r) (map_from_same (suc n) g h xs (λ e y q. k e y (omega arith)))

-- only the number is read: any two tables of one size do
pub map_from_numbers : {A B C : Type 0} (n : ℕ) (h : ℕ → C) (xs : List A) (ys : List B) → length xs ≡ length ys → map_from n (λ e x. h e) xs ≡ map_from n (λ e y. h e) ys
unfolding map_from
map_from_numbers n h [] [] k = refl
map_from_numbers n h [] (y ∷ ys) k = absurd (omega arith)
map_from_numbers n h (x ∷ xs) [] k = absurd (omega arith)
map_from_numbers n h (x ∷ xs) (y ∷ ys) k = ap (λ (r : List _). h n ∷ r) (map_from_numbers (suc n) h xs ys (omega arith))

-- reading past the end too, where the blank is left as it is
pub getD_map_all : {A : Type 0} (n : ℕ) (g : ℕ → A → A) (xs : List A) (j : ℕ) (d : A) → ((i : ℕ) → g i d ≡ d) → get_or (map_from n g xs) j d ≡ g (n + j) (get_or xs j d)
unfolding map_from
getD_map_all n g [] j d blank = sym (blank (n + j))
getD_map_all n g (x ∷ xs) zero d blank = let z : n + 0 ≡ n = omega arith in rw z refl
getD_map_all n g (x ∷ xs) (suc j) d blank = let z : n + suc j ≡ suc n + j = omega arith in rw z (getD_map_all (suc n) g xs j d blank)
