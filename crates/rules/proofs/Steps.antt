-- One more element of a list, for loops: what is left to do at i, told by what is left at i + 1. Assumes nothing.
use mathlib.Core.Path.{◌≡◌, refl, ap, ◌∙◌}
use mathlib.Core.Bool.{Bool, cond, ◌||◌}
use mathlib.Core.List.{List, [], ◌∷◌, ◌++◌, foldl, map, append-nil}
use Prim.Native.Nat.{ℕ, zero, suc, ◌+◌, ◌<◌, ◌≤◌}
use native.Mathlib.Numerals.{add-one}
use native.Mathlib.Omega.{arith}
use lib.ListN.{length, drop, get_or, take, set, drop_of_length-le}
use lib.Seq.{take-suc, drop-cons, take-suc-set, drop-set-lt, append_snoc, take_all}
use Rattle.rules.specs.Lists.{count, any, sum, map_from, update, at_each_crossing}

-- ---- reading on

module _ {A : Type 0} (xs : List A) (i : ℕ) (d : A) (h : i < length xs) where
  pub drop_one : drop i xs ≡ get_or xs i d ∷ drop (i + 1) xs
  drop_one = rw (add-one, drop-cons xs i d)

  pub count_one : (p : A → Bool) → count p (drop i xs) ≡ cond (p (get_or xs i d)) 1 0 + count p (drop (i + 1) xs)
  unfolding count
  count_one p = ap (count p) drop_one

  pub any_one : (p : A → Bool) → any p (drop i xs) ≡ (p (get_or xs i d) || any p (drop (i + 1) xs))
  unfolding any
  any_one p = ap (any p) drop_one

  pub foldl_one : {B : Type 0} (f : B → A → B) (b : B) → foldl f b (drop i xs) ≡ foldl f (f b (get_or xs i d)) (drop (i + 1) xs)
  foldl_one f b = ap (foldl f b) drop_one

  pub sum_map_one : (g : A → ℕ) → sum (map g (drop i xs)) ≡ g (get_or xs i d) + sum (map g (drop (i + 1) xs))
  unfolding sum
  sum_map_one g = ap (λ (l : List A). sum (map g l)) drop_one

  pub map_from_one : {B : Type 0} (g : ℕ → A → B) → map_from i g (drop i xs) ≡ g i (get_or xs i d) ∷ map_from (i + 1) g (drop (i + 1) xs)
  unfolding map_from
  map_from_one g = ap (map_from i g) drop_one ∙ rw add-one refl

-- a count, by the test's value at the element
pub count_by : {A : Type 0} (p : A → Bool) (xs : List A) (i : ℕ) (d : A) (b : Bool) → p (get_or xs i d) ≡ b → i < length xs → count p (drop i xs) ≡ cond b 1 0 + count p (drop (i + 1) xs)
count_by p xs i d b e h = count_one xs i d h p ∙ ap (λ (z : Bool). cond z 1 0 + count p (drop (i + 1) xs)) e

-- within the list it does not matter what a read falls back on
pub get_d_any : {A : Type 0} (xs : List A) (i : ℕ) (d d' : A) → i < length xs → get_or xs i d ≡ get_or xs i d'
get_d_any [] i d d' h = absurd (omega arith)
get_d_any (x ∷ xs) zero d d' h = refl
get_d_any (x ∷ xs) (suc i) d d' h = get_d_any xs i d d' (omega arith)

-- ---- an array put through f in place: what is done, and what is left put through f

module _ {A : Type 0} (f : A → A) (xs : List A) (i : ℕ) where
  pub map_one : (d : A) → i < length xs → take (i + 1) (set xs i (f (get_or xs i d))) ++ map f (drop (i + 1) (set xs i (f (get_or xs i d)))) ≡ take i xs ++ map f (drop i xs)
  map_one d h =
      let below : i < suc i = omega arith in
      rw (add-one, take-suc-set xs i (f (get_or xs i d)), drop-set-lt (suc i) xs i (f (get_or xs i d)), append_snoc, drop-cons xs i d) refl

  pub map_end : length xs ≤ i → take i xs ++ map f (drop i xs) ≡ xs
  map_end h = rw (take_all i xs, drop_of_length-le xs) (append-nil xs)

-- ---- a table filled from another, element by element

pub length_map_from : {A B : Type 0} (n : ℕ) (g : ℕ → A → B) (xs : List A) → length (map_from n g xs) ≡ length xs
unfolding map_from
length_map_from n g [] = refl
length_map_from n g (x ∷ xs) = ap suc (length_map_from (suc n) g xs)

pub getD_map_from : {A B : Type 0} (n : ℕ) (g : ℕ → A → B) (xs : List A) (j : ℕ) (d : A) (d' : B) → j < length xs → get_or (map_from n g xs) j d' ≡ g (n + j) (get_or xs j d)
unfolding map_from
getD_map_from n g [] j d d' h = absurd (omega arith)
getD_map_from n g (x ∷ xs) zero d d' h = let z : n + 0 ≡ n = omega arith in rw z refl
getD_map_from n g (x ∷ xs) (suc j) d d' h = let z : n + suc j ≡ suc n + j = omega arith in rw z (getD_map_from (suc n) g xs j d d' (omega arith))

pub map_from_take : {A B : Type 0} (g : ℕ → A → B) (xs : List A) (out : List B) (i : ℕ) (d : A) (d' : B) → i < length xs → i < length out → take i out ≡ take i (map_from 0 g xs) → take (i + 1) (set out i (g i (get_or xs i d))) ≡ take (i + 1) (map_from 0 g xs)
map_from_take g xs out i d d' h h' same =
    let long : i < length (map_from 0 g xs) = rw length_map_from h in
    let z : 0 + i ≡ i = omega arith in
    rw (add-one, take-suc-set out i (g i (get_or xs i d)) h', take-suc (map_from 0 g xs) i d' long, getD_map_from 0 g xs i d d' h, z, same) refl

-- ---- along a path

-- one element put through f is one store
pub update_is : {A : Type 0} (e : ℕ) (f : A → A) (xs : List A) (d : A) → update e f xs ≡ set xs e (f (get_or xs e d))
unfolding update
update_is e f [] d = refl
update_is zero f (x ∷ xs) d = refl
update_is (suc e) f (x ∷ xs) d = ap (λ (r : List _). x ∷ r) (update_is e f xs d)

-- one crossing on
pub crossing_one : {A : Type 0} (path : List ℕ) (i : ℕ) (f : A → A) (xs : List A) (d : A) → i < length path → at_each_crossing (drop i path) f xs ≡ at_each_crossing (drop (i + 1) path) f (set xs (get_or path i 0) (f (get_or xs (get_or path i 0) d)))
unfolding at_each_crossing
crossing_one path i f xs d h =
    ap (λ (p : List ℕ). at_each_crossing p f xs) (drop_one path i 0 h)
    ∙ ap (at_each_crossing (drop (i + 1) path) f) (update_is (get_or path i 0) f xs d)
