-- Numbered maps: one whose function does not read the number is a map, and one whose numbers start one higher is one of the numbers after. Assumes nothing.
use mathlib.Core.Path.{◌≡◌, refl, ap}
use mathlib.Core.List.{List, [], ◌∷◌, map}
use Prim.Native.Nat.{ℕ, suc}
use Rattle.rules.specs.Lists.{map_from}

-- a function that does not read the number
pub map_from_map : {A B : Type 0} (n : ℕ) (f : A → B) (xs : List A) → map_from n (λ e x. f x) xs ≡ map f xs
unfolding map_from
map_from_map n f [] = refl
map_from_map n f (x ∷ xs) = ap (λ (r : List _). f x ∷ r) (map_from_map (suc n) f xs)

-- numbers that start one higher
pub map_from_shift : {A B : Type 0} (n : ℕ) (g : ℕ → A → B) (xs : List A) → map_from (suc n) g xs ≡ map_from n (λ e x. g (suc e) x) xs
unfolding map_from
map_from_shift n g [] = refl
map_from_shift n g (x ∷ xs) = ap (λ (r : List _). g (suc n) x ∷ r) (map_from_shift (suc n) g xs)
