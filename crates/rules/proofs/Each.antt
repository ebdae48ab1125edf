-- What holds at every place of a table: of a table of one value, of a table put through a function, after a store. Assumes nothing.
use Prim.Native.Nat.{ℕ, zero, suc}
use mathlib.Core.Path.{◌≡◌}
use mathlib.Core.Bool.{Bool, true}
use mathlib.Core.List.{List, [], ◌∷◌, map}
use lib.Dec.{T}
use lib.ListN.{set, replicate}
use Rattle.rules.specs.Lists.{all, Each}

module _ {A : Type 0} (P : A → Type 0) (blank : A) where
  pub each_same : (n : ℕ) (x : A) → P x → P blank → Each P blank (replicate n x)
  each_same zero x p q j = q
  each_same (suc n) x p q zero = p
  each_same (suc n) x p q (suc j) = each_same n x p q j

  pub each_set : (xs : List A) (i : ℕ) (x : A) → Each P blank xs → P x → Each P blank (set xs i x)
  each_set [] i x a p j = a j
  each_set (y ∷ xs) zero x a p zero = p
  each_set (y ∷ xs) zero x a p (suc j) = a (suc j)
  each_set (y ∷ xs) (suc i) x a p zero = a zero
  each_set (y ∷ xs) (suc i) x a p (suc j) = each_set xs i x (λ k. a (suc k)) p j

  pub each_map : (f : A → A) (xs : List A) → ((x : A) → P x → P (f x)) → P blank → Each P blank xs → Each P blank (map f xs)
  each_map f [] k n a j = n
  each_map f (y ∷ xs) k n a zero = k y (a zero)
  each_map f (y ∷ xs) k n a (suc j) = each_map f xs k n (λ i. a (suc i)) j

-- a test that each passes is passed by all
pub all_each : {A : Type 0} (p : A → Bool) (blank : A) (xs : List A) → Each (λ x. p x ≡ true) blank xs → T (all p xs)
unfolding all
all_each p blank [] a = tt
all_each p blank (x ∷ xs) a = let here : p x ≡ true = a zero in rw here (all_each p blank xs (λ i. a (suc i)))
