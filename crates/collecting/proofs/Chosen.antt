-- The entries that pass a test: one entry on, how many they are, and that they keep the order they had. Assumes nothing.
use mathlib.Core.Path.{◌≡◌, refl, ap, ◌∙◌}
use mathlib.Core.Bool.{Bool, true, false, cond}
use mathlib.Core.List.{List, [], ◌∷◌}
use Prim.Native.Nat.{ℕ, ◌+◌, ◌≤◌, ◌<◌}
use native.Mathlib.Omega.{arith}
use lib.ListN.{length, drop, get_or, drop_of_length-le}
use Rattle.rules.specs.Lists.{count, those}
use Rattle.rules.proofs.Steps.{drop_one}

module _ {A : Type 0} (p : A → Bool) where
  -- one entry on, by the test's value there
  pub those_by : (list : List A) (i : ℕ) (d : A) (b : Bool) → p (get_or list i d) ≡ b → i < length list → those p (drop i list) ≡ cond b (get_or list i d ∷ those p (drop (i + 1) list)) (those p (drop (i + 1) list))
  unfolding those
  those_by list i d b e h = ap (those p) (drop_one list i d h) ∙ ap (λ (z : Bool). cond z (get_or list i d ∷ those p (drop (i + 1) list)) (those p (drop (i + 1) list))) e

  pub those_none : (list : List A) (i : ℕ) → length list ≤ i → those p (drop i list) ≡ []
  unfolding those
  those_none list i h = ap (those p) (drop_of_length-le list h)

  pub length_those : (xs : List A) → length (those p xs) ≡ count p xs
  unfolding those count
  length_those [] = refl
  length_those (x ∷ xs) = go (p x) (length_those xs)
    where
      go : (b : Bool) → length (those p xs) ≡ count p xs → length (cond b (x ∷ those p xs) (those p xs)) ≡ cond b 1 0 + count p xs
      go true e = omega arith
      go false e = omega arith
