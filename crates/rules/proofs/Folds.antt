-- What a fold keeps and what it counts, from one step of it. Assumes nothing.
use mathlib.Core.Path.{◌≡◌, refl, ◌∙◌}
use mathlib.Core.Bool.{Bool, cond}
use mathlib.Core.List.{List, [], ◌∷◌, foldl}
use Prim.Native.Nat.{ℕ, ◌+◌}
use native.Mathlib.Omega.{arith}
use Rattle.rules.specs.Lists.{count}

module _ {A B : Type 0} (step : B → A → B) where
  -- what every step keeps, the fold keeps
  pub fold_keeps : {C : Type 0} (g : B → C) → ((b : B) (x : A) → g (step b x) ≡ g b) → (b : B) (xs : List A) → g (foldl step b xs) ≡ g b
  fold_keeps g kept b [] = refl
  fold_keeps g kept b (x ∷ xs) = fold_keeps g kept (step b x) xs ∙ kept b x

  -- a number that every step raises by one where its element passes
  pub fold_counts : (g : B → ℕ) (p : A → Bool) → ((b : B) (x : A) → g (step b x) ≡ cond (p x) 1 0 + g b) → (b : B) (xs : List A) → g (foldl step b xs) ≡ count p xs + g b
  unfolding count
  fold_counts g p raised b [] = omega arith
  fold_counts g p raised b (x ∷ xs) = omega (arith, fold_counts g p raised (step b x) xs, raised b x)
