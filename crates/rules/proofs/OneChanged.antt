-- Where one place passes a test, what is done to all that pass it is one store. Assumes nothing.
use Prim.Native.Nat.{ℕ, zero, suc, ◌<◌}
use native.Mathlib.Nat.{le_of_suc-le-suc}
use native.Mathlib.Omega.{arith}
use mathlib.Core.Path.{◌≡◌, refl}
use mathlib.Core.Bool.{Bool, true, false, cond}
use mathlib.Core.List.{List, [], ◌∷◌, map}
use lib.ListN.{length, get_or, set}

module _ {A : Type 0} (p : A → Bool) (new d : A) where
  none_changed : (xs : List A) → ((j : ℕ) → j < length xs → p (get_or xs j d) ≡ true → ⊥) → map (λ x. cond (p x) new x) xs ≡ xs
  none_changed [] never = refl
  none_changed (x ∷ xs) never = go (p x) refl (none_changed xs (λ j h. never (suc j) (omega arith)))
    where
      go : (b : Bool) → p x ≡ b → map (λ x. cond (p x) new x) xs ≡ xs → cond (p x) new x ∷ map (λ x. cond (p x) new x) xs ≡ x ∷ xs
      go true e rest = absurd (never 0 (omega arith) e)
      go false e rest = rw (e, rest)

  pub one_changed : (xs : List A) (i : ℕ) → i < length xs → p (get_or xs i d) ≡ true → ((j : ℕ) → j < length xs → p (get_or xs j d) ≡ true → j ≡ i) → map (λ x. cond (p x) new x) xs ≡ set xs i new
  one_changed [] i h here only = absurd (omega arith)
  one_changed (x ∷ xs) zero h here only = rw (here, none_changed xs (λ j l e. omega (arith, only (suc j) (omega arith) e)))
  one_changed (x ∷ xs) (suc i) h here only = go (p x) refl (one_changed xs i (le_of_suc-le-suc h) here (λ j l e. omega (arith, only (suc j) (omega arith) e)))
    where
      go : (b : Bool) → p x ≡ b → map (λ x. cond (p x) new x) xs ≡ set xs i new → cond (p x) new x ∷ map (λ x. cond (p x) new x) xs ≡ x ∷ set xs i new
      go true e rest = absurd (omega (arith, only 0 (omega arith) e))
      go false e rest = rw (e, rest)
