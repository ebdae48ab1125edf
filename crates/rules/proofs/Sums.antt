-- Sums over a table: no part is above the sum, and a bound on each part bounds it. Assumes nothing.
use mathlib.Core.Path.{◌≡◌, refl}
use mathlib.Core.List.{List, [], ◌∷◌, map}
use Prim.Native.Nat.{ℕ, zero, suc, ◌+◌, ◌*◌, ◌≤◌, ◌<◌}
use native.Mathlib.Omega.{arith}
use lib.ListN.{length, get_or}
use Rattle.rules.specs.Lists.{sum}

module _ {A : Type 0} (g : A → ℕ) where
  pub sum_at : (xs : List A) (j : ℕ) (d : A) → j < length xs → g (get_or xs j d) ≤ sum (map g xs)
  unfolding sum
  sum_at [] j d h = absurd (omega arith)
  sum_at (x ∷ xs) zero d h = omega arith
  sum_at (x ∷ xs) (suc j) d h = omega (arith, sum_at xs j d (omega arith))

  -- a sum above 0 has a part above 0
  pub sum_some : (xs : List A) (d : A) → 0 < sum (map g xs) → (j : ℕ) × (j < length xs) × (0 < g (get_or xs j d))
  unfolding sum
  sum_some [] d h = absurd (omega arith)
  sum_some (x ∷ xs) d h = go (g x) refl (sum_some xs d)
    where
      go : (c : ℕ) → g x ≡ c → (0 < sum (map g xs) → (j : ℕ) × (j < length xs) × (0 < g (get_or xs j d))) → (j : ℕ) × (j < length (x ∷ xs)) × (0 < g (get_or (x ∷ xs) j d))
      go (suc c) e rec = (0, omega arith, omega arith)
      go zero e rec =
          let h' : 0 < g x + sum (map g xs) = h in
          let r = rec (omega arith) in
          (suc r.0, omega (arith, r.1), r.2)

pub sum_bound : {A : Type 0} (g : A → ℕ) (b : ℕ) (xs : List A) (d : A) → ((i : ℕ) → g (get_or xs i d) ≤ b) → sum (map g xs) ≤ length xs * b
unfolding sum
sum_bound g b [] d small = omega arith
sum_bound g b (x ∷ xs) d small = omega (arith, small 0, sum_bound g b xs d (λ i. small (suc i)))
