-- A list copied element by element into a table of zeros: one more element. Assumes nothing.
use mathlib.Core.Path.{◌≡◌, refl, ap}
use mathlib.Core.List.{List, [], ◌∷◌, ◌++◌}
use Prim.Native.Nat.{ℕ, zero, suc, ◌<◌}
use native.Mathlib.Nat.{le_of_suc-le-suc}
use native.Mathlib.Omega.{arith}
use lib.ListN.{length, take, get_or, set, replicate}

pub copied_one : (path : List ℕ) (i n : ℕ) → i < length path → set (take i path ++ replicate (suc n) 0) i (get_or path i 0) ≡ take (suc i) path ++ replicate n 0
copied_one [] i n h = absurd (omega arith)
copied_one (x ∷ path) zero n h = refl
copied_one (x ∷ path) (suc i) n h = ap (λ (l : List ℕ). x ∷ l) (copied_one path i n (le_of_suc-le-suc h))
