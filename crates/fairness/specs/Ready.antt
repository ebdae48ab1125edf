-- What a filling under way must keep so that every round finds somebody to freeze. Definitions only.
use Rattle.std.specs.Prelude.{ℕ, ◌<◌, ◌≡◌, true, List, length, get_or}
use Rattle.rules.specs.declared.Transfer.{Transfer}
use Rattle.rules.specs.Filling.{Filling, seat_at}

-- A path that a round can find: not empty, and over edges below n.
pub record Rides (n : ℕ) (path : List ℕ) : Type 0 where
  pub some : 0 < length path
  pub known : (k : ℕ) → k < length path → get_or path k 0 < n

module _ (path : Transfer → List ℕ) where
  -- Whoever is unfrozen has a path over the edges that the filling knows.
  abbrev pub Ready : Filling → Type 0
  Ready f = (i : ℕ) → (seat_at f i).unfrozen ≡ true → Rides (length f.residual) (path (seat_at f i).transfer)
