-- What a loop over a path asks of it. Definitions only.
use Rattle.std.specs.Prelude.{ℕ, ◌+◌, ◌^◌, ◌≤◌, ◌<◌, List, length, get_or}
use Rattle.rules.specs.Lists.{crossings}

-- Every number of the path is below n: a table of n places has one for each.
pub record Known (n : ℕ) (path : List ℕ) : Type 0 where
  pub below : (k : ℕ) → k < length path → get_or path k 0 < n

-- A counter for each edge, which the path's crossings do not take past what a number holds.
pub record Roomy (path : List ℕ) (counters : List ℕ) : Type 0 where
  pub room : (e : ℕ) → get_or counters e 0 + crossings e path < 2 ^ 64

-- A counter for each edge, which counts at least the path's crossings.
pub record Counted (path : List ℕ) (counters : List ℕ) : Type 0 where
  pub counted : (e : ℕ) → crossings e path ≤ get_or counters e 0
