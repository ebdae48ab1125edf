-- What the scratch of a filling holds between rounds, and what a round makes of it. Definitions only.
use Rattle.std.specs.Prelude.{ℕ, ◌<◌, ◌≡◌, true, List, Float, length, get_or}
use Rattle.rules.specs.declared.Seat.{Seat}
use Rattle.rules.specs.declared.Share.{Share}
use Rattle.rules.specs.declared.Verdict.{Verdict}
use Rattle.rules.specs.Records.{max_edges, max_slots, own_path}
use Rattle.rules.specs.Filling.{Filling, shares, load, smallest_cap, num_unfrozen, frozen_by, no_seat}
use Rattle.rules.specs.Invariant.{SoundRoute}
use Rattle.paths.specs.Known.{Counted}
use Rattle.caps.specs.declared.CapOrder.{CapOrder}
use Rattle.caps.specs.Order.{first_cap}
use Rattle.caps.specs.Listed.{listed, Sized, Passed}
use Rattle.rounds.specs.declared.Scratch.{Scratch}

-- The filling that a scratch stands for.
abbrev pub filling : Scratch → Filling
filling f = record { seats = f.seats; residual = f.residual; rounds = f.rounds }

-- A table with each edge's load.
pub record Loads (seats : List Seat) (table : List ℕ) : Type 0 where
  pub places : length table ≡ max_edges
  pub right : (e : ℕ) → e < max_edges → get_or table e 0 ≡ load own_path seats e

-- A table in which some edge has load.
pub record Loaded (table : List ℕ) : Type 0 where
  pub edge : ℕ
  pub loaded : 0 < get_or table edge 0

-- The shares of the edges with load, the loads being read from a table and the first edge being number e.
abbrev pub shares_by : List ℕ → ℕ → List Float → List Share
shares_by table e residual = shares (λ d. get_or table d 0) e residual

-- What the freezing of a seat asks of the tables: its path runs over their places, and the loads count it while it waits.
pub record Freezable (s : Seat) (residual : List Float) (table : List ℕ) : Type 0 where
  pub edges : length residual ≡ max_edges
  pub loads : length table ≡ max_edges
  pub path : SoundRoute max_edges s.transfer.path
  pub counted : s.unfrozen ≡ true → Counted (own_path s.transfer) table

-- What holds of a scratch between rounds, whatever the rounds were.
pub record Standing (f : Scratch) : Type 0 where
  pub places : length f.seats ≡ max_slots
  pub edges : length f.residual ≡ max_edges
  pub loads : Loads f.seats f.load
  pub paths : (i : ℕ) → SoundRoute max_edges (get_or f.seats i no_seat).transfer.path
  pub counted : f.unfrozen ≡ num_unfrozen (filling f)

-- A scratch after a verdict: the filling that the definition has then, with the loads and the number unfrozen that go with it.
pub record Frozen (f : Scratch) (v : Verdict) (cursor : ℕ) (r : Scratch) : Type 0 where
  pub same : filling r ≡ frozen_by own_path v (filling f)
  pub loads : Loads r.seats r.load
  pub counted : r.unfrozen ≡ num_unfrozen (filling r)
  pub passed : r.cap_cursor ≡ cursor

-- A scratch and the order of caps that it goes through: the first that is left there is the smallest cap of all.
pub record Coming (o : CapOrder) (f : Scratch) : Type 0 where
  pub table : Sized o
  pub passed : Passed f.seats (listed o) f.cap_cursor
  pub ranked : first_cap f.seats (listed o) ≡ smallest_cap (filling f)
