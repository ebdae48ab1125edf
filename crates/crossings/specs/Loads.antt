-- The crossings of each edge, counted slot by slot. Definitions only.
use Rattle.std.specs.Prelude.{ℕ, ◌+◌, ◌≡◌, Bool, cond, List, replicate}
use Rattle.rules.specs.declared.Transfer.{Transfer}
use Rattle.rules.specs.Lists.{at_each_crossing, map_from}
use Rattle.rules.specs.Records.{max_edges, own_path}
use Rattle.rules.specs.Clock.{crossings_by, counts_in_loads}

-- The load of each edge, with a transfer's crossings counted where it passes the test.
unfoldable pub counted : (Transfer → Bool) → List ℕ → Transfer → List ℕ
counted p load t = cond (p t) (at_each_crossing (own_path t) (λ n. n + 1) load) load

-- The crossings of each edge by the transfers that pass a test.
unfoldable pub loads_by : (Transfer → Bool) → List Transfer → List ℕ
loads_by p slots = map_from 0 (λ e (n : ℕ). crossings_by p own_path slots e) (replicate max_edges 0)

-- The crossings of each edge by all in flight.
abbrev pub loads : List Transfer → List ℕ
loads slots = loads_by counts_in_loads slots

-- The loads are those by any test that says what calls answer, where `post t b` is that a call at t may answer b.
abbrev pub CountsBy : (Transfer → Bool → Type 0) → List Transfer → List ℕ → Type 0
CountsBy post slots load = (p : Transfer → Bool) → ((t : Transfer) (b : Bool) → post t b → b ≡ p t) → load ≡ loads_by p slots
