-- A table that counts who takes part gives each edge of a known path the share of the rule, and the path is known where no missing edge is named. Assumes nothing.
use mathlib.Core.Path.{◌≡◌, refl, ap, ◌∙◌}
use mathlib.Core.Bool.{false, cond}
use mathlib.Core.List.{List, [], ◌∷◌, foldl}
use Prim.Native.Nat.{ℕ, suc, ◌+◌, ◌<◌}
use native.Mathlib.Omega.{arith}
use lib.Dec.{leb, eqb-suc-zero}
use lib.ListN.{length, get_or}
use lib.Ieee.{Float}
use Rattle.std.specs.Bool.{◌==◌}
use Rattle.doubles.specs.Doubles.{◌⊘◌, smaller, whole, infinity}
use Rattle.rules.specs.declared.Cap.{Cap}
use Rattle.rules.specs.declared.Edge.{Edge}
use Rattle.rules.specs.declared.Flows.{Flows}
use Rattle.rules.specs.Lists.{any}
use Rattle.rules.specs.Records.{blank_edge}
use Rattle.rules.specs.Filling.{takes_part}
use Rattle.rules.specs.Questions.{new_share, path_share, share_or_cap, time_at_share, time_alone, estimate}
use Rattle.rules.specs.Invariant.{Invariant}
use Rattle.paths.specs.Known.{Known}
use Rattle.crossings.specs.Loads.{loads_by}
use Rattle.crossings.proofs.Loads.{loads_at}
use Rattle.keeps.proofs.Placing.{known_by}

-- The capacity of edge e over its load and one.
unfoldable pub share_by : List Edge → List ℕ → ℕ → Float
share_by edges load e = (get_or edges e blank_edge).capacity ⊘ whole (get_or load e 0 + 1)

-- The smallest of the shares along a path and a first one.
abbrev pub least_by : List Edge → List ℕ → Float → List ℕ → Float
least_by edges load first path = foldl (λ least e. smaller least (share_by edges load e)) first path

module _ (f : Flows) where
  share_is : (e : ℕ) → e < 64 → share_by f.edges (loads_by takes_part f.in_flight) e ≡ new_share f e
  unfolding share_by new_share
  share_is e h = ap (λ (n : ℕ). (get_or f.edges e blank_edge).capacity ⊘ whole (n + 1)) (loads_at takes_part f.in_flight e h)

  least_is : (path : List ℕ) → Known 64 path → (first : Float) → least_by f.edges (loads_by takes_part f.in_flight) first path ≡ foldl (λ least e. smaller least (new_share f e)) first path
  least_is [] known first = refl
  least_is (e ∷ path) known first =
      ap (λ (x : Float). least_by f.edges (loads_by takes_part f.in_flight) (smaller first x) path) (share_is e (known.below 0 (omega arith)))
      ∙ least_is path (record { below = λ k h. known.below (suc k) (omega arith) }) (smaller first (new_share f e))

  pub least_share : (path : List ℕ) → Known 64 path → least_by f.edges (loads_by takes_part f.in_flight) infinity path ≡ path_share f path
  unfolding path_share
  least_share path known = least_is path known infinity

-- ---- by the path's length
pub by_length : (f : Flows) (path : List ℕ) (bytes latency : Float) (cap : Cap) → estimate f path bytes latency cap ≡ cond (length path == 0) (time_alone latency bytes cap) (time_at_share latency bytes (share_or_cap cap (path_share f path)))
unfolding estimate
by_length f [] bytes latency most = refl
by_length f (e ∷ path) bytes latency most = rw (eqb-suc-zero (length path))

-- ---- a path that names no missing edge
pub known_path : {f : Flows} → Invariant f → (path : List ℕ) → any (leb f.num_edges) path ≡ false → Known 64 path
known_path {f} inv path none = record { below = λ k h. omega (arith, known_by f.num_edges path none k h, inv.few_edges) }
