-- Demand 3, and why nobody is faster: what every filling promises, in exact values. (01, How far each contract reaches; 02, P4) Statements only.
-- The demand in words. Look at the transfers with more than B bytes left and a path that isn't empty. For an edge let C be its capacity, k how often they cross it in all, repeats
-- counted, and slack k + 1 times (C / 2^52 + 2^-1074). Then, in exact values: nobody runs above its cap, nor above the capacity of any edge on its path; on every edge their rates, added up
-- crossing by crossing, are at most C plus slack; everybody runs at exactly its cap, or at no less than C / k minus slack for some edge on its path; and there were at most as many
-- rounds as there are such transfers. A fraction over k is multiplied out.
-- Why nobody is faster, in words. Each of them was frozen by a round. If it was a cap's, the transfer runs at exactly its cap. If it was an edge's, the edge lies on its path and carries at
-- least C minus slack, added up as above, and no other of them that crosses it runs faster by more than slack. The filling leaves with each transfer which of the two it was, and which edge.
use Rattle.std.specs.Prelude.{ℕ, ◌+◌, ◌*◌, ◌≤◌, ◌<◌, ◌≡◌, ◌⊎◌, Bool, true, false, ◌&&◌, cond, List, map, T, ltb, length, get_or, Float}
use Rattle.doubles.specs.Doubles.{Plain}
use Rattle.doubles.specs.Exact.{exact, slack}
use Rattle.rules.specs.declared.Cap.TheVariants.{AtMost}
use Rattle.rules.specs.declared.Limit.{Limit}
use Rattle.rules.specs.declared.Limit.TheVariants.{AtEdge, AtCap, Nowhere}
use Rattle.rules.specs.declared.Edge.{Edge}
use Rattle.rules.specs.declared.Transfer.{Transfer}
use Rattle.rules.specs.declared.Flows.{Flows}
use Rattle.rules.specs.Lists.{count, sum, crossings}
use Rattle.rules.specs.Records.{blank_edge, free, path_of}
use Rattle.rules.specs.Clock.{crossings_by}
use Rattle.rules.specs.Filling.{takes_part, Filling, rate_by, limit_by, seat_at, start, verdict_of, freezes, rounds_until, recompute_rates}

-- The exact capacity of edge e.
unfoldable pub C : List Edge → ℕ → ℕ
C edges e = exact (get_or edges e blank_edge).capacity

module _ (path : Transfer → List ℕ) where
  -- The transfers of the demand: more than B bytes left, and a path that isn't empty.
  unfoldable pub in_demand : Transfer → Bool
  in_demand t = takes_part t && ltb 0 (length (path t))

  -- How often they cross edge e in all, repeats counted.
  unfoldable pub k : List Transfer → ℕ → ℕ
  k ts e = crossings_by in_demand path ts e

  -- Their rates on edge e, added up crossing by crossing.
  unfoldable pub carried : List Transfer → ℕ → ℕ
  carried ts e = sum (map (λ t. cond (in_demand t) (crossings e (path t) * exact t.rate) 0) ts)

  -- The slack of edge e.
  unfoldable pub slack_of : List Edge → List Transfer → ℕ → ℕ
  slack_of edges ts e = slack (k ts e) (C edges e)

  -- The transfers `ts`, with the rates that a filling gave them in `rounds` rounds, are treated fairly.
  pub record Fair (edges : List Edge) (ts : List Transfer) (rounds : ℕ) : Type 0 where
    -- every rate is a number, so that it has an exact value
    pub a_number : (i : ℕ) → let t = get_or ts i free in T (in_demand t) → Plain t.rate
    -- nobody runs above its cap
    pub within_cap : (i : ℕ) → let t = get_or ts i free in T (in_demand t) → (c : Float) → t.rate_cap ≡ AtMost c → exact t.rate ≤ exact c
    -- nor above any capacity on its path
    pub within_capacity : (i e : ℕ) → let t = get_or ts i free in T (in_demand t) → 0 < crossings e (path t) → exact t.rate ≤ C edges e
    -- the rates on an edge add up to its capacity and slack at the most
    pub sums : (e : ℕ) → carried ts e ≤ C edges e + slack_of edges ts e
    -- everybody runs at exactly its cap, or at no less than C/k minus slack of an edge on its path
    pub no_less : (i : ℕ) → let t = get_or ts i free in T (in_demand t) →
        (t.rate_cap ≡ AtMost t.rate) ⊎ ((e : ℕ) × (0 < crossings e (path t)) × (C edges e ≤ k ts e * (exact t.rate + slack_of edges ts e)))
    -- at most one round for each of them
    pub few_rounds : rounds ≤ count in_demand ts

  -- ---- why nobody is faster

  -- Edge e explains why the transfer in slot i is no faster. (02, P4)
  pub record Explains (edges : List Edge) (ts : List Transfer) (i e : ℕ) : Type 0 where
    -- it lies on its path
    pub crossed : 0 < crossings e (path (get_or ts i free))
    -- it carries its capacity minus slack at the least
    pub carries : C edges e ≤ carried ts e + slack_of edges ts e
    -- nobody else on it runs faster by more than slack
    pub nobody_faster : (j : ℕ) → let t = get_or ts j free in T (in_demand t) → 0 < crossings e (path t) → exact t.rate ≤ exact (get_or ts i free).rate + slack_of edges ts e

  -- What a limit says of the transfer in slot i, where that is of the demand: it runs at exactly its cap, or that edge explains it. It is never without one. (02, P4)
  abbrev pub Limits : List Edge → List Transfer → ℕ → Limit → Type 0
  Limits edges ts i AtCap = (get_or ts i free).rate_cap ≡ AtMost (get_or ts i free).rate
  Limits edges ts i (AtEdge e) = Explains edges ts i e
  Limits edges ts i Nowhere = ⊥

  -- The transfers `ts`, with the rates and limits that a filling gave them, are explained. (02, P4)
  pub record Explained (edges : List Edge) (ts : List Transfer) : Type 0 where
    -- each of the demand by its limit
    pub limited : (i : ℕ) → let t = get_or ts i free in T (in_demand t) → Limits edges ts i t.limit
    -- and the others have none
    pub others : (i : ℕ) → let t = get_or ts i free in in_demand t ≡ false → t.limit ≡ Nowhere

  -- As the request has it, which does not ask for the round: everybody has its own cap as its rate, or there is an edge that explains it. (02, P4)
  abbrev pub NobodySlower : List Edge → List Transfer → Type 0
  NobodySlower edges ts = (i : ℕ) → let t = get_or ts i free in T (in_demand t) → (t.rate_cap ≡ AtMost t.rate) ⊎ ((e : ℕ) × Explains edges ts i e)

  -- A filling after n rounds, fewer where they are over before.
  abbrev pub after_rounds : List Edge → List Transfer → ℕ → Filling
  after_rounds edges slots n = rounds_until path n (start path edges slots)

  -- The round that froze the transfer in slot i of a filling: after so many rounds it still waited, and the verdict of the next froze it, at its rate and with its limit. (02, P4)
  pub record FrozenInRound (edges : List Edge) (slots : List Transfer) (i : ℕ) : Type 0 where
    pub before : ℕ
    pub froze : let g = after_rounds edges slots before in freezes path (verdict_of path g) i (seat_at g i) ≡ true
    pub rate : (seat_at (recompute_rates path edges slots) i).transfer.rate ≡ rate_by (verdict_of path (after_rounds edges slots before))
    pub limit : (seat_at (recompute_rates path edges slots) i).transfer.limit ≡ limit_by (verdict_of path (after_rounds edges slots before))

-- ---- a simulator's filling

-- The transfers with what the filling of this simulator gives them.
abbrev pub rated : Flows → List Transfer
rated f = map (λ s. s.transfer) (recompute_rates (path_of f) f.edges f.in_flight).seats

-- Whenever rates are worked out: the filling of this simulator's transfers is fair.
abbrev pub FairFilling : Flows → Type 0
FairFilling f = Fair (path_of f) f.edges (rated f) (recompute_rates (path_of f) f.edges f.in_flight).rounds

-- And it is explained: the limits that it leaves are so, and each is that of the round that froze its transfer. (02, P4)
pub record ExplainedFilling (f : Flows) : Type 0 where
  pub explained : Explained (path_of f) f.edges (rated f)
  pub in_its_round : (i : ℕ) → T (in_demand (path_of f) (get_or (rated f) i free)) → FrozenInRound (path_of f) f.edges f.in_flight i

-- So every rate is explained, by its cap or by some edge. (02, P4)
abbrev pub NobodySlowerFilling : Flows → Type 0
NobodySlowerFilling f = NobodySlower (path_of f) f.edges (rated f)
