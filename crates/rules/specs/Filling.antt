-- Rates that are max-min fair, worked out round by round. (01, Filling) Definitions only.
-- A seat is a slot during the filling: unfrozen while a round has yet to give its transfer a rate.
use Rattle.std.specs.Prelude.{ℕ, zero, suc, Bool, true, false, ◌&&◌, cond, eqb, ltb, get_or, Float}
use mathlib.Core.List.{List, [], ◌∷◌, map, foldl}
use Rattle.doubles.specs.Doubles.{◌⊖◌, ◌⊘◌, ◌≺◌, nought, infinity, larger, whole}
use Rattle.rules.specs.declared.Cap.{Cap}
use Rattle.rules.specs.declared.Cap.TheVariants.{AtMost, Uncapped}
use Rattle.rules.specs.declared.Limit.{Limit}
use Rattle.rules.specs.declared.Limit.TheVariants.{AtEdge, AtCap, Nowhere}
use Rattle.rules.specs.declared.Edge.{Edge}
use Rattle.rules.specs.declared.Transfer.{Transfer}
use Rattle.rules.specs.declared.Seat.{Seat}
use Rattle.rules.specs.declared.Best.{Best}
use Rattle.rules.specs.declared.Best.TheVariants.{At, Nobody}
use Rattle.rules.specs.declared.Share.{Share}
use Rattle.rules.specs.declared.Verdict.{Verdict}
use Rattle.rules.specs.declared.Verdict.TheVariants.{ByCap, ByEdge}
use Rattle.rules.specs.Tolerance.{B}
use Rattle.rules.specs.Lists.{count, any, times, map_from, sum, crossings}
use Rattle.rules.specs.Records.{free}

-- A filling under way: the slots, what is left of each edge's capacity, and the rounds so far. (01, Filling)
pub record Filling : Type 0 where
  pub seats : List Seat
  pub residual : List Float
  pub rounds : ℕ

-- ---- who takes part

-- Whether a transfer takes part in a filling: in flight, with more than B bytes left. (01, Filling)
unfoldable pub takes_part : Transfer → Bool
takes_part t = t.taken && B ≺ t.bytes_remaining

-- A transfer at another rate, with the reason why it is no higher. (01, Filling; 02, P4)
unfoldable pub with_rate : Float → Limit → Transfer → Transfer
with_rate rate limit t = record { taken = t.taken; id = t.id; owner = t.owner; path = t.path; latency_remaining = t.latency_remaining; bytes_remaining = t.bytes_remaining; rate_cap = t.rate_cap; rate = rate; limit = limit; last_update = t.last_update }

-- The rate of a transfer that shares no edge: its cap, or no limit at all. (01, Filling)
unfoldable pub lone_rate : Cap → Float
lone_rate (AtMost c) = c
lone_rate Uncapped = infinity

-- A transfer that takes part starts unfrozen, unless its path is empty: then its rate is known at once, and no round limits it, be it at its cap. (01, Filling; 02, P4)
unfoldable pub entered : List ℕ → Transfer → Seat
entered [] t = record { transfer = with_rate (lone_rate t.rate_cap) Nowhere t; unfrozen = false }
entered (e ∷ path) t = record { transfer = t; unfrozen = true }

-- ---- the winning edge

-- The share of edge e: what is left of its capacity over its load. (01, Filling)
unfoldable pub share : ℕ → Float → ℕ → Share
share e residual load = record { edge = e; share = residual ⊘ whole load }

-- The shares of the edges that have load, by ascending number from edge e on; `load` tells the load of each. (01, Filling)
unfoldable pub shares : (ℕ → ℕ) → ℕ → List Float → List Share
shares load e [] = []
shares load e (r ∷ residual) = let more = shares load (suc e) residual in cond (ltb 0 (load e)) (share e r (load e) ∷ more) more

-- The first of two shares, unless the second is strictly smaller. (01, Filling)
unfoldable pub tighter_share : Share → Share → Share
tighter_share x y = cond (y.share ≺ x.share) y x

-- What is read past the last of some shares, which no round does (`AlwaysLoaded`, Promises). (02, P7)
unfoldable pub blank_share : Share
blank_share = record { edge = 0; share = nought }

-- The smallest of some shares, and at equality the earliest: from the first on, whichever is strictly smaller. (01, Filling)
unfoldable pub smallest_share : List Share → Share
smallest_share shares = foldl tighter_share (get_or shares 0 blank_share) shares

-- ---- the smallest cap

-- The first of two caps, unless the second is strictly smaller. (01, Filling)
unfoldable pub tighter : Best → Best → Best
tighter Nobody b = b
tighter (At i x) Nobody = At i x
tighter (At i x) (At j y) = cond (y ≺ x) (At j y) (At i x)

-- The smallest of some caps, and at equality the earliest. (01, Filling)
unfoldable pub tightest : List Best → Best
tightest caps = foldl tighter Nobody caps

-- The cap of the transfer in slot i, if it is unfrozen and has one. (01, Filling)
unfoldable pub own_cap : ℕ → Bool → Cap → Best
own_cap i false cap = Nobody
own_cap i true Uncapped = Nobody
own_cap i true (AtMost c) = At i c

-- The smallest cap among the unfrozen, the lowest slot at equality. (01, Filling)
unfoldable pub smallest_cap : Filling → Best
smallest_cap f = tightest (map_from 0 (λ i s. own_cap i s.unfrozen s.transfer.rate_cap) f.seats)

-- ---- what a round decides

-- The smallest cap, if there is one, wins over the smallest share only where it is strictly below it. (01, Filling)
unfoldable pub verdict : Best → Share → Verdict
verdict Nobody best = ByEdge best.edge best.share
verdict (At i c) best = cond (c ≺ best.share) (ByCap i c) (ByEdge best.edge best.share)

-- ---- what a verdict says

-- The rate that a verdict gives. (01, Filling)
unfoldable pub rate_by : Verdict → Float
rate_by (ByCap i c) = c
rate_by (ByEdge e x) = x

-- What a verdict leaves as the limit of those it freezes: their cap, or the edge. (02, P4)
unfoldable pub limit_by : Verdict → Limit
limit_by (ByCap i c) = AtCap
limit_by (ByEdge e x) = AtEdge e

-- Whether a verdict names the transfer in slot i on that path: the slot itself, or all that cross the edge. (01, Filling)
unfoldable pub names : Verdict → ℕ → List ℕ → Bool
names (ByCap j c) i p = eqb i j
names (ByEdge e x) i p = any (eqb e) p

-- What one crossing at a rate leaves of an edge, never below 0. (01, Filling)
unfoldable pub spend : Float → Float → Float
spend rate residual = larger (residual ⊖ rate) nought

-- ---- the whole

-- How many have yet to be frozen. (01, Filling)
unfoldable pub num_unfrozen : Filling → ℕ
num_unfrozen f = count (λ s. s.unfrozen) f.seats

-- What is read past the last seat.
abbrev pub no_seat : Seat
no_seat = record { transfer = free; unfrozen = false }

-- Seat number i.
abbrev pub seat_at : Filling → ℕ → Seat
seat_at f i = get_or f.seats i no_seat

-- What follows takes the way to read a transfer's path.
module _ (path : Transfer → List ℕ) where
  -- A slot as the filling begins: who takes no part keeps the rate it had, and has no limit. (01, Filling; 02, P4)
  unfoldable pub seat : Transfer → Seat
  seat t = cond (takes_part t) (entered (path t) t) (record { transfer = with_rate t.rate Nowhere t; unfrozen = false })

  -- The filling as it begins: all of each capacity is left. (01, Filling)
  unfoldable pub start : List Edge → List Transfer → Filling
  start edges slots = record { seats = map seat slots; residual = map (λ e. e.capacity) edges; rounds = 0 }

  -- ---- a round

  -- An edge's load: how often those still waiting cross it, a repeat being one more. (01, Filling)
  unfoldable pub load : List Seat → ℕ → ℕ
  load seats e = sum (map (λ s. cond s.unfrozen (crossings e (path s.transfer)) 0) seats)

  -- The edge with the smallest share, the lowest number at equality. (01, Filling)
  unfoldable pub winning_edge : Filling → Share
  winning_edge f = smallest_share (shares (load f.seats) 0 f.residual)

  -- What a round decides, by the smallest cap and the smallest share. (01, Filling)
  abbrev pub verdict_of : Filling → Verdict
  verdict_of f = verdict (smallest_cap f) (winning_edge f)

  -- Whether a verdict freezes the seat in slot i. (01, Filling)
  unfoldable pub freezes : Verdict → ℕ → Seat → Bool
  freezes v i s = s.unfrozen && names v i (path s.transfer)

  -- A seat after the verdict: frozen at its rate with its limit, or as it was. (01, Filling; 02, P4)
  unfoldable pub freeze : Verdict → ℕ → Seat → Seat
  freeze v i s = cond (freezes v i s) (record { transfer = with_rate (rate_by v) (limit_by v) s.transfer; unfrozen = false }) s

  -- The crossings of edge e by those that the verdict freezes. (01, Filling)
  unfoldable pub crossings_frozen : Verdict → List Seat → ℕ → ℕ
  crossings_frozen v seats e = sum (map_from 0 (λ i s. cond (freezes v i s) (crossings e (path s.transfer)) 0) seats)

  -- A verdict carried out: those it names frozen, and each edge less their rate once for each of their crossings. (01, Filling)
  unfoldable pub frozen_by : Verdict → Filling → Filling
  frozen_by v f = record {
    seats = map_from 0 (freeze v) f.seats;
    residual = map_from 0 (λ e r. times (crossings_frozen v f.seats e) (spend (rate_by v)) r) f.residual;
    rounds = suc f.rounds;
  }

  -- One round: what it decides, carried out. (01, Filling)
  unfoldable pub round : Filling → Filling
  round f = frozen_by (verdict_of f) f

  -- ---- the rounds

  -- Rounds until none is unfrozen, n of them at the most. (01, Filling)
  unfoldable pub rounds_until : ℕ → Filling → Filling
  rounds_until zero f = f
  rounds_until (suc n) f = let more = rounds_until n (round f) in cond (eqb (num_unfrozen f) 0) f more

  -- The whole filling. Each round freezes somebody, so a round for each unfrozen is enough: that none is left is promised as `AlwaysEnds` (Promises). (01, Filling)
  unfoldable pub recompute_rates : List Edge → List Transfer → Filling
  recompute_rates edges slots = let f = start edges slots in rounds_until (num_unfrozen f) f
