-- What a filling keeps from round to round: an account of every edge, and of every transfer that has its rate why it has no less and no more. A transfer frozen by an edge's
-- round took the last of that edge's load, so from then on the edge carries what it carries and nobody joins it. Assumes nothing.
use mathlib.Core.Path.{◌≡◌, refl, ◌∙◌}
use mathlib.Core.Logic.{◌⊎◌}
use mathlib.Core.Bool.{true}
use mathlib.Core.List.{List}
use Prim.Native.Nat.{ℕ, ◌+◌, ◌*◌, ◌^◌, ◌≤◌, ◌<◌}
use native.Mathlib.Omega.{arith}
use lib.ListN.{length, get_or}
use lib.Ieee.{Float}
use Rattle.doubles.specs.Doubles.{nought, Plain}
use Rattle.doubles.specs.Exact.{exact, step}
use Rattle.rules.specs.declared.Cap.{Cap}
use Rattle.rules.specs.declared.Cap.TheVariants.{AtMost}
use Rattle.rules.specs.declared.Limit.{Limit}
use Rattle.rules.specs.declared.Limit.TheVariants.{AtEdge}
use Rattle.rules.specs.declared.Edge.{Edge}
use Rattle.rules.specs.declared.Transfer.{Transfer}
use Rattle.rules.specs.declared.Seat.{Seat}
use Rattle.rules.specs.Lists.{times, crossings}
use Rattle.rules.specs.Records.{blank_edge}
use Rattle.rules.specs.Filling.{Filling, crossings_frozen, spend, frozen_by, round, num_unfrozen, seat_at, verdict_of}
use Rattle.rules.proofs.Steps.{getD_map_from}
use Rattle.fairness.specs.Ready.{Ready}
use Rattle.fairness.proofs.Reading.{KeepsPath}
use Rattle.fairness.proofs.Loads.{some_load, winning_is, verdict_decided}
use Rattle.fairness.proofs.Choice.{left_of, load_of}
use Rattle.fairness.proofs.Rounds.{rate_of}
use Rattle.fairness.proofs.Account.{AtMostShare, Paced, paced_round}
use Rattle.fairness.proofs.Edge.{Account, at_most_share, account_steps, account_round}
use Rattle.fairness.proofs.Sums.{given, gone, spent, Demanding, load_falls, gone_grows, spent_grows}
use Rattle.fairness.proofs.Verdicts.{AtOwnCap, Chosen, chosen}

-- ---- an edge

abbrev pub capacity_of : List Edge → ℕ → Float
capacity_of edges e = (get_or edges e blank_edge).capacity

-- twice what one rounding on edge e can move
abbrev pub step_of : List Edge → ℕ → ℕ
step_of edges e = step (exact (capacity_of edges e))

module _ (path : Transfer → List ℕ) (edges : List Edge) (f : Filling) where
  -- the crossings of edge e that are given, and the sum of their rates
  abbrev pub gone_of : ℕ → ℕ
  gone_of e = gone path edges e f.seats

  abbrev pub spent_of : ℕ → ℕ
  spent_of e = spent path edges e f.seats

  -- a rate Y on edge e is no faster than what is left would give
  abbrev pub PacedOn : ℕ → ℕ → Type 0
  PacedOn e Y = Paced (step_of edges e) (exact (left_of path f e)) (load_of path f e) (gone_of e) Y

-- `K e` is how often the demand crosses edge e in all
module _ (path : Transfer → List ℕ) (edges : List Edge) (K : ℕ → ℕ) (f : Filling) where
  -- the account of edge e
  abbrev pub Kept : ℕ → Type 0
  Kept e = Account (capacity_of edges e) (K e) (spent_of path edges f e) (left_of path f e) (load_of path f e) (gone_of path edges f e)

  -- The edge whose round gave a rate: nothing waits on it, it carries its capacity but for K half steps, and nobody on it runs faster by more than K steps.
  pub record Bottleneck (p : List ℕ) (rate : Float) (limit : Limit) : Type 0 where
    pub edge : ℕ
    pub named : limit ≡ AtEdge edge
    pub crossed : 0 < crossings edge p
    pub used_up : load_of path f edge ≡ 0
    pub full : 2 * exact (capacity_of edges edge) ≤ 2 * spent_of path edges f edge + K edge * step_of edges edge
    pub top : (j : ℕ) → given path edges (seat_at f j) ≡ true → 0 < crossings edge (path (seat_at f j).transfer) → exact (seat_at f j).transfer.rate ≤ exact rate + K edge * step_of edges edge

  -- a rate and a limit that were given to a transfer with that cap and path
  pub record Settled (cap : Cap) (p : List ℕ) (rate : Float) (limit : Limit) : Type 0 where
    pub plain : Plain rate
    pub under_cap : (c : Float) → cap ≡ AtMost c → exact rate ≤ exact c
    pub known : (e : ℕ) → 0 < crossings e p → e < length edges
    pub under_capacity : (e : ℕ) → 0 < crossings e p → exact rate ≤ exact (capacity_of edges e)
    pub paced : (e : ℕ) → 0 < crossings e p → PacedOn path edges f e (exact rate)
    pub why : AtOwnCap cap rate limit ⊎ Bottleneck p rate limit

  abbrev pub SettledSeat : Seat → Type 0
  SettledSeat s = Settled s.transfer.rate_cap (path s.transfer) s.transfer.rate s.transfer.limit

  pub record Fills : Type 0 where
    pub long : length f.residual ≡ length edges
    pub demanding : Demanding path edges f.seats
    pub plain_caps : (i : ℕ) → (seat_at f i).unfrozen ≡ true → (c : Float) → (seat_at f i).transfer.rate_cap ≡ AtMost c → Plain c
    pub accounts : (e : ℕ) → e < length edges → Kept e
    pub settled : (i : ℕ) → given path edges (seat_at f i) ≡ true → SettledSeat (seat_at f i)

-- ---- a round

-- what is asked of the edges: plain capacities, and no more crossings than a double counts
pub record Sound (path : Transfer → List ℕ) (edges : List Edge) (K : ℕ → ℕ) : Type 0 where
  pub path_kept : KeepsPath path
  pub plain_capacity : (e : ℕ) → Plain (capacity_of edges e)
  pub few : (e : ℕ) → K e ≤ 2 ^ 53

module _ {path : Transfer → List ℕ} {edges : List Edge} {K : ℕ → ℕ} (sound : Sound path edges K) {f : Filling} (fills : Fills path edges K f) where
  pub few_load : (e : ℕ) → e < length edges → load_of path f e ≤ 2 ^ 53
  few_load e known = omega (arith, (fills.accounts e known).good.count, sound.few e)

  -- the round decides as it should
  pub choice_of : Ready path f → 0 < num_unfrozen f → Chosen path f (verdict_of path f) (rate_of path f)
  choice_of ready some_left =
      chosen path f (λ e h. (fills.accounts e (omega (arith, fills.long))).plain) (λ e h. few_load e (omega (arith, fills.long))) fills.plain_caps (verdict_of path f) (winning_is path f (some_load path f ready some_left)) (verdict_decided path f)

module _ {path : Transfer → List ℕ} {edges : List Edge} {K : ℕ → ℕ} (sound : Sound path edges K) {f : Filling} (fills : Fills path edges K f)
    (choice : Chosen path f (verdict_of path f) (rate_of path f)) where
  abbrev x : Float
  x = rate_of path f

  -- what is frozen of edge e
  abbrev m : ℕ → ℕ
  m e = crossings_frozen path (verdict_of path f) f.seats e

  pub load_round : (e : ℕ) → load_of path f e ≡ load_of path (round path f) e + m e
  unfolding round frozen_by
  load_round e = load_falls path (verdict_of path f) e f.seats

  gone_round : (e : ℕ) → gone_of path edges (round path f) e ≡ gone_of path edges f e + m e
  unfolding round frozen_by
  gone_round e = gone_grows path edges sound.path_kept (verdict_of path f) e f.seats fills.demanding

  pub spent_round : (e : ℕ) → spent_of path edges (round path f) e ≡ spent_of path edges f e + m e * exact x
  unfolding round frozen_by
  spent_round e = spent_grows path edges sound.path_kept (verdict_of path f) e f.seats fills.demanding

  left_round : (e : ℕ) → e < length edges → left_of path (round path f) e ≡ times (m e) (spend x) (left_of path f e)
  unfolding round frozen_by
  left_round e known =
      let z : 0 + e ≡ e = omega arith in
      let inside : e < length f.residual = omega (arith, fills.long) in
      getD_map_from 0 (λ e r. times (m e) (spend x) r) f.residual e nought nought inside ∙ rw z refl

  -- the rate is at most the share of every edge
  pub fair_share : (e : ℕ) → e < length edges → AtMostShare (step_of edges e) (exact (left_of path f e)) (load_of path f e) (exact x)
  fair_share e known = at_most_share (sound.plain_capacity e) (fills.accounts e known) (few_load sound fills e known) x (λ some. choice.least e (omega (arith, fills.long)) some)

  -- the same, the load told by what the round freezes
  account_before : (e : ℕ) → e < length edges → Account (capacity_of edges e) (K e) (spent_of path edges f e) (left_of path f e) (load_of path (round path f) e + m e) (gone_of path edges f e)
  account_before e known = rw (load_round e) at (fills.accounts e known)

  share_before : (e : ℕ) → e < length edges → AtMostShare (step_of edges e) (exact (left_of path f e)) (load_of path (round path f) e + m e) (exact x)
  share_before e known = rw (load_round e) at (fair_share e known)

  pub account_on : (e : ℕ) → e < length edges → Kept path edges K (round path f) e
  account_on e known =
      let was = account_before e known in
      let share = share_before e known in
      rw (spent_round e, gone_round e, left_round e known) (account_round path (sound.plain_capacity e) choice.plain (load_of path (round path f) e) (m e) was share)

  pub paced_on : (e : ℕ) → e < length edges → (Y : ℕ) → PacedOn path edges f e Y → PacedOn path edges (round path f) e Y
  paced_on e known Y p =
      let was = account_before e known in
      let share = share_before e known in
      let p' : Paced (step_of edges e) (exact (left_of path f e)) (load_of path (round path f) e + m e) (gone_of path edges f e) Y = rw (load_round e) at p in
      rw (gone_round e, left_round e known)
      (paced_round (step_of edges e) (exact (left_of path f e)) (exact (times (m e) (spend x) (left_of path f e))) (load_of path (round path f) e) (m e) (exact x) share
      (account_steps path (sound.plain_capacity e) choice.plain (load_of path (round path f) e) (m e) was) (gone_of path edges f e) Y p')
