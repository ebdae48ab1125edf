-- Once nobody is unfrozen the accounts are the demand: an edge's account gives its sum, and the edge whose round froze a transfer carries its capacity on crossings none of
-- which is faster than that transfer by more than the slack, so the transfer has at least its k-th part. Assumes nothing.
use mathlib.Core.Path.{◌≡◌, refl, ◌∙◌}
use mathlib.Core.Logic.{◌⊎◌, inl, inr}
use mathlib.Core.Bool.{Bool, true, false}
use mathlib.Core.List.{List, map}
use Prim.Native.Nat.{ℕ, suc, ◌+◌, ◌*◌, ◌≤◌, ◌<◌}
use native.Mathlib.Omega.{arith}
use lib.Ieee.Bits.{is_true}
use lib.Dec.{T, ltb}
use lib.ListN.{length, get_or, get_or-map}
use lib.Ieee.{Float}
use borrow.Author.Tests.{ltb-true, ltb-false}
use Rattle.doubles.specs.Exact.{exact}
use Rattle.rules.specs.declared.Cap.TheVariants.{AtMost}
use Rattle.rules.specs.declared.Limit.{Limit}
use Rattle.rules.specs.declared.Edge.{Edge}
use Rattle.rules.specs.declared.Transfer.{Transfer}
use Rattle.rules.specs.declared.Seat.{Seat}
use Rattle.rules.specs.Lists.{count, crossings}
use Rattle.rules.specs.Records.{free}
use Rattle.rules.specs.Filling.{Filling, no_seat, seat_at}
use Rattle.rules.specs.Fair.{in_demand, C, k, slack_of, carried, Fair}
use Rattle.fairness.proofs.Account.{good_sum, full_floor}
use Rattle.fairness.proofs.Sums.{given, k_splits, carried_is, spent_under}
use Rattle.fairness.proofs.Verdicts.{AtOwnCap}
use Rattle.fairness.proofs.Settled.{capacity_of, step_of, gone_of, spent_of, Bottleneck, Settled, Fills}

module _ (path : Transfer → List ℕ) (edges : List Edge) (K : ℕ → ℕ) (f : Filling) (fills : Fills path edges K f) (over : (i : ℕ) → (seat_at f i).unfrozen ≡ false) where
  -- the transfers with their rates
  abbrev pub ts : List Transfer
  ts = map (λ (s : Seat). s.transfer) f.seats

  transfer_at : (i : ℕ) → get_or ts i free ≡ (seat_at f i).transfer
  transfer_at i = get_or-map (λ (s : Seat). s.transfer) f.seats i no_seat

  given_at : (i : ℕ) → T (in_demand path (get_or ts i free)) → given path edges (seat_at f i) ≡ true
  given_at i h = rw (over i) (is_true (in_demand path (seat_at f i).transfer) (rw (transfer_at i) at h))

  settled_at : (i : ℕ) → T (in_demand path (get_or ts i free)) → Settled path edges K f (get_or ts i free).rate_cap (path (get_or ts i free)) (get_or ts i free).rate (get_or ts i free).limit
  settled_at i h = rw (transfer_at i) (fills.settled i (given_at i h))

  -- what the accounts are kept of is what the demand counts
  k_is : (e : ℕ) → e < length edges → k path ts e ≡ K e
  k_is e known = k_splits path edges e f.seats fills.demanding ∙ (fills.accounts e known).good.count

  slack_counted : (e : ℕ) → slack_of path edges ts e ≡ suc (k path ts e) * step_of edges e
  unfolding slack_of C
  slack_counted e = omega arith

  slack_is : (e : ℕ) → e < length edges → slack_of path edges ts e ≡ suc (K e) * step_of edges e
  slack_is e known = rw (k_is e known) at (slack_counted e)

  carried_here : (e : ℕ) → carried path ts e ≡ spent_of path edges f e
  carried_here e = carried_is path edges e f.seats over

  -- slot i is limited by its cap and runs at it, or else P
  abbrev AtCapOr : ℕ → Type 0 → Type 0
  AtCapOr i P = AtOwnCap (get_or ts i free).rate_cap (get_or ts i free).rate (get_or ts i free).limit ⊎ P

  -- its bottleneck is an edge that there is
  pub at_cap_or_bottleneck : (i : ℕ) → T (in_demand path (get_or ts i free)) → AtCapOr i ((b : Bottleneck path edges K f (path (get_or ts i free)) (get_or ts i free).rate (get_or ts i free).limit) × (b.edge < length edges))
  at_cap_or_bottleneck i h = go (settled_at i h).why
    where
      go : AtCapOr i (Bottleneck path edges K f (path (get_or ts i free)) (get_or ts i free).rate (get_or ts i free).limit) → AtCapOr i ((b : Bottleneck path edges K f (path (get_or ts i free)) (get_or ts i free).rate (get_or ts i free).limit) × (b.edge < length edges))
      go (inl own) = inl own
      go (inr b) = inr (b, (settled_at i h).known b.edge b.crossed)

  -- ---- sums

  sums : (e : ℕ) → carried path ts e ≤ C edges e + slack_of path edges ts e
  unfolding C
  sums e = go (ltb e (length edges)) refl
    where
      go : (b : Bool) → ltb e (length edges) ≡ b → carried path ts e ≤ exact (capacity_of edges e) + slack_of path edges ts e
      go true h =
          let known = ltb-true e (length edges) h in
          let a = (fills.accounts e known).good in
          rw (carried_here e, slack_is e known) (good_sum _ _ _ _ _ _ _ a)
      go false h =
          let nobody : spent_of path edges f e ≤ gone_of path edges f e * 0 = spent_under path edges e 0 f.seats (λ i g c. absurd (omega (arith, ltb-false e (length edges) h, (fills.settled i g).known e c))) in
          omega (arith, carried_here e)

  -- ---- the freezing edge

  module _ {p : List ℕ} {rate : Float} {limit : Limit} (b : Bottleneck path edges K f p rate limit) (known : b.edge < length edges) where
    -- all its crossings are given, and none is faster by more than K steps
    spent_low : spent_of path edges f b.edge ≤ K b.edge * (exact rate + K b.edge * step_of edges b.edge)
    spent_low =
        let all : gone_of path edges f b.edge ≡ K b.edge = omega (arith, (fills.accounts b.edge known).good.count, b.used_up) in
        rw all at (spent_under path edges b.edge (exact rate + K b.edge * step_of edges b.edge) f.seats b.top)

    -- it carries its capacity but for the slack
    pub carries : C edges b.edge ≤ carried path ts b.edge + slack_of path edges ts b.edge
    unfolding C
    carries = omega (arith, carried_here b.edge, slack_is b.edge known, b.full)

    -- nobody of the demand on it is faster but for the slack
    pub nobody_faster : (j : ℕ) → T (in_demand path (get_or ts j free)) → 0 < crossings b.edge (path (get_or ts j free)) → exact (get_or ts j free).rate ≤ exact rate + slack_of path edges ts b.edge
    nobody_faster j h c =
        let top : exact (get_or ts j free).rate ≤ exact rate + K b.edge * step_of edges b.edge = rw (transfer_at j) (b.top j (given_at j h) (rw (transfer_at j) at c)) in
        omega (arith, slack_is b.edge known)

    -- and its share is at the least its capacity over its crossings, but for the slack
    floor : C edges b.edge ≤ k path ts b.edge * (exact rate + slack_of path edges ts b.edge)
    unfolding C
    floor = rw (k_is b.edge known, slack_is b.edge known) (full_floor (step_of edges b.edge) (exact (capacity_of edges b.edge)) (K b.edge) (spent_of path edges f b.edge) (exact rate) b.full spent_low)

  no_less : (i : ℕ) → T (in_demand path (get_or ts i free)) → ((get_or ts i free).rate_cap ≡ AtMost (get_or ts i free).rate) ⊎ ((e : ℕ) × (0 < crossings e (path (get_or ts i free))) × (C edges e ≤ k path ts e * (exact (get_or ts i free).rate + slack_of path edges ts e)))
  no_less i h = elim (at_cap_or_bottleneck i h) [ inl (at, own) ↦ inl own | inr (b, known) ↦ inr (b.edge, b.crossed, floor b known) ]

  -- ---- all of it

  pub fair : (rounds : ℕ) → rounds ≤ count (in_demand path) ts → Fair path edges ts rounds
  unfolding C
  fair rounds few = record {
    a_number = λ i h. (settled_at i h).plain;
    within_cap = λ i h. (settled_at i h).under_cap;
    within_capacity = λ i e h. (settled_at i h).under_capacity e;
    sums = sums;
    no_less = no_less;
    few_rounds = few;
  }
