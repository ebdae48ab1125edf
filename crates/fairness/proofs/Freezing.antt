-- A round settles whom it freezes and keeps what was settled: a seat that has its rate is not touched again, and an edge with no load left is not crossed again.
-- Assumes nothing.
use mathlib.Core.Path.{◌≡◌, refl, sym, ap, ◌∙◌}
use mathlib.Core.Logic.{◌⊎◌, inl, inr}
use mathlib.Core.Bool.{Bool, true, false, cond, true≢false}
use mathlib.Core.List.{List}
use Prim.Native.Nat.{ℕ, ◌+◌, ◌*◌, ◌≤◌, ◌<◌}
use native.Mathlib.Nat.{le_trans, eq-zero-or-pos}
use native.Mathlib.Omega.{arith}
use lib.ListN.{length, get_or}
use lib.Ieee.{Float}
use Rattle.doubles.specs.Exact.{exact}
use Rattle.rules.specs.declared.Cap.{Cap}
use Rattle.rules.specs.declared.Limit.{Limit}
use Rattle.rules.specs.declared.Edge.{Edge}
use Rattle.rules.specs.declared.Transfer.{Transfer}
use Rattle.rules.specs.Lists.{crossings}
use Rattle.rules.specs.Filling.{Filling, with_rate, freezes, freeze, crossings_frozen, round, num_unfrozen, seat_at, verdict_of}
use Rattle.rules.specs.Fair.{in_demand}
use Rattle.fairness.specs.Ready.{Ready}
use Rattle.rules.proofs.Crossings.{crosses_some}
use Rattle.fairness.proofs.Loads.{waits_in_load, load_is_waited}
use Rattle.fairness.proofs.Choice.{left_of, load_of}
use Rattle.fairness.proofs.Rounds.{frozen_at, rate_of, limit_of, freezes_both, freeze_freezes, never_unfreezes, round_seat, round_keeps, round_path, round_edges}
use Rattle.fairness.proofs.Account.{AtLeastShare, paced_new, good_full, good_top}
use Rattle.fairness.proofs.Edge.{at_least_share, share_under}
use Rattle.fairness.proofs.Sums.{given, in_demand_kept}
use Rattle.fairness.proofs.Verdicts.{AtOwnCap, SharesOut, Chosen}
use Rattle.fairness.proofs.Settled.{Sound, capacity_of, step_of, gone_of, spent_of, Bottleneck, Settled, SettledSeat, Fills, choice_of, load_round, spent_round, few_load, fair_share, account_on, paced_on}

module _ (path : Transfer → List ℕ) (edges : List Edge) (f : Filling) where
  -- slot i had its rate before the round, and is as it was
  abbrev Before : ℕ → Type 0
  Before i = (given path edges (seat_at f i) ≡ true) × (seat_at (round path f) i ≡ seat_at f i)

  -- slot i is frozen by the round, at its rate
  abbrev Now : ℕ → Type 0
  Now i = (freezes path (verdict_of path f) i (seat_at f i) ≡ true) × (seat_at (round path f) i ≡ frozen_at (verdict_of path f) (seat_at f i))

  -- there is no third way to a rate
  given_cases : (i : ℕ) → given path edges (seat_at (round path f) i) ≡ true → Before i ⊎ Now i
  unfolding freeze
  given_cases i h = go (freezes path (verdict_of path f) i (seat_at f i)) refl (round_seat path f i)
    where
      go : (b : Bool) → freezes path (verdict_of path f) i (seat_at f i) ≡ b → seat_at (round path f) i ≡ cond b (frozen_at (verdict_of path f) (seat_at f i)) (seat_at f i) → Before i ⊎ Now i
      go true e same = inr (e, same)
      go false e same = inl (sym (ap (given path edges) same) ∙ h, same)

module _ {path : Transfer → List ℕ} {edges : List Edge} {K : ℕ → ℕ} (sound : Sound path edges K) {f : Filling} (ready : Ready path f) (fills : Fills path edges K f)
    (choice : Chosen path f (verdict_of path f) (rate_of path f)) where
  abbrev f' : Filling
  f' = round path f

  -- ---- what was settled stays so

  bottleneck_kept : {p : List ℕ} {rate : Float} {limit : Limit} → Bottleneck path edges K f p rate limit → Bottleneck path edges K f' p rate limit
  bottleneck_kept {p} {rate} {limit} b =
      let e = b.edge in
      let falls = load_round sound fills choice e in
      let none : crossings_frozen path (verdict_of path f) f.seats e ≡ 0 = omega (arith, b.used_up) in
      let same : spent_of path edges f' e ≡ spent_of path edges f e + 0 * exact (rate_of path f) = rw none at (spent_round sound fills choice e) in
      record { edge = e; named = b.named; crossed = b.crossed; used_up = omega (arith, b.used_up); full = omega (arith, b.full); top = λ j g c. go j c (given_cases path edges f j g) }
    where
      go : (j : ℕ) → 0 < crossings b.edge (path (seat_at f' j).transfer)
          → Before path edges f j ⊎ Now path edges f j
          → exact (seat_at f' j).transfer.rate ≤ exact rate + K b.edge * step_of edges b.edge
      go j c (inl (g, same)) = rw same (b.top j g (rw same at c))
      go j c (inr (h, same)) =
          let c' : 0 < crossings b.edge (path (seat_at f j).transfer) = rw (round_path path sound.path_kept f j) at c in
          absurd (omega (arith, waits_in_load path f.seats j b.edge (freezes_both path (verdict_of path f) j (seat_at f j) h).0, b.used_up))

  settled_kept : {cap : Cap} {p : List ℕ} {rate : Float} {limit : Limit} → Settled path edges K f cap p rate limit → Settled path edges K f' cap p rate limit
  settled_kept {cap} {p} {rate} {limit} s = record {
    plain = s.plain;
    under_cap = s.under_cap;
    known = s.known;
    under_capacity = s.under_capacity;
    paced = λ e c. paced_on sound fills choice e (s.known e c) (exact rate) (s.paced e c);
    why = go s.why;
  }
    where
      go : AtOwnCap cap rate limit ⊎ Bottleneck path edges K f p rate limit → AtOwnCap cap rate limit ⊎ Bottleneck path edges K f' p rate limit
      go (inl own) = inl own
      go (inr b) = inr (bottleneck_kept b)

  -- ---- who is frozen now

  module _ (i : ℕ) (h : freezes path (verdict_of path f) i (seat_at f i) ≡ true) where
    abbrev t : Transfer
    t = (seat_at f i).transfer

    waits : (seat_at f i).unfrozen ≡ true
    waits = (freezes_both path (verdict_of path f) i (seat_at f i) h).0

    -- an edge on its path is known and loaded
    on_path : (e : ℕ) → 0 < crossings e (path t) → (e < length edges) × (0 < load_of path f e)
    on_path e c =
        let r = crosses_some e (path t) c in
        let known : get_or (path t) r.0 0 < length f.residual = (ready i waits).known r.0 r.1 in
        (omega (arith, r.2, fills.long), omega (arith, waits_in_load path f.seats i e waits))

    -- ---- by an edge's round

    module _ (o : SharesOut path f (verdict_of path f) (rate_of path f) i) where
      abbrev e : ℕ
      e = o.edge

      abbrev on : (e < length edges) × (0 < load_of path f e)
      on = on_path e o.crossed

      share_given : AtLeastShare (step_of edges e) (exact (left_of path f e)) (load_of path f e) (exact (rate_of path f))
      share_given = rw o.is_share (at_least_share (sound.plain_capacity e) (fills.accounts e on.0) (few_load sound fills e on.0) on.1)

      -- no load is left on it
      emptied : load_of path f' e ≡ 0
      emptied = go (eq-zero-or-pos (load_of path f' e))
        where
          go : (load_of path f' e ≡ 0) ⊎ (0 < load_of path f' e) → load_of path f' e ≡ 0
          go (inl z) = z
          go (inr some) =
              let w = load_is_waited path f'.seats e some in
              let j = w.0 in
              let unfrozen_on : (freeze path (verdict_of path f) j (seat_at f j)).unfrozen ≡ true = rw (round_seat path f j) at w.1 in
              let was : (seat_at f j).unfrozen ≡ true = never_unfreezes path (verdict_of path f) j (seat_at f j) unfrozen_on in
              let c : 0 < crossings e (path (seat_at f j).transfer) = rw (round_path path sound.path_kept f j) at w.2 in
              absurd (true≢false (sym unfrozen_on ∙ freeze_freezes path (verdict_of path f) j (seat_at f j) (o.to_all j was c)))

      -- all of its load was given the rate
      spent_all : spent_of path edges f' e ≡ spent_of path edges f e + load_of path f e * exact (rate_of path f)
      spent_all =
          let all : crossings_frozen path (verdict_of path f) f.seats e ≡ load_of path f e = omega (arith, load_round sound fills choice e, emptied) in
          rw all at (spent_round sound fills choice e)

      nobody_faster : (j : ℕ) → given path edges (seat_at f' j) ≡ true → 0 < crossings e (path (seat_at f' j).transfer) → exact (seat_at f' j).transfer.rate ≤ exact (rate_of path f) + K e * step_of edges e
      unfolding with_rate
      nobody_faster j g c = go (given_cases path edges f j g)
        where
          go : Before path edges f j ⊎ Now path edges f j
              → exact (seat_at f' j).transfer.rate ≤ exact (rate_of path f) + K e * step_of edges e
          go (inl (g, same)) =
              rw same
              (good_top (step_of edges e) (exact (capacity_of edges e)) (K e) (spent_of path edges f e) (exact (left_of path f e)) (load_of path f e) (gone_of path edges f e) (exact (rate_of path f)) (exact (seat_at f j).transfer.rate)
              (fills.accounts e on.0).good on.1 share_given ((fills.settled j g).paced e (rw same at c)))
          go (inr (h, same)) = rw same (omega arith)

      bottleneck_new : Bottleneck path edges K f' (path t) (rate_of path f) (limit_of path f)
      bottleneck_new = record {
        edge = e;
        named = o.named;
        crossed = o.crossed;
        used_up = emptied;
        full =
            rw spent_all
            (good_full (step_of edges e) (exact (capacity_of edges e)) (K e) (spent_of path edges f e) (exact (left_of path f e)) (load_of path f e) (gone_of path edges f e) (exact (rate_of path f)) (fills.accounts e on.0).good share_given);
        top = nobody_faster;
      }

    settled_new : Settled path edges K f' t.rate_cap (path t) (rate_of path f) (limit_of path f)
    settled_new = record {
      plain = choice.plain;
      under_cap = choice.under_cap i h;
      known = λ e c. (on_path e c).0;
      under_capacity = λ e c.
          let on = on_path e c in
          le_trans (choice.least e (omega (arith, on.0, fills.long)) on.1) (share_under (sound.plain_capacity e) (fills.accounts e on.0) (few_load sound fills e on.0) on.1);
      paced = λ e c.
          let known = (on_path e c).0 in
          paced_on sound fills choice e known (exact (rate_of path f)) (paced_new (step_of edges e) (exact (left_of path f e)) (load_of path f e) (gone_of path edges f e) (exact (rate_of path f)) (fair_share sound fills choice e known));
      why = go (choice.why i h);
    }
      where
        go : AtOwnCap t.rate_cap (rate_of path f) (limit_of path f) ⊎ SharesOut path f (verdict_of path f) (rate_of path f) i
            → AtOwnCap t.rate_cap (rate_of path f) (limit_of path f) ⊎ Bottleneck path edges K f' (path t) (rate_of path f) (limit_of path f)
        go (inl own) = inl own
        go (inr o) = inr (bottleneck_new o)

  -- ---- the round

  settled_on : (i : ℕ) → given path edges (seat_at f' i) ≡ true → SettledSeat path edges K f' (seat_at f' i)
  unfolding with_rate
  settled_on i g = go (given_cases path edges f i g)
    where
      go : Before path edges f i ⊎ Now path edges f i
          → SettledSeat path edges K f' (seat_at f' i)
      go (inl (g, same)) = rw same (settled_kept (fills.settled i g))
      go (inr (h, same)) = rw (same, sound.path_kept (rate_of path f) (limit_of path f) (seat_at f i).transfer) (settled_new i h)

  fills_on : Fills path edges K f'
  unfolding with_rate
  fills_on = record {
    long = round_edges path f ∙ fills.long;
    demanding = λ i u. round_keeps path (in_demand path) (in_demand_kept path edges sound.path_kept) f i ∙ fills.demanding i (was i u);
    plain_caps = λ i u c k. fills.plain_caps i (was i u) c (sym (round_keeps path (λ (t : Transfer). t.rate_cap) (λ rate limit t. refl) f i) ∙ k);
    accounts = account_on sound fills choice;
    settled = settled_on;
  }
    where
      was : (i : ℕ) → (seat_at f' i).unfrozen ≡ true → (seat_at f i).unfrozen ≡ true
      was i u = never_unfreezes path (verdict_of path f) i (seat_at f i) (rw (round_seat path f i) at u)

pub fills_round : {path : Transfer → List ℕ} {edges : List Edge} {K : ℕ → ℕ} → Sound path edges K → (f : Filling) → Ready path f → 0 < num_unfrozen f → Fills path edges K f → Fills path edges K (round path f)
fills_round sound f ready some_left fills = fills_on sound ready fills (choice_of sound fills ready some_left)
