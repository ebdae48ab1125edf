-- The crossings of an edge through a round, seat by seat: what the load loses is what the round freezes, and so much the crossings given and their rates gain. Assumes nothing.
use mathlib.Core.Path.{◌≡◌, refl, sym, ap, ◌∙◌}
use mathlib.Core.Bool.{Bool, true, false, not, ◌&&◌, cond, true≢false}
use mathlib.Core.List.{List, [], ◌∷◌, map}
use Prim.Native.Nat.{ℕ, zero, suc, ◌+◌, ◌*◌, ◌≤◌, ◌<◌}
use native.Mathlib.Nat.{mul-le-mul_left}
use native.Mathlib.Omega.{arith}
use lib.Dec.{ltb}
use lib.ListN.{length, get_or}
use borrow.Author.Tests.{ltb-true}
use Rattle.doubles.specs.Exact.{exact}
use Rattle.rules.specs.declared.Edge.{Edge}
use Rattle.rules.specs.declared.Transfer.{Transfer}
use Rattle.rules.specs.declared.Seat.{Seat}
use Rattle.rules.specs.declared.Verdict.{Verdict}
use Rattle.rules.specs.Lists.{sum, map_from, crossings}
use Rattle.rules.specs.Clock.{crossings_by}
use Rattle.rules.specs.Filling.{takes_part, with_rate, load, rate_by, limit_by, freezes, freeze, crossings_frozen, no_seat}
use Rattle.rules.specs.Fair.{in_demand, k, carried}
use Rattle.fairness.proofs.Reading.{Steady, KeepsPath}
use Rattle.fairness.proofs.Rounds.{frozen_at, freezes_both}

-- ---- sums of numbered elements

module _ {A : Type 0} (d : A) (change : ℕ → A → A) (g : A → ℕ) (a : ℕ → A → ℕ) where
  sum_falls : (n : ℕ) (xs : List A) → ((i m : ℕ) → g (get_or xs i d) ≡ g (change m (get_or xs i d)) + a m (get_or xs i d)) → sum (map g xs) ≡ sum (map g (map_from n change xs)) + sum (map_from n a xs)
  unfolding sum map_from
  sum_falls n [] p = refl
  sum_falls n (x ∷ xs) p = omega (arith, sum_falls (suc n) xs (λ i m. p (suc i) m), p 0 n)

  sum_grows : (n : ℕ) (xs : List A) → ((i m : ℕ) → g (change m (get_or xs i d)) ≡ g (get_or xs i d) + a m (get_or xs i d)) → sum (map g (map_from n change xs)) ≡ sum (map g xs) + sum (map_from n a xs)
  unfolding sum map_from
  sum_grows n [] p = refl
  sum_grows n (x ∷ xs) p = omega (arith, sum_grows (suc n) xs (λ i m. p (suc i) m), p 0 n)

sum_times : {A : Type 0} (a b : ℕ → A → ℕ) (y : ℕ) → ((i : ℕ) (x : A) → b i x ≡ a i x * y) → (n : ℕ) (xs : List A) → sum (map_from n b xs) ≡ sum (map_from n a xs) * y
unfolding sum map_from
sum_times a b y p n [] = omega arith
sum_times a b y p n (x ∷ xs) = omega (arith, sum_times a b y p (suc n) xs, p n x)

-- ---- the load

module _ (path : Transfer → List ℕ) (v : Verdict) (e : ℕ) where
  -- the crossings that the verdict freezes, of one seat
  abbrev now : ℕ → Seat → ℕ
  now i s = cond (freezes path v i s) (crossings e (path s.transfer)) 0

  waits_falls : (i : ℕ) (s : Seat) → cond s.unfrozen (crossings e (path s.transfer)) 0 ≡ cond (freeze path v i s).unfrozen (crossings e (path (freeze path v i s).transfer)) 0 + now i s
  unfolding freeze
  waits_falls i s = go (freezes path v i s) (λ h. (freezes_both path v i s h).0)
    where
      go : (b : Bool) → (b ≡ true → s.unfrozen ≡ true)
          → cond s.unfrozen (crossings e (path s.transfer)) 0
          ≡ cond (cond b (frozen_at v s) s).unfrozen (crossings e (path (cond b (frozen_at v s) s).transfer)) 0 + cond b (crossings e (path s.transfer)) 0
      go true h = plain s.unfrozen (crossings e (path s.transfer)) (h refl)
        where
          plain : (u : Bool) (W : ℕ) → u ≡ true → cond u W 0 ≡ 0 + W
          plain u W h = rw h (omega arith)
      go false h = omega arith

  pub load_falls : (seats : List Seat) → load path seats e ≡ load path (map_from 0 (freeze path v) seats) e + crossings_frozen path v seats e
  unfolding load crossings_frozen
  load_falls seats = sum_falls no_seat (freeze path v) (λ (s : Seat). cond s.unfrozen (crossings e (path s.transfer)) 0) now 0 seats (λ i m. waits_falls m (get_or seats i no_seat))

-- ---- the seats of an edge

module _ (path : Transfer → List ℕ) (edges : List Edge) where
  -- a seat of the demand that has its rate
  abbrev pub given : Seat → Bool
  given s = not s.unfrozen && in_demand path s.transfer

  module _ (e : ℕ) where
    -- how often those that have their rate cross edge e
    abbrev pub crossed_by : Seat → ℕ
    crossed_by s = cond (given s) (crossings e (path s.transfer)) 0

    -- and their rates, crossing by crossing
    abbrev pub carried_by : Seat → ℕ
    carried_by s = cond (given s) (crossings e (path s.transfer) * exact s.transfer.rate) 0

    abbrev pub gone : List Seat → ℕ
    gone seats = sum (map crossed_by seats)

    abbrev pub spent : List Seat → ℕ
    spent seats = sum (map carried_by seats)

  -- who is unfrozen is of the demand
  abbrev pub Demanding : List Seat → Type 0
  Demanding seats = (i : ℕ) → (get_or seats i no_seat).unfrozen ≡ true → in_demand path (get_or seats i no_seat).transfer ≡ true

  pub in_demand_both : (t : Transfer) → in_demand path t ≡ true → (takes_part t ≡ true) × (0 < length (path t))
  unfolding in_demand
  in_demand_both t h = go (takes_part t) (ltb 0 (length (path t))) refl h
    where
      go : (b c : Bool) → ltb 0 (length (path t)) ≡ c → (b && c) ≡ true → (b ≡ true) × (0 < length (path t))
      go true true e h = (refl, ltb-true 0 (length (path t)) e)
      go true false e h = absurd (true≢false (sym h))
      go false c e h = absurd (true≢false (sym h))

  -- ---- the demand, seat by seat

  -- all its crossings wait or are given
  pub k_splits : (e : ℕ) (seats : List Seat) → Demanding seats → k path (map (λ s. s.transfer) seats) e ≡ load path seats e + gone e seats
  unfolding k crossings_by load sum
  k_splits e [] h = refl
  k_splits e (s ∷ seats) h = omega (arith, k_splits e seats (λ i. h (suc i)), go (crossings e (path s.transfer)) s.unfrozen (in_demand path s.transfer) (h 0))
    where
      go : (W : ℕ) (u d : Bool) → (u ≡ true → d ≡ true) → cond d W 0 ≡ cond u W 0 + cond (not u && d) W 0
      go W true true h = omega arith
      go W true false h = absurd (true≢false (sym (h refl)))
      go W false true h = omega arith
      go W false false h = omega arith

  -- once nobody is unfrozen, what is given is what is carried
  pub carried_is : (e : ℕ) (seats : List Seat) → ((i : ℕ) → (get_or seats i no_seat).unfrozen ≡ false) → carried path (map (λ s. s.transfer) seats) e ≡ spent e seats
  unfolding carried sum
  carried_is e [] h = refl
  carried_is e (s ∷ seats) h = omega (arith, carried_is e seats (λ i. h (suc i)), go (crossings e (path s.transfer) * exact s.transfer.rate) s.unfrozen (in_demand path s.transfer) (h 0))
    where
      go : (W : ℕ) (u d : Bool) → u ≡ false → cond d W 0 ≡ cond (not u && d) W 0
      go W true d h = absurd (true≢false h)
      go W false d h = refl

  -- if no rate on the edge is above y, all are no more than y for each crossing
  pub spent_under : (e y : ℕ) (seats : List Seat) → ((i : ℕ) → given (get_or seats i no_seat) ≡ true → 0 < crossings e (path (get_or seats i no_seat).transfer) → exact (get_or seats i no_seat).transfer.rate ≤ y)
      → spent e seats ≤ gone e seats * y
  unfolding sum
  spent_under e y [] h = omega arith
  spent_under e y (s ∷ seats) h = omega (arith, spent_under e y seats (λ i. h (suc i)), go (given s) (crossings e (path s.transfer)) (h 0))
    where
      go : (b : Bool) (W : ℕ) → (b ≡ true → 0 < W → exact s.transfer.rate ≤ y) → cond b (W * exact s.transfer.rate) 0 ≤ cond b W 0 * y
      go true zero h = omega arith
      go true (suc W) h = mul-le-mul_left (suc W) (h refl (omega arith))
      go false W h = omega arith

  -- ---- through a round

  pub in_demand_kept : KeepsPath path → Steady (in_demand path)
  unfolding in_demand takes_part with_rate
  in_demand_kept kept rate limit t = rw (kept rate limit t) refl

  -- what a seat that is frozen now counts for, before and after
  newly : (u d d' : Bool) (Z W W' : ℕ) → u ≡ true → d ≡ true → d' ≡ d → W' ≡ W → cond d' W' 0 ≡ cond (not u && d) Z 0 + W
  newly u d d' Z W W' a b c w = rw (c, b, a, w) (omega arith)

  module _ (kept : KeepsPath path) (v : Verdict) (e : ℕ) where
    crossed_grows : (i : ℕ) (s : Seat) → (s.unfrozen ≡ true → in_demand path s.transfer ≡ true) → crossed_by e (freeze path v i s) ≡ crossed_by e s + now path v e i s
    unfolding freeze
    crossed_grows i s demand = go (freezes path v i s) (λ h. (freezes_both path v i s h).0)
      where
        go : (b : Bool) → (b ≡ true → s.unfrozen ≡ true) → crossed_by e (cond b (frozen_at v s) s) ≡ crossed_by e s + cond b (crossings e (path s.transfer)) 0
        go true h =
            newly s.unfrozen (in_demand path s.transfer) (in_demand path (with_rate (rate_by v) (limit_by v) s.transfer)) (crossings e (path s.transfer)) (crossings e (path s.transfer))
            (crossings e (path (with_rate (rate_by v) (limit_by v) s.transfer))) (h refl) (demand (h refl)) (in_demand_kept kept (rate_by v) (limit_by v) s.transfer) (ap (crossings e) (kept (rate_by v) (limit_by v) s.transfer))
        go false h = omega arith

    carried_grows : (i : ℕ) (s : Seat) → (s.unfrozen ≡ true → in_demand path s.transfer ≡ true) → carried_by e (freeze path v i s) ≡ carried_by e s + now path v e i s * exact (rate_by v)
    unfolding freeze with_rate
    carried_grows i s demand = go (freezes path v i s) (λ h. (freezes_both path v i s h).0)
      where
        go : (b : Bool) → (b ≡ true → s.unfrozen ≡ true)
            → carried_by e (cond b (frozen_at v s) s) ≡ carried_by e s + cond b (crossings e (path s.transfer)) 0 * exact (rate_by v)
        go true h =
            newly s.unfrozen (in_demand path s.transfer) (in_demand path (with_rate (rate_by v) (limit_by v) s.transfer)) (crossings e (path s.transfer) * exact s.transfer.rate)
            (crossings e (path s.transfer) * exact (rate_by v)) (crossings e (path (with_rate (rate_by v) (limit_by v) s.transfer)) * exact (rate_by v)) (h refl) (demand (h refl))
            (in_demand_kept kept (rate_by v) (limit_by v) s.transfer) (ap (λ (p : List ℕ). crossings e p * exact (rate_by v)) (kept (rate_by v) (limit_by v) s.transfer))
        go false h = omega arith

    -- ---- all of them

    module _ (seats : List Seat) where
      -- the seats after the verdict, and the crossings that it freezes
      abbrev after : List Seat
      after = map_from 0 (freeze path v) seats

      abbrev frozen : ℕ
      frozen = crossings_frozen path v seats e

      pub gone_grows : Demanding seats → gone e after ≡ gone e seats + frozen
      unfolding crossings_frozen
      gone_grows demanding = sum_grows no_seat (freeze path v) (crossed_by e) (now path v e) 0 seats (λ i m. crossed_grows m (get_or seats i no_seat) (demanding i))

      pub spent_grows : Demanding seats → spent e after ≡ spent e seats + frozen * exact (rate_by v)
      unfolding crossings_frozen
      spent_grows demanding =
          let rates : ℕ → Seat → ℕ = λ i s. now path v e i s * exact (rate_by v) in
          sum_grows no_seat (freeze path v) (carried_by e) rates 0 seats (λ i m. carried_grows m (get_or seats i no_seat) (demanding i))
          ∙ ap (λ (z : ℕ). spent e seats + z) (sum_times (now path v e) rates (exact (rate_by v)) (λ i s. refl) 0 seats)
