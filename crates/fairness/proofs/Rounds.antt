-- Each round freezes somebody, so the rounds end with none unfrozen and are no more than there were at first. Assumes nothing.
use mathlib.Core.Path.{◌≡◌, refl, sym, ◌∙◌}
use mathlib.Core.Bool.{Bool, true, false, ◌&&◌, cond, true≢false}
use mathlib.Core.List.{List}
use Prim.Native.Nat.{ℕ, zero, suc, ◌+◌, ◌≤◌, ◌<◌}
use native.Mathlib.Omega.{arith}
use lib.Dec.{eqb, eqb-suc-zero}
use lib.ListN.{length}
use lib.Ieee.{Float}
use borrow.Author.Tests.{eqb-true, eqb-false, eq-eqb}
use Rattle.rules.specs.declared.Limit.{Limit}
use Rattle.rules.specs.declared.Transfer.{Transfer}
use Rattle.rules.specs.declared.Seat.{Seat}
use Rattle.rules.specs.declared.Verdict.{Verdict}
use Rattle.rules.specs.declared.Verdict.TheVariants.{ByCap, ByEdge}
use Rattle.rules.specs.Filling.{Filling, with_rate, winning_edge, rate_by, limit_by, names, freezes, freeze, frozen_by, round, num_unfrozen, rounds_until, no_seat, seat_at, verdict_of}
use Rattle.rules.proofs.Steps.{length_map_from}
use Rattle.fairness.specs.Ready.{Ready}
use Rattle.fairness.proofs.Reading.{Steady, KeepsPath}
use Rattle.rules.proofs.Numbered.{getD_map_all}
use Rattle.rules.proofs.Counting.{count_drops}
use Rattle.rules.proofs.Crossings.{crosses_any}
use Rattle.fairness.proofs.Loads.{unfrozen_inside, load_is_waited, some_load, Winning, winning_is, smallest_is, Decided, verdict_decided}

-- A seat frozen by a verdict.
abbrev pub frozen_at : Verdict → Seat → Seat
frozen_at v s = record { transfer = with_rate (rate_by v) (limit_by v) s.transfer; unfrozen = false }

module _ (path : Transfer → List ℕ) where
  -- ---- what a verdict does to a seat

  -- the rate that a round gives
  abbrev pub rate_of : Filling → Float
  rate_of f = rate_by (verdict_of path f)

  -- and the limit that it leaves
  abbrev pub limit_of : Filling → Limit
  limit_of f = limit_by (verdict_of path f)

  -- a verdict freezes whom it names while unfrozen
  pub freezes_both : (v : Verdict) (i : ℕ) (s : Seat) → freezes path v i s ≡ true → (s.unfrozen ≡ true) × (names v i (path s.transfer) ≡ true)
  unfolding freezes
  freezes_both v i s h = go s.unfrozen (names v i (path s.transfer)) h
    where
      go : (b c : Bool) → (b && c) ≡ true → (b ≡ true) × (c ≡ true)
      go true c h = (refl, h)
      go false c h = absurd (true≢false (sym h))

  pub named_freezes : (v : Verdict) (i : ℕ) (s : Seat) → s.unfrozen ≡ true → names v i (path s.transfer) ≡ true → freezes path v i s ≡ true
  unfolding freezes
  named_freezes v i s a b = rw (b, a) refl

  pub freeze_freezes : (v : Verdict) (i : ℕ) (s : Seat) → freezes path v i s ≡ true → (freeze path v i s).unfrozen ≡ false
  unfolding freeze
  freeze_freezes v i s h = rw h refl

  pub never_unfreezes : (v : Verdict) (i : ℕ) (s : Seat) → (freeze path v i s).unfrozen ≡ true → s.unfrozen ≡ true
  unfolding freeze freezes
  never_unfreezes v i s = go s.unfrozen refl (names v i (path s.transfer))
    where
      go : (b : Bool) → s.unfrozen ≡ b → (c : Bool) → (cond (b && c) (frozen_at v s) s).unfrozen ≡ true → b ≡ true
      go true e c h = refl
      go false e c h = sym e ∙ h

  -- who is frozen stays as it is
  pub frozen_stays : (v : Verdict) (i : ℕ) (s : Seat) → s.unfrozen ≡ false → freeze path v i s ≡ s
  unfolding freeze freezes
  frozen_stays v i s e = go s.unfrozen e
    where
      go : (b : Bool) → b ≡ false → cond (b && names v i (path s.transfer)) (frozen_at v s) s ≡ s
      go true e = absurd (true≢false e)
      go false e = refl

  pub freeze_keeps : {A : Type 0} (g : Transfer → A) → Steady g → (v : Verdict) (i : ℕ) (s : Seat) → g (freeze path v i s).transfer ≡ g s.transfer
  unfolding freeze
  freeze_keeps g kept v i s = go (freezes path v i s)
    where
      go : (b : Bool) → g (cond b (frozen_at v s) s).transfer ≡ g s.transfer
      go true = kept (rate_by v) (limit_by v) s.transfer
      go false = refl

  -- ---- what a round does to the filling

  pub round_seats : (f : Filling) → length (round path f).seats ≡ length f.seats
  unfolding round frozen_by
  round_seats f = length_map_from 0 (freeze path (verdict_of path f)) f.seats

  pub round_edges : (f : Filling) → length (round path f).residual ≡ length f.residual
  unfolding round frozen_by
  round_edges f = length_map_from 0 _ f.residual

  pub round_counts : (f : Filling) → (round path f).rounds ≡ suc f.rounds
  unfolding round frozen_by
  round_counts f = omega arith

  -- every seat is put through the verdict, and the one that is read past the last stays
  pub round_seat : (f : Filling) (i : ℕ) → seat_at (round path f) i ≡ freeze path (verdict_of path f) i (seat_at f i)
  unfolding round frozen_by
  round_seat f i =
      let z : 0 + i ≡ i = omega arith in
      getD_map_all 0 (freeze path (verdict_of path f)) f.seats i no_seat (λ j. frozen_stays (verdict_of path f) j no_seat refl) ∙ rw z refl

  -- a transfer keeps all but its rate and limit
  pub round_keeps : {A : Type 0} (g : Transfer → A) → Steady g → (f : Filling) (i : ℕ) → g (seat_at (round path f) i).transfer ≡ g (seat_at f i).transfer
  round_keeps g kept f i = rw (round_seat f i) (freeze_keeps g kept (verdict_of path f) i (seat_at f i))

  -- ---- each round freezes at least one

  -- the verdict names somebody unfrozen
  abbrev Hits : Verdict → Filling → Type 0
  Hits v f = (j : ℕ) × ((seat_at f j).unfrozen ≡ true) × (names v j (path (seat_at f j).transfer) ≡ true)

  decided_hits : (f : Filling) (v : Verdict) → Winning path f (winning_edge path f) → Decided path f v → Hits v f
  unfolding names
  decided_hits f (ByCap i c) wins d = (i, (smallest_is path f i c d.0).waits, eq-eqb i i refl)
  decided_hits f (ByEdge e x) wins d =
      let r = load_is_waited path f.seats e (rw d.0 wins.loaded) in
      (r.0, r.1, crosses_any e (path (seat_at f r.0).transfer) r.2)

  pub round_freezes : (f : Filling) → Ready path f → 0 < num_unfrozen f → num_unfrozen (round path f) < num_unfrozen f
  unfolding round frozen_by num_unfrozen
  round_freezes f ready some_left =
      let v = verdict_of path f in
      let hit = decided_hits f v (winning_is path f (some_load path f ready some_left)) (verdict_decided path f) in
      let z : 0 + hit.0 ≡ hit.0 = omega arith in
      count_drops (λ (s : Seat). s.unfrozen) (freeze path v) (never_unfreezes v) 0 f.seats hit.0 no_seat (unfrozen_inside f.seats hit.0 hit.1) hit.1
      (rw z (freeze_freezes v hit.0 (seat_at f hit.0) (named_freezes v hit.0 (seat_at f hit.0) hit.1 hit.2)))

  -- ---- the rounds

  pub rounds_bound : (n : ℕ) (f : Filling) → (rounds_until path n f).rounds ≤ f.rounds + n
  unfolding rounds_until
  rounds_bound zero f = omega arith
  rounds_bound (suc n) f = go (eqb (num_unfrozen f) 0) (rounds_bound n (round path f))
    where
      go : (b : Bool) → (rounds_until path n (round path f)).rounds ≤ (round path f).rounds + n → (cond b f (rounds_until path n (round path f))).rounds ≤ f.rounds + suc n
      go true h = omega arith
      go false h = omega (arith, round_counts f)

positive : (m : ℕ) → eqb m 0 ≡ false → 0 < m
positive zero q = absurd (eqb-false 0 0 q refl)
positive (suc m) q = omega arith

module _ (path : Transfer → List ℕ) (path_kept : KeepsPath path) where
  pub round_path : (f : Filling) (i : ℕ) → path (seat_at (round path f) i).transfer ≡ path (seat_at f i).transfer
  round_path f i = round_keeps path path path_kept f i

  pub round_ready : (f : Filling) → Ready path f → Ready path (round path f)
  round_ready f ready i u =
      let was : (seat_at f i).unfrozen ≡ true = never_unfreezes path (verdict_of path f) i (seat_at f i) (rw (round_seat path f i) at u) in
      rw (round_path f i, round_edges path f) (ready i was)

  -- more rounds than there are unfrozen seats change nothing
  pub fuel_enough : (n m : ℕ) (f : Filling) → Ready path f → num_unfrozen f ≤ n → num_unfrozen f ≤ m → rounds_until path n f ≡ rounds_until path m f
  unfolding rounds_until
  fuel_enough zero zero f ready few few' = refl
  fuel_enough zero (suc m) f ready few few' = let none : num_unfrozen f ≡ 0 = omega arith in rw none refl
  fuel_enough (suc n) zero f ready few few' = let none : num_unfrozen f ≡ 0 = omega arith in rw none refl
  fuel_enough (suc n) (suc m) f ready few few' = go (eqb (num_unfrozen f) 0) refl (fuel_enough n m (round path f) (round_ready f ready))
    where
      go : (b : Bool) → eqb (num_unfrozen f) 0 ≡ b → (num_unfrozen (round path f) ≤ n → num_unfrozen (round path f) ≤ m → rounds_until path n (round path f) ≡ rounds_until path m (round path f))
          → cond b f (rounds_until path n (round path f)) ≡ cond b f (rounds_until path m (round path f))
      go true e rec = refl
      go false e rec = let falls = round_freezes path f ready (positive (num_unfrozen f) e) in rec (omega arith) (omega arith)

  -- one round on: what a loop that counts the unfrozen needs
  pub one_round_on : (f : Filling) → Ready path f → 0 < num_unfrozen f → rounds_until path (num_unfrozen f) f ≡ rounds_until path (num_unfrozen (round path f)) (round path f)
  unfolding rounds_until
  one_round_on f ready some_left = go (num_unfrozen f) refl some_left
    where
      go : (n : ℕ) → num_unfrozen f ≡ n → 0 < n → rounds_until path n f ≡ rounds_until path (num_unfrozen (round path f)) (round path f)
      go zero e h = absurd (omega arith)
      go (suc n) e h = rw (e, eqb-suc-zero n) (fuel_enough n (num_unfrozen (round path f)) (round path f) (round_ready f ready) (omega (arith, round_freezes path f ready some_left)) (omega arith))

  -- and where none is left the rounds are over
  pub no_more_rounds : (f : Filling) → num_unfrozen f ≡ 0 → rounds_until path (num_unfrozen f) f ≡ f
  unfolding rounds_until
  no_more_rounds f none = rw none refl

  -- a fact that the start has and every round keeps holds in the end, where none is unfrozen
  pub in_the_end : (P : Filling → Type 0) → ((f : Filling) → Ready path f → 0 < num_unfrozen f → P f → P (round path f)) → (n : ℕ) (f : Filling) → Ready path f → P f → num_unfrozen f ≤ n
      → P (rounds_until path n f) × (num_unfrozen (rounds_until path n f) ≡ 0)
  unfolding rounds_until
  in_the_end P keep zero f ready p few = (p, omega arith)
  in_the_end P keep (suc n) f ready p few = go (eqb (num_unfrozen f) 0) refl (λ q. in_the_end P keep n (round path f) (round_ready f ready) q)
    where
      go : (b : Bool) → eqb (num_unfrozen f) 0 ≡ b → (P (round path f) → num_unfrozen (round path f) ≤ n → P (rounds_until path n (round path f)) × (num_unfrozen (rounds_until path n (round path f)) ≡ 0))
          → P (cond b f (rounds_until path n (round path f))) × (num_unfrozen (cond b f (rounds_until path n (round path f))) ≡ 0)
      go true e rec = (p, eqb-true (num_unfrozen f) 0 e)
      go false e rec =
          let some_left : 0 < num_unfrozen f = positive (num_unfrozen f) e in
          rec (keep f ready some_left p) (omega (arith, round_freezes path f ready some_left))
