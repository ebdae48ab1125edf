-- Whoever the rounds freeze, one of them does, and what it gives stays through the rest. Assumes nothing.
use mathlib.Core.Path.{◌≡◌, refl, sym, ap, subst, ◌∙◌}
use mathlib.Core.Bool.{Bool, true, false, cond, true≢false}
use mathlib.Core.List.{List}
use Prim.Native.Nat.{ℕ, zero, suc}
use lib.Dec.{eqb}
use Rattle.rules.specs.declared.Transfer.{Transfer}
use Rattle.rules.specs.declared.Seat.{Seat}
use Rattle.rules.specs.declared.Verdict.{Verdict}
use Rattle.rules.specs.Filling.{Filling, num_unfrozen, seat_at, verdict_of, freezes, freeze, round, rounds_until}
use Rattle.fairness.proofs.Rounds.{frozen_at, frozen_stays, round_seat}

module _ (path : Transfer → List ℕ) where
  -- who is frozen stays as it is
  stays_frozen : (n : ℕ) (f : Filling) (i : ℕ) → (seat_at f i).unfrozen ≡ false → seat_at (rounds_until path n f) i ≡ seat_at f i
  unfolding rounds_until
  stays_frozen zero f i u = refl
  stays_frozen (suc n) f i u =
      let still : seat_at (round path f) i ≡ seat_at f i = round_seat path f i ∙ frozen_stays path (verdict_of path f) i (seat_at f i) u in
      go (eqb (num_unfrozen f) 0) (stays_frozen n (round path f) i (rw still u) ∙ still)
    where
      go : (b : Bool) → seat_at (rounds_until path n (round path f)) i ≡ seat_at f i → seat_at (cond b f (rounds_until path n (round path f))) i ≡ seat_at f i
      go true rec = refl
      go false rec = rec

  -- a round later
  one_on : (n : ℕ) (f : Filling) → eqb (num_unfrozen f) 0 ≡ false → rounds_until path (suc n) f ≡ rounds_until path n (round path f)
  unfolding rounds_until
  one_on n f e = rw e refl

  freeze_is : (v : Verdict) (i : ℕ) (s : Seat) → freezes path v i s ≡ true → freeze path v i s ≡ frozen_at v s
  unfolding freeze
  freeze_is v i s h = rw h refl

  not_frozen : (v : Verdict) (i : ℕ) (s : Seat) → freezes path v i s ≡ false → freeze path v i s ≡ s
  unfolding freeze
  not_frozen v i s h = rw h refl

  -- the round after `before` others freezes seat i, and it is so after all n
  pub record Frozen (n : ℕ) (f : Filling) (i : ℕ) : Type 0 where
    pub before : ℕ
    pub froze : let g = rounds_until path before f in freezes path (verdict_of path g) i (seat_at g i) ≡ true
    pub left : let g = rounds_until path before f in seat_at (rounds_until path n f) i ≡ frozen_at (verdict_of path g) (seat_at g i)

  pub in_one_round : (n : ℕ) (f : Filling) (i : ℕ) → (seat_at f i).unfrozen ≡ true → (seat_at (rounds_until path n f) i).unfrozen ≡ false → Frozen n f i
  unfolding rounds_until
  in_one_round zero f i u over = absurd (true≢false (sym u ∙ over))
  in_one_round (suc n) f i u over = go (eqb (num_unfrozen f) 0) refl over (in_one_round n (round path f) i)
    where
      Rest : Type 0
      Rest = (seat_at (round path f) i).unfrozen ≡ true → (seat_at (rounds_until path n (round path f)) i).unfrozen ≡ false → Frozen n (round path f) i

      by : eqb (num_unfrozen f) 0 ≡ false → (seat_at (rounds_until path n (round path f)) i).unfrozen ≡ false → Rest → (b : Bool) → freezes path (verdict_of path f) i (seat_at f i) ≡ b → Frozen (suc n) f i
      by e over rest true h =
          let now : seat_at (round path f) i ≡ frozen_at (verdict_of path f) (seat_at f i) = round_seat path f i ∙ freeze_is (verdict_of path f) i (seat_at f i) h in
          record { before = 0; froze = h; left = ap (λ (g : Filling). seat_at g i) (one_on n f e) ∙ stays_frozen n (round path f) i (rw now refl) ∙ now }
      by e over rest false h =
          let same : seat_at (round path f) i ≡ seat_at f i = round_seat path f i ∙ not_frozen (verdict_of path f) i (seat_at f i) h in
          let r = rest (rw same u) over in
          let back = sym (one_on r.before f e) in
          record {
            before = suc r.before;
            froze = subst (λ (g : Filling). freezes path (verdict_of path g) i (seat_at g i) ≡ true) back r.froze;
            left = ap (λ (g : Filling). seat_at g i) (one_on n f e) ∙ r.left ∙ ap (λ (g : Filling). frozen_at (verdict_of path g) (seat_at g i)) back;
          }

      go : (b : Bool) → eqb (num_unfrozen f) 0 ≡ b → (seat_at (cond b f (rounds_until path n (round path f))) i).unfrozen ≡ false → Rest → Frozen (suc n) f i
      go true e over rest = absurd (true≢false (sym u ∙ over))
      go false e over rest = by e over rest (freezes path (verdict_of path f) i (seat_at f i)) refl
