-- No loaded edge has a smaller share than the winning one, and nobody unfrozen has a smaller cap than the smallest: for plain numbers `≺` is an order, and a fold that
-- gives way only to what is strictly below keeps the least. Assumes nothing.
use mathlib.Core.Path.{◌≡◌, refl}
use mathlib.Core.Bool.{Bool, true, false}
use mathlib.Core.Logic.{inl, inr}
use mathlib.Core.List.{List}
use Prim.Native.Nat.{ℕ, ◌+◌, ◌^◌, ◌≤◌, ◌<◌}
use native.Mathlib.Omega.{arith}
use lib.ListN.{length, get_or}
use lib.Ieee.{Float}
use Rattle.doubles.specs.Doubles.{◌⊘◌, ◌≺◌, nought, whole, Plain}
use Rattle.doubles.specs.Exact.{exact}
use Rattle.doubles.proofs.Tests.{failed}
use Rattle.doubles.proofs.Ordered.{le→exact, not_below}
use Rattle.doubles.proofs.Binary64.{over_count_plain}
use Rattle.rules.specs.declared.Cap.{Cap}
use Rattle.rules.specs.declared.Cap.TheVariants.{AtMost, Uncapped}
use Rattle.rules.specs.declared.Transfer.{Transfer}
use Rattle.rules.specs.declared.Best.{Best}
use Rattle.rules.specs.declared.Best.TheVariants.{At, Nobody}
use Rattle.rules.specs.Filling.{Filling, tightest, load, share, winning_edge, own_cap, smallest_cap, no_seat, seat_at}
use Rattle.fairness.proofs.Tightest.{PlainOf, Least, tightest_least}
use Rattle.fairness.proofs.Shares.{smallest_least as least_of_shares}
use Rattle.fairness.proofs.Loads.{unfrozen_inside, Winning, smallest_is}

module _ (path : Transfer → List ℕ) (f : Filling) where
  -- what is left of edge e, its load and its share
  abbrev pub left_of : ℕ → Float
  left_of e = get_or f.residual e nought

  abbrev pub load_of : ℕ → ℕ
  load_of e = load path f.seats e

  abbrev pub share_of : ℕ → Float
  share_of e = left_of e ⊘ whole (load_of e)

  -- ---- edges

  module _ (plain_left : (e : ℕ) → e < length f.residual → Plain (left_of e)) (few : (e : ℕ) → e < length f.residual → load_of e ≤ 2 ^ 53) where
    plain_share : (j : ℕ) → j < length f.residual → 0 < load_of j → Plain (share_of j)
    plain_share j h l = over_count_plain (plain_left j h) (load_of j) l (few j h)

    -- it has the smallest share
    pub winning_least : (e : ℕ) → e < length f.residual → 0 < load_of e → exact (winning_edge path f).share ≤ exact (share_of e)
    unfolding winning_edge share
    winning_least e known loaded = least_of_shares (load path f.seats) f.residual plain_share e known loaded

    pub winning_plain : Winning path f (winning_edge path f) → Plain (winning_edge path f).share
    winning_plain w = rw w.is_share (plain_share (winning_edge path f).edge w.known w.loaded)

  -- ---- caps

  module _ (plain_caps : (i : ℕ) → (seat_at f i).unfrozen ≡ true → (c : Float) → (seat_at f i).transfer.rate_cap ≡ AtMost c → Plain c) where
    plain_cap : (i : ℕ) (b : Bool) (k : Cap) → (b ≡ true → (c : Float) → k ≡ AtMost c → Plain c) → PlainOf i (own_cap i b k)
    unfolding own_cap
    plain_cap i false k h = tt
    plain_cap i true Uncapped h = tt
    plain_cap i true (AtMost c) h = (h refl c refl, refl)

    -- it is there where somebody unfrozen has a cap, and is no greater, nor of a higher slot where they are equal
    pub smallest_below : (j : ℕ) → (seat_at f j).unfrozen ≡ true → (d : Float) → (seat_at f j).transfer.rate_cap ≡ AtMost d → Least (smallest_cap f) (At j d)
    unfolding smallest_cap tightest own_cap
    smallest_below j u d k =
        let all = tightest_least (λ i s. own_cap i s.unfrozen s.transfer.rate_cap) 0 f.seats no_seat Nobody tt (λ i h. plain_cap (0 + i) (seat_at f i).unfrozen (seat_at f i).transfer.rate_cap (plain_caps i)) in
        let z : 0 + j ≡ j = omega arith in
        let least : Least (smallest_cap f) (own_cap j (seat_at f j).unfrozen (seat_at f j).transfer.rate_cap) = rw z at (all.1 j (unfrozen_inside f.seats j u)) in
        let own : own_cap j (seat_at f j).unfrozen (seat_at f j).transfer.rate_cap ≡ At j d = rw (k, u) refl in
        rw own at least

    pub smallest_least : (i : ℕ) (c : Float) → smallest_cap f ≡ At i c → (j : ℕ) → (seat_at f j).unfrozen ≡ true → (d : Float) → (seat_at f j).transfer.rate_cap ≡ AtMost d → exact c ≤ exact d
    smallest_least i c q j u d k = go (rw q at (smallest_below j u d k))
      where
        go : Least (At i c) (At j d) → exact c ≤ exact d
        go (inl h) = omega (arith, h)
        go (inr h) = omega (arith, h.0)

    -- a cap below x is not there where the smallest is not below x
    pub no_smaller_cap : (x : Float) → Plain x → ((i : ℕ) (c : Float) → smallest_cap f ≡ At i c → (c ≺ x) ≡ false)
        → (j : ℕ) → (seat_at f j).unfrozen ≡ true → (d : Float) → (seat_at f j).transfer.rate_cap ≡ AtMost d → exact x ≤ exact d
    no_smaller_cap x p high j u d k = go (smallest_cap f) refl
      where
        go : (b : Best) → smallest_cap f ≡ b → exact x ≤ exact d
        go Nobody q = absurd (rw q at (smallest_below j u d k))
        go (At i c) q =
            let smallest = smallest_is path f i c q in
            let plain : Plain c = plain_caps i smallest.waits c smallest.is_cap in
            omega (arith, le→exact p plain (not_below p plain (failed (high i c q))), smallest_least i c q j u d k)
