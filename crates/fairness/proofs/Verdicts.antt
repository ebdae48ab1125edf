-- What a round decides, as the account needs it: its rate is no more than the share of any loaded edge nor than the cap of anybody it freezes, and whoever it freezes runs
-- at its own cap or at the share of an edge all of whose load is frozen with it. Assumes nothing.
use mathlib.Core.Path.{◌≡◌, refl}
use mathlib.Core.Logic.{◌⊎◌, inl, inr}
use mathlib.Core.Bool.{true}
use mathlib.Core.List.{List}
use Prim.Native.Nat.{ℕ, ◌^◌, ◌≤◌, ◌<◌}
use native.Mathlib.Omega.{arith}
use lib.ListN.{length}
use lib.Ieee.{Float}
use borrow.Author.Tests.{eqb-true}
use Rattle.doubles.specs.Doubles.{Plain}
use Rattle.doubles.specs.Exact.{exact}
use Rattle.doubles.proofs.Tests.{passed}
use Rattle.doubles.proofs.Ordered.{lt→exact}
use Rattle.rules.specs.declared.Cap.{Cap}
use Rattle.rules.specs.declared.Cap.TheVariants.{AtMost}
use Rattle.rules.specs.declared.Limit.{Limit}
use Rattle.rules.specs.declared.Limit.TheVariants.{AtEdge, AtCap}
use Rattle.rules.specs.declared.Transfer.{Transfer}
use Rattle.rules.specs.declared.Verdict.{Verdict}
use Rattle.rules.specs.declared.Verdict.TheVariants.{ByCap, ByEdge}
use Rattle.rules.specs.Lists.{crossings}
use Rattle.rules.specs.Filling.{Filling, winning_edge, rate_by, limit_by, names, freezes, seat_at}
use Rattle.rules.proofs.Crossings.{crosses_any, any_crosses}
use Rattle.fairness.proofs.Loads.{Winning, smallest_is, Decided}
use Rattle.fairness.proofs.Rounds.{freezes_both}
use Rattle.fairness.proofs.Choice.{left_of, load_of, share_of, winning_least, winning_plain, no_smaller_cap}

-- a transfer with that cap has that rate and that limit by its cap
abbrev pub AtOwnCap : Cap → Float → Limit → Type 0
AtOwnCap cap rate limit = (limit ≡ AtCap) × (cap ≡ AtMost rate)

module _ (path : Transfer → List ℕ) where
  -- edge e gives its share x to seat i and to all others of its load
  pub record SharesOut (f : Filling) (v : Verdict) (x : Float) (i : ℕ) : Type 0 where
    pub edge : ℕ
    pub named : limit_by v ≡ AtEdge edge
    pub known : edge < length f.residual
    pub crossed : 0 < crossings edge (path (seat_at f i).transfer)
    pub is_share : x ≡ share_of path f edge
    pub to_all : (j : ℕ) → (seat_at f j).unfrozen ≡ true → 0 < crossings edge (path (seat_at f j).transfer) → freezes path v j (seat_at f j) ≡ true

  pub record Chosen (f : Filling) (v : Verdict) (x : Float) : Type 0 where
    pub plain : Plain x
    pub least : (e : ℕ) → e < length f.residual → 0 < load_of path f e → exact x ≤ exact (share_of path f e)
    pub under_cap : (i : ℕ) → freezes path v i (seat_at f i) ≡ true → (c : Float) → (seat_at f i).transfer.rate_cap ≡ AtMost c → exact x ≤ exact c
    pub why : (i : ℕ) → freezes path v i (seat_at f i) ≡ true → AtOwnCap (seat_at f i).transfer.rate_cap x (limit_by v) ⊎ SharesOut f v x i

  module _ (f : Filling) (plain_left : (e : ℕ) → e < length f.residual → Plain (left_of path f e)) (few : (e : ℕ) → e < length f.residual → load_of path f e ≤ 2 ^ 53)
      (plain_caps : (i : ℕ) → (seat_at f i).unfrozen ≡ true → (c : Float) → (seat_at f i).transfer.rate_cap ≡ AtMost c → Plain c) where
    pub chosen : (v : Verdict) → Winning path f (winning_edge path f) → Decided path f v → Chosen f v (rate_by v)
    unfolding rate_by limit_by names freezes
    chosen (ByCap i c) wins d =
        let smallest = smallest_is path f i c d.0 in
        let p : Plain c = plain_caps i smallest.waits c smallest.is_cap in
        let q = winning_plain path f plain_left few wins in
        record {
          plain = p;
          least = λ e known loaded. omega (arith, lt→exact p q (passed d.1), winning_least path f plain_left few e known loaded);
          under_cap = λ j h b k. own j b (eqb-true j i (freezes_both path (ByCap i c) j (seat_at f j) h).1) k smallest.is_cap;
          why = λ j h. inl (refl, rw (eqb-true j i (freezes_both path (ByCap i c) j (seat_at f j) h).1) smallest.is_cap);
        }
      where
        own : (j : ℕ) (b : Float) → j ≡ i → (seat_at f j).transfer.rate_cap ≡ AtMost b → (seat_at f i).transfer.rate_cap ≡ AtMost c → exact c ≤ exact b
        own j b same k k' = let z : (seat_at f i).transfer.rate_cap ≡ AtMost b = rw same at k in let w : c ≡ b = cc in rw w (omega arith)
    chosen (ByEdge e x) wins d =
        let p : Plain x = rw d.1 (winning_plain path f plain_left few wins) in
        record {
          plain = p;
          least = rw d.1 (winning_least path f plain_left few);
          under_cap = λ j h b k. no_smaller_cap path f plain_caps x p d.2 j (freezes_both path (ByEdge e x) j (seat_at f j) h).0 b k;
          why = λ j h. inr (record {
            edge = e;
            named = refl;
            known = rw d.0 wins.known;
            crossed = any_crosses e (path (seat_at f j).transfer) (freezes_both path (ByEdge e x) j (seat_at f j) h).1;
            is_share = rw (d.1, d.0) wins.is_share;
            to_all = λ l u c. rw (crosses_any e (path (seat_at f l).transfer) c, u) refl;
          });
        }
