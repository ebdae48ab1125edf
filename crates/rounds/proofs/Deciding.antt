-- The shares read from the load table are the definition's, since the table is right for every edge. Assumes nothing.
use mathlib.Core.Path.{◌≡◌, refl, ap}
use mathlib.Core.Bool.{Bool, true, false}
use mathlib.Core.List.{List, [], ◌∷◌}
use Prim.Native.Nat.{ℕ, suc, ◌+◌, ◌≤◌, ◌<◌}
use native.Mathlib.Omega.{arith}
use borrow.Author.Tests.{ltb-true, ltb-false}
use lib.Dec.{ltb}
use lib.Ieee.{Float}
use lib.ListN.{length, get_or}
use Rattle.rules.specs.Records.{own_path}
use Rattle.rules.specs.Filling.{load, shares, smallest_share, winning_edge}
use Rattle.rounds.specs.declared.Scratch.{Scratch}
use Rattle.rounds.specs.Standing.{filling, Standing, shares_by}
use Rattle.rounds.proofs.Loading.{load_bound, past_end}

-- loads that are equal give equal shares
shares_same : (l m : ℕ → ℕ) (n : ℕ) (residual : List Float) → ((j : ℕ) → j < length residual → l (n + j) ≡ m (n + j)) → shares l n residual ≡ shares m n residual
unfolding shares
shares_same l m n [] same = refl
shares_same l m n (r ∷ residual) same =
    let here : l n ≡ m n = let z : n + 0 ≡ n = omega arith in rw z at (same 0 (omega arith)) in
    rw (here, shares_same l m (suc n) residual (λ j h. let z : n + suc j ≡ suc n + j = omega arith in rw z at (same (suc j) (omega arith)))) refl

module _ (f : Scratch) (standing : Standing f) where
  pub loads_few : (e : ℕ) → get_or f.load e 0 ≤ 2048
  loads_few e = go (ltb e 64) refl
    where
      go : (b : Bool) → ltb e 64 ≡ b → get_or f.load e 0 ≤ 2048
      go true q = omega (arith, standing.loads.right e (ltb-true e 64 q), load_bound f.seats standing.paths e, standing.places)
      go false q = omega (arith, past_end f.load e (omega (arith, standing.loads.places, ltb-false e 64 q)))

  pub shares_right : smallest_share (shares_by f.load 0 f.residual) ≡ winning_edge own_path (filling f)
  unfolding winning_edge
  shares_right =
      ap smallest_share (shares_same (λ e. get_or f.load e 0) (load own_path f.seats) 0 f.residual
      (λ j h. standing.loads.right (0 + j) (omega (arith, standing.edges))))
