-- One edge through a filling: what `Account` says of whole numbers, said of what the filling has left of the edge. Each crossing is one rounded difference and the share
-- one rounded quotient, of numbers that are at most the capacity, so one step serves every round. Assumes nothing.
use mathlib.Core.Path.{◌≡◌, refl}
use mathlib.Core.Logic.{◌⊎◌, inl, inr}
use mathlib.Core.List.{List}
use Prim.Native.Nat.{ℕ, zero, suc, ◌+◌, ◌*◌, ◌/◌, ◌^◌, ◌≤◌, ◌<◌}
use native.Mathlib.Nat.{le_trans, mul-le-mul_left, mul-le-mul_right, eq-zero-or-pos}
use native.Mathlib.Omega.{arith}
use lib.Ieee.{Float}
use Rattle.doubles.specs.Doubles.{◌⊖◌, ◌⊘◌, nought, larger, whole, Plain}
use Rattle.doubles.specs.Exact.{exact, step}
use Rattle.doubles.proofs.Units.{exact_whole}
use Rattle.doubles.proofs.Ordered.{le→exact}
use Rattle.doubles.proofs.Binary64.{over_count_plain, over_count_le, over_count_within, left_of_plain, left_of_step}
use Rattle.rules.specs.declared.Transfer.{Transfer}
use Rattle.rules.specs.Lists.{times}
use Rattle.rules.specs.Filling.{spend}
use Rattle.fairness.proofs.Account.{Steps, none, more, steps_less, AtMostShare, AtLeastShare, Good, good_start, good_round}

-- what is left of an edge of capacity c that is crossed k times: r, under the load l, after j crossings whose rates have the sum S
pub record Account (c : Float) (k S : ℕ) (r : Float) (l j : ℕ) : Type 0 where
  pub plain : Plain r
  pub good : Good (step (exact c)) (exact c) k S (exact r) l j

pub account_start : {c : Float} → Plain c → (k : ℕ) → Account c k 0 c k 0
account_start {c} p k = record { plain = p; good = good_start (step (exact c)) (exact c) k }

-- one crossing: the difference, and never below 0
spend_is : (path : Transfer → List ℕ) (x r : Float) → spend x r ≡ larger (r ⊖ x) nought
unfolding spend
spend_is path x r = refl

-- some crossings at one rate
pub crossings_steps : (path : Transfer → List ℕ) {r x : Float} → Plain r → Plain x → (C : ℕ) → C / 2 ^ 52 * 2 ^ 52 ≡ C → exact r ≤ C → (m : ℕ)
    → Plain (times m (spend x) r) × Steps (step C) (exact x) m (exact r) (exact (times m (spend x) r))
unfolding times
crossings_steps path p q C w h zero = (p, none)
crossings_steps path {r} {x} p q C w h (suc m) =
    let i = crossings_steps path p q C w h m in
    rw (spend_is path x (times m (spend x) r)) (left_of_plain i.0 q, more i.1 (left_of_step i.0 q C w (le_trans (steps_less i.1) h)))

module _ {c : Float} (p : Plain c) {k S : ℕ} {r : Float} {l j : ℕ} (a : Account c k S r l j) (few : l ≤ 2 ^ 53) where
  -- a rate that is no more than the share of a loaded edge
  pub at_most_share : (x : Float) → (0 < l → exact x ≤ exact (r ⊘ whole l)) → AtMostShare (step (exact c)) (exact r) l (exact x)
  at_most_share x h = go (eq-zero-or-pos l)
    where
      go : (l ≡ 0) ⊎ (0 < l) → AtMostShare (step (exact c)) (exact r) l (exact x)
      go (inl z) = rw z (omega arith)
      go (inr some) = le_trans (mul-le-mul_left 2 (mul-le-mul_right l (h some))) (over_count_within a.plain l some few (exact c) (exact_whole p) a.good.under).0

  -- the share itself
  pub at_least_share : 0 < l → AtLeastShare (step (exact c)) (exact r) l (exact (r ⊘ whole l))
  at_least_share some = (over_count_within a.plain l some few (exact c) (exact_whole p) a.good.under).1

  -- is no more than the capacity
  pub share_under : 0 < l → exact (r ⊘ whole l) ≤ exact c
  share_under some = le_trans (le→exact (over_count_plain a.plain l some few) a.plain (over_count_le a.plain l some few)) a.good.under

-- a round that gives m of the crossings the rate x, which is no more than the share
module _ (path : Transfer → List ℕ) {c x : Float} (p : Plain c) (q : Plain x) {k S : ℕ} {r : Float} (l m : ℕ) {j : ℕ} (a : Account c k S r (l + m) j) where
  pub account_steps : Steps (step (exact c)) (exact x) m (exact r) (exact (times m (spend x) r))
  account_steps = (crossings_steps path a.plain q (exact c) (exact_whole p) a.good.under m).1

  pub account_round : AtMostShare (step (exact c)) (exact r) (l + m) (exact x) → Account c k (S + m * exact x) (times m (spend x) r) l (j + m)
  account_round h = record {
    plain = (crossings_steps path a.plain q (exact c) (exact_whole p) a.good.under m).0;
    good = good_round (step (exact c)) (exact r) (exact (times m (spend x) r)) l m (exact x) h account_steps (exact c) k S j a.good;
  }
