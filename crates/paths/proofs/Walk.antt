-- A walk along a path, one store for each crossing: what is left of the path does to the table as it is what the whole path does to the table as it was.
-- Assumes nothing.
use mathlib.Core.Path.{◌≡◌, refl, sym, ap, ◌∙◌}
use mathlib.Core.Bool.{Bool, true, false}
use mathlib.Core.List.{List}
use Prim.Native.Nat.{ℕ, ◌+◌, ◌-◌, ◌≤◌, ◌<◌}
use native.Mathlib.Omega.{arith}
use lib.Dec.{eqb}
use lib.ListN.{length, get_or, set, drop, length-set, drop_of_length-le}
use lib.Seq.{get_or-set_same, get_or-set_other}
use borrow.Author.Tests.{eq-eqb, eqb-true, eqb-false}
use Rattle.rules.specs.Lists.{count, crossings, at_each_crossing}
use Rattle.rules.proofs.Steps.{count_by, crossing_one}
use Rattle.paths.specs.Known.{Known}
use Rattle.paths.proofs.PerEdge.{crossing_at, times_more}

-- Where a walk stands after i crossings.
pub record Walk {A : Type 0} (f : A → A) (path : List ℕ) (whole out : List A) (i : ℕ) : Type 0 where
  pub within : i ≤ length path
  pub long : length out ≡ length whole
  pub left : at_each_crossing (drop i path) f out ≡ at_each_crossing path f whole

pub walk_starts : {A : Type 0} {f : A → A} {path : List ℕ} {whole : List A} → Walk f path whole whole 0
walk_starts = record { within = omega arith; long = refl; left = refl }

module _ {A : Type 0} {f : A → A} {path : List ℕ} {whole out : List A} where
  pub walk_one : {i : ℕ} {v : A} (d : A) → Walk f path whole out i → i < length path → v ≡ f (get_or out (get_or path i 0) d) → Walk f path whole (set out (get_or path i 0) v) (i + 1)
  walk_one {i} {v} d w h e = record {
    within = omega arith;
    long = length-set out (get_or path i 0) v ∙ w.long;
    left = rw e (sym (crossing_one path i f out d h) ∙ w.left);
  }

  pub walk_ends : {i : ℕ} → Walk f path whole out i → length path ≤ i → out ≡ at_each_crossing path f whole
  unfolding at_each_crossing
  walk_ends {i} w over = rw (drop_of_length-le path over) at w.left

  -- the place that is crossed next
  pub place_known : {i : ℕ} → Known (length whole) path → Walk f path whole out i → i < length path → get_or path i 0 < length out
  place_known {i} known w h = omega (arith, known.below i h, w.long)

-- ---- counters

module _ (path : List ℕ) (i : ℕ) (h : i < length path) where
  -- the crossing that is next is one of those left
  pub crossing_left : crossings (get_or path i 0) (drop i path) ≡ 1 + crossings (get_or path i 0) (drop (i + 1) path)
  unfolding crossings
  crossing_left = count_by (eqb (get_or path i 0)) path i 0 true (eq-eqb (get_or path i 0) (get_or path i 0) refl) h

  -- a counter that counts the crossings left still does after one
  pub counted_one : (counters : List ℕ) → get_or path i 0 < length counters → ((e : ℕ) → crossings e (drop i path) ≤ get_or counters e 0) → (e : ℕ) → crossings e (drop (i + 1) path) ≤ get_or (set counters (get_or path i 0) (get_or counters (get_or path i 0) 0 - 1)) e 0
  unfolding crossings
  counted_one counters known enough e = go (eqb e (get_or path i 0)) refl
    where
      go : (b : Bool) → eqb e (get_or path i 0) ≡ b → count (eqb e) (drop (i + 1) path) ≤ get_or (set counters (get_or path i 0) (get_or counters (get_or path i 0) 0 - 1)) e 0
      go true q =
          let here : e ≡ get_or path i 0 = eqb-true e (get_or path i 0) q in
          let now = get_or-set_same counters (get_or path i 0) (get_or counters (get_or path i 0) 0 - 1) 0 known in
          rw (here, now) (omega (arith, enough (get_or path i 0), crossing_left))
      go false q =
          rw (get_or-set_other counters (get_or path i 0) e (get_or counters (get_or path i 0) 0 - 1) 0 (eqb-false e (get_or path i 0) q))
          (omega (arith, enough e, count_by (eqb e) path i 0 false q h))

-- what one place counts after some crossings, and the crossings left, are what it counted and all crossings
pub raised_at : (path : List ℕ) (whole out : List ℕ) (i e : ℕ) → Walk (λ n. n + 1) path whole out i → e < length out → get_or out e 0 + crossings e (drop i path) ≡ get_or whole e 0 + crossings e path
raised_at path whole out i e w h =
    sym (times_more (crossings e (drop i path)) (get_or out e 0))
    ∙ sym (crossing_at (drop i path) (λ n. n + 1) out e 0 h)
    ∙ ap (λ (l : List ℕ). get_or l e 0) w.left
    ∙ crossing_at path (λ n. n + 1) whole e 0 (omega (arith, w.long))
    ∙ times_more (crossings e path) (get_or whole e 0)
