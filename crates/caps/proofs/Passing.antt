-- The cursor passes over the frozen: they give no candidate, so the first of the order is the first behind the cursor, which stands behind all the frozen in front. Assumes nothing.
use mathlib.Core.Path.{◌≡◌, refl, sym, ap, ◌∙◌}
use mathlib.Core.Bool.{Bool, true, false, cond}
use mathlib.Core.List.{List, [], ◌∷◌}
use Prim.Native.Nat.{ℕ, zero, suc, ◌+◌, ◌≤◌, ◌<◌}
use native.Mathlib.Omega.{arith}
use borrow.Author.Count.{below_more}
use lib.ListN.{length, get_or}
use lib.Seq.{length-take-le, get_or-take}
use Rattle.rules.specs.declared.Seat.{Seat}
use Rattle.rules.specs.declared.Best.TheVariants.{Nobody}
use Rattle.rules.proofs.Steps.{get_d_any}
use Rattle.rules.specs.Filling.{no_seat}
use Rattle.caps.specs.Order.{capped, frozen_front, first_cap}
use Rattle.caps.specs.declared.CapOrder.{CapOrder}
use Rattle.caps.specs.Listed.{listed, Sized, Passed}

module _ (seats : List Seat) where
  -- all of an order are frozen
  pub first_none : (order : List ℕ) → ((k : ℕ) → k < length order → (get_or seats (get_or order k 0) no_seat).unfrozen ≡ false) → first_cap seats order ≡ Nobody
  unfolding first_cap
  first_none [] h = refl
  first_none (i ∷ order) h = rw (h 0 (omega arith)) (first_none order (λ k l. h (suc k) (omega arith)))

  front_none : (order : List ℕ) → ((k : ℕ) → k < length order → (get_or seats (get_or order k 0) no_seat).unfrozen ≡ false) → frozen_front seats order ≡ length order
  unfolding frozen_front
  front_none [] h = refl
  front_none (i ∷ order) h = rw (h 0 (omega arith)) (ap suc (front_none order (λ k l. h (suc k) (omega arith))))

  -- the one at place k is the first that is not
  first_there : (order : List ℕ) (k : ℕ) → k < length order → ((j : ℕ) → j < k → (get_or seats (get_or order j 0) no_seat).unfrozen ≡ false) → (get_or seats (get_or order k 0) no_seat).unfrozen ≡ true → first_cap seats order ≡ capped (get_or order k 0) (get_or seats (get_or order k 0) no_seat)
  unfolding first_cap
  first_there [] k l h u = absurd (omega arith)
  first_there (i ∷ order) zero l h u = ap (λ (b : Bool). cond b (capped i (get_or seats i no_seat)) (first_cap seats order)) u
  first_there (i ∷ order) (suc k) l h u = rw (h 0 (omega arith)) (first_there order k (omega arith) (λ j q. h (suc j) (omega arith)) u)

  front_there : (order : List ℕ) (k : ℕ) → k < length order → ((j : ℕ) → j < k → (get_or seats (get_or order j 0) no_seat).unfrozen ≡ false) → (get_or seats (get_or order k 0) no_seat).unfrozen ≡ true → frozen_front seats order ≡ k
  unfolding frozen_front
  front_there [] k l h u = absurd (omega arith)
  front_there (i ∷ order) zero l h u = rw u refl
  front_there (i ∷ order) (suc k) l h u = rw (h 0 (omega arith)) (ap suc (front_there order k (omega arith) (λ j q. h (suc j) (omega arith)) u))

  module _ (order : List ℕ) (k : ℕ) (passed : Passed seats order k) where
    pub passed_all : length order ≤ k → first_cap seats order ≡ Nobody
    passed_all over = first_none order (λ j l. passed.frozen j (omega arith))

    pub front_all : length order ≤ k → k ≡ frozen_front seats order
    front_all over = omega (arith, front_none order (λ j l. passed.frozen j (omega arith)), passed.within)

    module _ (h : k < length order) (d : Seat) (inside : get_or order k 0 < length seats) where
      pub passed_to : (get_or seats (get_or order k 0) d).unfrozen ≡ true → first_cap seats order ≡ capped (get_or order k 0) (get_or seats (get_or order k 0) d)
      passed_to u =
          let same : get_or seats (get_or order k 0) d ≡ get_or seats (get_or order k 0) no_seat = get_d_any seats (get_or order k 0) d no_seat inside in
          rw same (first_there order k h passed.frozen (ap (λ (s : Seat). s.unfrozen) (sym same) ∙ u))

      pub front_to : (get_or seats (get_or order k 0) d).unfrozen ≡ true → k ≡ frozen_front seats order
      front_to u = sym (front_there order k h passed.frozen (ap (λ (s : Seat). s.unfrozen) (get_d_any seats (get_or order k 0) no_seat d inside) ∙ u))

      pub passed_one : (get_or seats (get_or order k 0) d).unfrozen ≡ false → Passed seats order (k + 1)
      passed_one u = record {
        within = omega arith;
        frozen = below_more _ _ passed.frozen (ap (λ (s : Seat). s.unfrozen) (get_d_any seats (get_or order k 0) no_seat d inside) ∙ u);
      }

-- ---- the same over an order's table

module _ (o : CapOrder) (sized : Sized o) where
  pub listed_length : length (listed o) ≡ o.len
  listed_length = length-take-le o.len o.slots (omega (arith, sized.places, sized.few))

  module _ (k : ℕ) (h : k < o.len) where
    pub listed_at : get_or (listed o) k 0 ≡ get_or o.slots k 0
    listed_at = get_or-take o.len o.slots k 0 h

    pub slot_known : get_or o.slots k 0 < 256
    slot_known = rw (← listed_at) (sized.known.below k (omega (arith, listed_length)))

    module _ (seats : List Seat) (d : Seat) (all : length seats ≡ 256) (passed : Passed seats (listed o) k) where
      pub comes_to : (get_or seats (get_or o.slots k 0) d).unfrozen ≡ true → first_cap seats (listed o) ≡ capped (get_or o.slots k 0) (get_or seats (get_or o.slots k 0) d)
      comes_to u = rw listed_at at (passed_to seats (listed o) k passed (omega (arith, listed_length)) d (rw listed_at (omega (arith, slot_known))) (rw listed_at u))

      pub comes_front : (get_or seats (get_or o.slots k 0) d).unfrozen ≡ true → k ≡ frozen_front seats (listed o)
      comes_front u = front_to seats (listed o) k passed (omega (arith, listed_length)) d (rw listed_at (omega (arith, slot_known))) (rw listed_at u)

      pub comes_past : (get_or seats (get_or o.slots k 0) d).unfrozen ≡ false → Passed seats (listed o) (k + 1)
      comes_past u = passed_one seats (listed o) k passed (omega (arith, listed_length)) d (rw listed_at (omega (arith, slot_known))) (rw listed_at u)
