-- A table of slots stays sound with a sound transfer or the blank set in one place, or with some slots made free; and the rest of a drained simulator does not mind.
-- Assumes nothing.
use Prim.Native.Nat.{ℕ, zero, suc, ◌≤◌, ◌<◌}
use native.Mathlib.Omega.{arith}
use mathlib.Core.Path.{◌≡◌, refl, sym, ap, ◌∙◌}
use mathlib.Core.Bool.{Bool, true, false, cond, true≢false}
use mathlib.Core.List.{List, [], ◌∷◌, map}
use lib.Dec.{eqb}
use borrow.Author.Tests.{eqb-true, eqb-false}
use lib.ListN.{length, get_or, set, take, length-take, length-set, length-map, get_or-map}
use lib.Seq.{get_or-set_same, get_or-set_other}
use Rattle.rules.specs.declared.Transfer.{Transfer}
use Rattle.rules.specs.declared.Completion.{Completion}
use Rattle.rules.specs.declared.Totals.{Totals}
use Rattle.rules.specs.declared.Flows.{Flows}
use Rattle.rules.specs.Lists.{sum, Each}
use Rattle.rules.specs.Records.{max_slots, free, own_path, with_in_flight, with_totals}
use Rattle.rules.specs.Invariant.{SoundSlot}
use Rattle.rules.proofs.Each.{each_map}
use Rattle.rules.proofs.Conds.{by_test}
use Rattle.keeps.proofs.Parts.{CrowdSound}
use Rattle.keeps.proofs.Drained.{AllOwing, Drained, slot_in, free_slot}
use Rattle.rules.proofs.Sums.{sum_bound}

-- ---- room for paths

short_path : {f : Flows} (t : Transfer) → SoundSlot f t → length (own_path t) ≤ 8
unfolding own_path
short_path t s = go t.taken refl
  where
    go : (b : Bool) → t.taken ≡ b → length (take t.path.len t.path.hops) ≤ 8
    go true e = omega (arith, length-take t.path.len t.path.hops, (s.held e).path.short)
    go false e = rw (s.blank e) (omega arith)

-- 256 paths of at most 8
pub paths_fit : {f : Flows} (slots : List Transfer) → length slots ≡ max_slots → Each (SoundSlot f) free slots → sum (map (λ t. length (own_path t)) slots) ≤ 2048
paths_fit slots places each = omega (arith, sum_bound (λ t. length (own_path t)) 8 slots free (λ i. short_path (get_or slots i free) (each i)))

-- ---- other slots in a drained simulator

pub other_slots : {owed owed' : List Completion} {f : Flows} → Drained owed f → (slots : List Transfer) (totals : Totals)
    → CrowdSound slots → Each (SoundSlot f) free slots → AllOwing owed' slots f.num_completed totals → Drained owed' (with_in_flight slots (with_totals totals f))
unfolding with_in_flight with_totals
other_slots {f = f} d slots totals crowd each owing = record {
  tolerance = d.tolerance;
  clock = d.clock;
  edges = d.edges;
  queue = d.queue;
  crowd = crowd;
  each = λ i. slot_in f (with_in_flight slots (with_totals totals f)) (omega arith) refl (each i);
  at_clock = d.at_clock;
  totals = owing;
}

-- ---- one place set

module _ (slots : List Transfer) (k : ℕ) (t : Transfer) (inside : k < length slots) where
  -- what is read back is what was set, or what was there
  pub set_cases : (P : ℕ → Transfer → Type 0) → P k t → ((i : ℕ) → (i ≡ k → ⊥) → P i (get_or slots i free)) → (i : ℕ) → P i (get_or (set slots k t) i free)
  set_cases P here there i = go (eqb i k) refl
    where
      go : (b : Bool) → eqb i k ≡ b → P i (get_or (set slots k t) i free)
      go true e = let z = eqb-true i k e in rw (z, get_or-set_same slots k t free inside) here
      go false e = let other = eqb-false i k e in rw (get_or-set_other slots k i t free other) (there i other)

  -- an id of its own
  pub crowd_set : {f : Flows} → CrowdSound slots → Each (SoundSlot f) free (set slots k t) → (t.taken ≡ true → (i : ℕ) → (i ≡ k → ⊥) → (get_or slots i free).taken ≡ true → (get_or slots i free).id ≡ t.id → ⊥) → CrowdSound (set slots k t)
  crowd_set crowd each own = record {
    places = length-set slots k t ∙ crowd.places;
    ids_differ = set_cases (λ i x. (j : ℕ) → x.taken ≡ true → (get_or (set slots k t) j free).taken ≡ true → x.id ≡ (get_or (set slots k t) j free).id → i ≡ j)
        (set_cases (λ j y. t.taken ≡ true → y.taken ≡ true → t.id ≡ y.id → k ≡ j) (λ a b e. refl) (λ j other a b e. absurd (own a j other b (sym e))))
        (λ i other. set_cases (λ j y. (get_or slots i free).taken ≡ true → y.taken ≡ true → (get_or slots i free).id ≡ y.id → i ≡ j)
        (λ a b e. absurd (own b i other a e)) (λ j other' a b e. crowd.ids_differ i j a b e));
    path_room = paths_fit (set slots k t) (length-set slots k t ∙ crowd.places) each;
  }

-- ---- some made free

module _ (p : Transfer → Bool) where
  abbrev pub cleared : Transfer → Transfer
  cleared t = cond (p t) free t

  pub each_cleared : (P : Transfer → Type 0) (slots : List Transfer) → P free → Each P free slots → Each P free (map cleared slots)
  each_cleared P slots blank each = each_map P free cleared slots (λ t s. by_test P (p t) (λ gone. blank) s) blank each

  pub cleared_read : (slots : List Transfer) (i : ℕ) → get_or (map cleared slots) i free ≡ cleared (get_or slots i free)
  cleared_read slots i = ap (λ (d : Transfer). get_or (map cleared slots) i d) (sym (blank (p free))) ∙ get_or-map cleared slots i free
    where
      blank : (b : Bool) → cond b free free ≡ free
      blank true = refl
      blank false = refl

  -- who is still there stood there
  pub cleared_at : (slots : List Transfer) (i : ℕ) → (get_or (map cleared slots) i free).taken ≡ true → get_or (map cleared slots) i free ≡ get_or slots i free
  cleared_at slots i h = go (p (get_or slots i free)) (cleared_read slots i) h
    where
      go : (b : Bool) → get_or (map cleared slots) i free ≡ cond b free (get_or slots i free) → (get_or (map cleared slots) i free).taken ≡ true → get_or (map cleared slots) i free ≡ get_or slots i free
      go true e h = absurd (true≢false (sym (sym (ap (λ (t : Transfer). t.taken) e) ∙ h)))
      go false e h = e

  pub crowd_cleared : {f : Flows} (slots : List Transfer) → CrowdSound slots → Each (SoundSlot f) free slots → CrowdSound (map cleared slots)
  crowd_cleared {f} slots crowd each = record {
    places = length-map slots cleared ∙ crowd.places;
    ids_differ = λ i j a b e.
        let same_i = cleared_at slots i a in
        let same_j = cleared_at slots j b in
        crowd.ids_differ i j (rw same_i at a) (rw same_j at b) (rw (same_i, same_j) at e);
    path_room = paths_fit (map cleared slots) (length-map slots cleared ∙ crowd.places) (each_cleared (SoundSlot f) slots (free_slot f) each);
  }

-- the blank is read past the end
pub taken_inside : (slots : List Transfer) (i : ℕ) → (get_or slots i free).taken ≡ true → i < length slots
taken_inside [] i h = absurd (true≢false (sym h))
taken_inside (t ∷ slots) zero h = omega arith
taken_inside (t ∷ slots) (suc i) h = omega (arith, taken_inside slots i h)
