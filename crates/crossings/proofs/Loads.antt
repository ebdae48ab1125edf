-- Counting slot by slot gives each edge the crossings of all slots that pass the test, and a counter never passes what the paths still to come leave of 2,048. Assumes nothing.
use mathlib.Core.Path.{◌≡◌, refl, sym, ap, ◌∙◌}
use mathlib.Core.Bool.{Bool, true, false, cond}
use mathlib.Core.List.{List, [], ◌∷◌, map, foldl}
use Prim.Native.Nat.{ℕ, zero, suc, ◌+◌, ◌≤◌, ◌<◌}
use native.Mathlib.Nat.{zero-add}
use native.Mathlib.Omega.{arith}
use lib.ListN.{length, get_or, drop, replicate}
use lib.Seq.{ext_get_or}
use Rattle.rules.specs.declared.Transfer.{Transfer}
use Rattle.rules.specs.declared.Flows.{Flows}
use Rattle.rules.specs.Lists.{sum, crossings, update, at_each_crossing, map_from}
use Rattle.rules.specs.Records.{own_path}
use Rattle.rules.specs.Clock.{crossings_by, counts_in_loads, edge_loads}
use Rattle.rules.specs.Invariant.{Invariant}
use Rattle.rules.proofs.Each.{each_same}
use Rattle.rules.proofs.Crossings.{crossings_length}
use Rattle.rules.proofs.Steps.{foldl_one, sum_map_one, length_map_from, getD_map_from}
use Rattle.paths.specs.Known.{Roomy}
use Rattle.paths.proofs.PerEdge.{times_more, length_crossing, crossing_at}
use Rattle.crossings.specs.Loads.{counted, loads_by, loads}
use Rattle.rules.proofs.Numbered.{map_from_same, map_from_numbers}

-- ---- what each place counts
module _ (p : Transfer → Bool) where
  length_counted : (load : List ℕ) (t : Transfer) → length (counted p load t) ≡ length load
  unfolding counted
  length_counted load t = go (p t)
    where
      go : (b : Bool) → length (cond b (at_each_crossing (own_path t) (λ n. n + 1) load) load) ≡ length load
      go true = length_crossing (own_path t) (λ n. n + 1) load
      go false = refl

  counted_at : (load : List ℕ) (t : Transfer) (e : ℕ) → e < length load → get_or (counted p load t) e 0 ≡ get_or load e 0 + cond (p t) (crossings e (own_path t)) 0
  unfolding counted
  counted_at load t e h = go (p t)
    where
      go : (b : Bool) → get_or (cond b (at_each_crossing (own_path t) (λ n. n + 1) load) load) e 0 ≡ get_or load e 0 + cond b (crossings e (own_path t)) 0
      go true = crossing_at (own_path t) (λ n. n + 1) load e 0 h ∙ times_more (crossings e (own_path t)) (get_or load e 0)
      go false = omega arith

  length_all : (slots : List Transfer) (load : List ℕ) → length (foldl (counted p) load slots) ≡ length load
  length_all [] load = refl
  length_all (t ∷ slots) load = length_all slots (counted p load t) ∙ length_counted load t

  all_at : (slots : List Transfer) (load : List ℕ) (e : ℕ) → e < length load → get_or (foldl (counted p) load slots) e 0 ≡ get_or load e 0 + crossings_by p own_path slots e
  unfolding crossings_by sum
  all_at [] load e h = omega arith
  all_at (t ∷ slots) load e h = omega (arith, all_at slots (counted p load t) e (rw (length_counted load t) h), counted_at load t e h)

  loads_long : (slots : List Transfer) → length (loads_by p slots) ≡ 64
  unfolding loads_by
  loads_long slots = length_map_from 0 (λ e (n : ℕ). crossings_by p own_path slots e) (replicate 64 0)

  pub loads_at : (slots : List Transfer) (e : ℕ) → e < 64 → get_or (loads_by p slots) e 0 ≡ crossings_by p own_path slots e
  unfolding loads_by
  loads_at slots e h =
      getD_map_from 0 (λ e (n : ℕ). crossings_by p own_path slots e) (replicate 64 0) e 0 0 h ∙ ap (crossings_by p own_path slots) (zero-add e)

  -- THE LAW
  pub loads_counted : (slots : List Transfer) → foldl (counted p) (replicate 64 0) slots ≡ loads_by p slots
  loads_counted slots =
      let blank : List ℕ = replicate 64 0 in
      ext_get_or 0 (foldl (counted p) blank slots) (loads_by p slots) (length_all slots blank ∙ sym (loads_long slots))
      (λ e h. let inside : e < 64 = rw (length_all slots blank) at h in
      let none : get_or blank e 0 ≡ 0 = each_same (λ (z : ℕ). z ≡ 0) 0 64 0 refl refl e in
      omega (arith, all_at slots blank e inside, none, loads_at slots e inside))

-- a table of edges put through the loads of all in flight is put through the crossings themselves
pub by_loads : {A : Type 0} (slots : List Transfer) (g : ℕ → A → A) (xs : List A) → length xs ≡ 64 → map_from 0 (λ e x. g (get_or (loads slots) e 0) x) xs ≡ map_from 0 (λ e x. g (crossings_by counts_in_loads own_path slots e) x) xs
by_loads slots g xs h =
    map_from_same 0 (λ e x. g (get_or (loads slots) e 0) x) (λ e x. g (crossings_by counts_in_loads own_path slots e) x) xs (λ e x q. ap (λ (n : ℕ). g n x) (loads_at counts_in_loads slots e (omega arith)))

-- it is the table that a filling keeps
pub loads_kept : {f : Flows} → Invariant f → loads f.in_flight ≡ (edge_loads f).load
unfolding loads_by edge_loads
loads_kept {f} inv = map_from_numbers 0 (crossings_by counts_in_loads own_path f.in_flight) (replicate 64 0) f.edges (sym inv.edge_places)

-- ---- room
-- no edge is crossed more often than the paths are long
pub few_loads : (p : Transfer → Bool) (slots : List Transfer) (e : ℕ) → crossings_by p own_path slots e ≤ sum (map (λ t. length (own_path t)) slots)
unfolding crossings_by sum
few_loads p [] e = omega arith
few_loads p (t ∷ slots) e = omega (arith, some (p t), few_loads p slots e)
  where
    some : (b : Bool) → cond b (crossings e (own_path t)) 0 ≤ length (own_path t)
    some true = crossings_length e (own_path t)
    some false = omega arith

-- a load leaves room for one more
pub loads_bound : (p : Transfer → Bool) (slots : List Transfer) (e : ℕ) → e < 64 → sum (map (λ t. length (own_path t)) slots) ≤ 2048 → get_or (loads_by p slots) e 0 ≤ 2048
loads_bound p slots e h room = omega (arith, loads_at p slots e h, few_loads p slots e)

update_bound : (k : ℕ) (load : List ℕ) (e : ℕ) → get_or (update k (λ n. n + 1) load) e 0 ≤ get_or load e 0 + 1
unfolding update
update_bound k [] e = omega arith
update_bound zero (n ∷ load) zero = omega arith
update_bound zero (n ∷ load) (suc e) = omega arith
update_bound (suc k) (n ∷ load) zero = omega arith
update_bound (suc k) (n ∷ load) (suc e) = update_bound k load e

crossing_bound : (path : List ℕ) (load : List ℕ) (e : ℕ) → get_or (at_each_crossing path (λ n. n + 1) load) e 0 ≤ get_or load e 0 + length path
unfolding at_each_crossing
crossing_bound [] load e = omega arith
crossing_bound (k ∷ path) load e = omega (arith, crossing_bound path (update k (λ n. n + 1) load) e, update_bound k load e)

counted_bound : (p : Transfer → Bool) (load : List ℕ) (t : Transfer) (e : ℕ) → get_or (counted p load t) e 0 ≤ get_or load e 0 + length (own_path t)
unfolding counted
counted_bound p load t e = go (p t)
  where
    go : (b : Bool) → get_or (cond b (at_each_crossing (own_path t) (λ n. n + 1) load) load) e 0 ≤ get_or load e 0 + length (own_path t)
    go true = crossing_bound (own_path t) load e
    go false = omega arith

-- the counters leave room for the paths of the slots from i on
pub record Room (slots : List Transfer) (load : List ℕ) (i : ℕ) : Type 0 where
  pub left : (e : ℕ) → get_or load e 0 + sum (map (λ t. length (own_path t)) (drop i slots)) ≤ 2048

pub room_starts : (slots : List Transfer) → sum (map (λ t. length (own_path t)) slots) ≤ 2048 → Room slots (replicate 64 0) 0
room_starts slots h = record { left = λ e. omega (arith, h, each_same (λ (z : ℕ). z ≡ 0) 0 64 0 refl refl e) }

module _ (slots : List Transfer) (load : List ℕ) (i : ℕ) (d : Transfer) (h : i < length slots) (room : Room slots load i) where
  pub room_now : Roomy (own_path (get_or slots i d)) load
  room_now = record { room = λ e. omega (arith, room.left e, crossings_length e (own_path (get_or slots i d)), sum_map_one slots i d h (λ t. length (own_path t))) }

  pub room_next : (p : Transfer → Bool) → Room slots (counted p load (get_or slots i d)) (i + 1)
  room_next p = record { left = λ e. omega (arith, room.left e, counted_bound p load (get_or slots i d) e, sum_map_one slots i d h (λ t. length (own_path t))) }

  -- one slot more, where b is what every test that is meant says of it
  pub counted_next : {more : List ℕ} (whole : List ℕ) (Says : (Transfer → Bool) → Type 0) (b : Bool) → more ≡ cond b (at_each_crossing (own_path (get_or slots i d)) (λ n. n + 1) load) load
      → ((p : Transfer → Bool) → Says p → b ≡ p (get_or slots i d))
      → ((p : Transfer → Bool) → Says p → foldl (counted p) load (drop i slots) ≡ foldl (counted p) whole slots)
      → ((p : Transfer → Bool) → Says p → foldl (counted p) more (drop (i + 1) slots) ≡ foldl (counted p) whole slots) × Room slots more (i + 1)
  unfolding counted
  counted_next whole Says b e says done = (
    λ p s. rw (e, says p s) (sym (foldl_one slots i d h (counted p) load) ∙ done p s),
    rw e (room_next (λ t. b)),
  )
