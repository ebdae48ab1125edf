-- What a drain keeps of the edges: there are as many, each stays sound, and those that nobody crosses stay as they were. Assumes nothing.
use mathlib.Core.Path.{◌≡◌, refl, sym, ap, ◌∙◌}
use mathlib.Core.Bool.{Bool, true, false, ◌&&◌, cond}
use mathlib.Core.List.{List, [], ◌∷◌, foldl}
use Prim.Native.Nat.{ℕ, zero, suc, ◌+◌, ◌≤◌, ◌<◌}
use native.Mathlib.Nat.{add-zero, zero-add}
use native.Mathlib.Omega.{arith}
use lib.Dec.{T, eqb}
use lib.ListN.{length, get_or}
use lib.Ieee.{Float}
use lib.Ieee.Bits.{is_true}
use lib.Ieee.Fits.{and_l}
use borrow.Author.Tests.{ne_eqb}
use Rattle.doubles.specs.Doubles.{◌≺◌, ◌≼◌, nought, Plain}
use Rattle.rules.specs.declared.Edge.{Edge}
use Rattle.rules.specs.declared.Transfer.{Transfer}
use Rattle.rules.specs.declared.Flows.{Flows}
use Rattle.rules.specs.Lists.{Each, count, sum, crossings, update, at_each_crossing, map_from}
use Rattle.rules.specs.Records.{blank_edge, free, own_path}
use Rattle.rules.specs.Clock.{crossings_by, counts_in_loads, flowing_time, moves, bytes_flowing, gain_moved, deliver, gain_busy}
use Rattle.rules.specs.Invariant.{ClockTime, SoundEdge, SoundSlot}
use Rattle.paths.specs.Known.{Known}
use Rattle.paths.proofs.PerEdge.{length_crossing}
use Rattle.paths.proofs.Routes.{known_route, known_more}
use Rattle.rules.proofs.Conds.{by_test}
use Rattle.keeps.proofs.Stalls.{moved_summed, busy_summed}
use Rattle.keeps.proofs.OneDrained.{flow_plain, flow_bound}

-- ---- along a path
module _ {A : Type 0} (P : A → Type 0) (blank : A) (f : A → A) (k : (x : A) → P x → P (f x)) where
  pub each_update : (e : ℕ) (xs : List A) → Each P blank xs → Each P blank (update e f xs)
  unfolding update
  each_update e [] a j = a j
  each_update zero (x ∷ xs) a zero = k x (a 0)
  each_update zero (x ∷ xs) a (suc j) = a (suc j)
  each_update (suc e) (x ∷ xs) a zero = a 0
  each_update (suc e) (x ∷ xs) a (suc j) = each_update e xs (λ i. a (suc i)) j

  pub each_crossing : (path : List ℕ) (xs : List A) → Each P blank xs → Each P blank (at_each_crossing path f xs)
  unfolding at_each_crossing
  each_crossing [] xs a = a
  each_crossing (e ∷ path) xs a = each_crossing path (update e f xs) (each_update e xs a)

-- ---- bytes delivered
taken_moves : (until : Float) (t : Transfer) → T (moves until t) → t.taken ≡ true
unfolding moves
taken_moves until t m = is_true t.taken (and_l t.taken (nought ≺ flowing_time until t && (nought ≺ t.rate && nought ≺ t.bytes_remaining)) m)

module _ (until : Float) where
  length_deliver : (edges : List Edge) (t : Transfer) → length (deliver own_path until edges t) ≡ length edges
  unfolding deliver
  length_deliver edges t = by_test (λ (r : List Edge). length r ≡ length edges) (moves until t) (λ _. length_crossing (own_path t) (gain_moved (bytes_flowing until t)) edges) refl

  pub length_delivered : (edges : List Edge) (slots : List Transfer) → length (foldl (deliver own_path until) edges slots) ≡ length edges
  length_delivered edges [] = refl
  length_delivered edges (t ∷ slots) = length_delivered (deliver own_path until edges t) slots ∙ length_deliver edges t

-- slots of a sound simulator, drained to a time that its last drain is not past
module _ {f : Flows} {until : Float} (d : Plain f.clock.last_drain) (p : Plain until) (h : T (f.clock.last_drain ≼ until)) where
  deliver_sound : (edges : List Edge) (t : Transfer) → SoundSlot f t → Each SoundEdge blank_edge edges → Each SoundEdge blank_edge (deliver own_path until edges t)
  unfolding deliver
  deliver_sound edges t s a = by_test (Each SoundEdge blank_edge) (moves until t) credit a
    where
      credit : T (moves until t) → Each SoundEdge blank_edge (at_each_crossing (own_path t) (gain_moved (bytes_flowing until t)) edges)
      credit m =
          let held = s.held (taken_moves until t m) in
          each_crossing SoundEdge blank_edge (gain_moved (bytes_flowing until t)) (λ e q. moved_summed q (flow_plain held d p h m) (flow_bound held d p h m)) (own_path t) edges a

  pub delivered_sound : (edges : List Edge) (slots : List Transfer) → Each (SoundSlot f) free slots → Each SoundEdge blank_edge edges → Each SoundEdge blank_edge (foldl (deliver own_path until) edges slots)
  delivered_sound edges [] each a = a
  delivered_sound edges (t ∷ slots) each a = delivered_sound (deliver own_path until edges t) slots (λ i. each (suc i)) (deliver_sound edges t (each 0) a)

-- ---- edges past the last: no path names them
module _ {A : Type 0} where
  away_update : (k e : ℕ) (f : A → A) (xs : List A) (d : A) → k < e → get_or (update k f xs) e d ≡ get_or xs e d
  unfolding update
  away_update k e f [] d h = refl
  away_update zero zero f (x ∷ xs) d h = absurd (omega arith)
  away_update zero (suc e) f (x ∷ xs) d h = refl
  away_update (suc k) zero f (x ∷ xs) d h = refl
  away_update (suc k) (suc e) f (x ∷ xs) d h = away_update k e f xs d (omega arith)

  pub away_crossing : (path : List ℕ) (e : ℕ) (f : A → A) (xs : List A) (d : A) → Known e path → get_or (at_each_crossing path f xs) e d ≡ get_or xs e d
  unfolding at_each_crossing
  away_crossing [] e f xs d known = refl
  away_crossing (k ∷ path) e f xs d known =
      away_crossing path e f (update k f xs) d (record { below = λ j q. known.below (suc j) (omega arith) }) ∙ away_update k e f xs d (known.below 0 (omega arith))

pub away_crossings : (e : ℕ) (path : List ℕ) → Known e path → crossings e path ≡ 0
unfolding crossings count
away_crossings e [] known = refl
away_crossings e (k ∷ path) known =
    let other : eqb e k ≡ false = ne_eqb e k (apart e k (known.below 0 (omega arith))) in
    rw other (omega (arith, away_crossings e path (record { below = λ j q. known.below (suc j) (omega arith) })))
  where
    apart : (e k : ℕ) → k < e → e ≡ k → ⊥
    apart e k h q = omega arith

module _ {f : Flows} (e : ℕ) (past : f.num_edges ≤ e) where
  known_held : (t : Transfer) → SoundSlot f t → t.taken ≡ true → Known e (own_path t)
  unfolding own_path
  known_held t s taken = known_more past (known_route (s.held taken).path)

  deliver_away : (until : Float) (edges : List Edge) (t : Transfer) → SoundSlot f t → get_or (deliver own_path until edges t) e blank_edge ≡ get_or edges e blank_edge
  unfolding deliver
  deliver_away until edges t s =
      by_test (λ (r : List Edge). get_or r e blank_edge ≡ get_or edges e blank_edge) (moves until t)
      (λ m. away_crossing (own_path t) e (gain_moved (bytes_flowing until t)) edges blank_edge (known_held t s (taken_moves until t m))) refl

  pub delivered_away : (until : Float) (edges : List Edge) (slots : List Transfer) → Each (SoundSlot f) free slots → get_or (foldl (deliver own_path until) edges slots) e blank_edge ≡ get_or edges e blank_edge
  delivered_away until edges [] each = refl
  delivered_away until edges (t ∷ slots) each = delivered_away until (deliver own_path until edges t) slots (λ i. each (suc i)) ∙ deliver_away until edges t (each 0)

  pub loads_away : (slots : List Transfer) → Each (SoundSlot f) free slots → crossings_by counts_in_loads own_path slots e ≡ 0
  unfolding crossings_by counts_in_loads sum
  loads_away [] each = refl
  loads_away (t ∷ slots) each = omega (arith, none t.taken refl, loads_away slots (λ i. each (suc i)))
    where
      none : (b : Bool) → t.taken ≡ b → ◌≡◌ {A = ℕ} (cond b (crossings e (own_path t)) 0) 0
      none true q = away_crossings e (own_path t) (known_held t (each 0) q)
      none false q = refl

-- ---- load integrals
module _ (dt : Float) (load : ℕ → ℕ) where
  busy_from : (n : ℕ) (edges : List Edge) → ((e : ℕ) → load e ≤ 2048) → ClockTime dt → Each SoundEdge blank_edge edges → Each SoundEdge blank_edge (map_from n (λ e edge. gain_busy dt (load e) edge) edges)
  unfolding map_from
  busy_from n [] few c a j = a j
  busy_from n (x ∷ edges) few c a zero = busy_summed (load n) (few n) c (a 0)
  busy_from n (x ∷ edges) few c a (suc j) = busy_from (suc n) edges few c (λ i. a (suc i)) j

  pub busy_sound : (edges : List Edge) → ((e : ℕ) → load e ≤ 2048) → ClockTime dt → Each SoundEdge blank_edge edges → Each SoundEdge blank_edge (map_from 0 (λ e edge. gain_busy dt (load e) edge) edges)
  busy_sound edges few c a = busy_from 0 edges few c a

  away_from : (n : ℕ) (edges : List Edge) (j : ℕ) → load (n + j) ≡ 0 → get_or (map_from n (λ e edge. gain_busy dt (load e) edge) edges) j blank_edge ≡ get_or edges j blank_edge
  unfolding map_from gain_busy
  away_from n [] j h = refl
  away_from n (x ∷ edges) zero h = let z : load n ≡ 0 = ap load (sym (add-zero n)) ∙ h in rw z
  away_from n (x ∷ edges) (suc j) h = away_from (suc n) edges j (ap load (add_suc_left n j) ∙ h)
    where
      add_suc_left : (n j : ℕ) → suc n + j ≡ n + suc j
      add_suc_left n j = omega arith

  pub busy_away : (edges : List Edge) (e : ℕ) → load e ≡ 0 → get_or (map_from 0 (λ e edge. gain_busy dt (load e) edge) edges) e blank_edge ≡ get_or edges e blank_edge
  busy_away edges e h = away_from 0 edges e (ap load (zero-add e) ∙ h)
