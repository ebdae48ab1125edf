-- What the library's searches of the table find, and what is done to the slot that is found. Assumes nothing.
use mathlib.Core.Path.{◌≡◌, refl, ap, ◌∙◌}
use mathlib.Core.Bool.{Bool, true, false, not, cond}
use mathlib.Core.List.{List, [], ◌∷◌}
use Prim.Native.Nat.{ℕ, suc, ◌+◌, ◌<◌}
use native.Mathlib.Numerals.{add-one}
use native.Mathlib.Omega.{arith}
use lib.ListN.{length, set}
use Rattle.std.specs.List.{position, position_from}
use Rattle.std.specs.Option.{MatchOption}
use Rattle.std.proofs.Common.{Option, Some}
use Rattle.std.proofs.lemmas.Iterator.Adapters.{position_from-zero}
use Rattle.rules.specs.declared.Transfer.{Transfer}
use Rattle.rules.specs.Lists.{count}
use Rattle.rules.specs.Records.{has_id}
use Rattle.rules.specs.Submission.{placed}
use Rattle.slots.specs.declared.Lookup.{Lookup}
use Rattle.slots.specs.declared.Lookup.TheVariants.{Slot, Nowhere}
use Rattle.slots.specs.Lookup.{lookup_from, lookup, first_free}

found_from : (id n : ℕ) (slots : List Transfer) (l : Lookup) → MatchOption (position_from (has_id id) n slots) (l ≡ Nowhere) (λ i. l ≡ Slot i) → l ≡ lookup_from n id slots
unfolding lookup_from
found_from id n [] l e = e
found_from id n (t ∷ slots) l e = go (has_id id t) e (λ h. rw add-one at (found_from id (n + 1) slots l h))
  where
    go : (b : Bool) → MatchOption (cond b (Some n) (position_from (has_id id) (n + 1) slots)) (l ≡ Nowhere) (λ i. l ≡ Slot i)
        → (MatchOption (position_from (has_id id) (n + 1) slots) (l ≡ Nowhere) (λ i. l ≡ Slot i) → l ≡ lookup_from (suc n) id slots)
        → l ≡ cond b (Slot n) (lookup_from (suc n) id slots)
    go true here past = here
    go false here past = past here

-- the lookup is what the library's search says
pub lookup_is : (id : ℕ) (slots : List Transfer) (l : Lookup) → MatchOption (position (has_id id) slots) (l ≡ Nowhere) (λ i. l ≡ Slot i) → l ≡ lookup id slots
unfolding lookup
lookup_is id slots l e = found_from id 0 slots l (rw position_from-zero at e)

free_from : (n : ℕ) (slots : List Transfer) → count (λ t. t.taken) slots < length slots → (position_from (λ (t : Transfer). not t.taken) n slots ≡ Some (n + first_free slots)) × (first_free slots < length slots)
unfolding first_free count
free_from n [] h = absurd (omega arith)
free_from n (t ∷ slots) h = go t.taken h (free_from (n + 1) slots)
  where
    past : Option ℕ
    past = position_from (λ (u : Transfer). not u.taken) (n + 1) slots

    go : (b : Bool) → cond b 1 0 + count (λ u. u.taken) slots < suc (length slots)
        → (count (λ u. u.taken) slots < length slots → (past ≡ Some (n + 1 + first_free slots)) × (first_free slots < length slots))
        → (cond (not b) (Some n) past ≡ Some (n + cond b (suc (first_free slots)) 0)) × (cond b (suc (first_free slots)) 0 < suc (length slots))
    go true h rest = let r = rest (omega arith) in (r.0 ∙ ap Some (omega arith), omega (arith, r.1))
    go false h rest = (ap Some (omega arith), omega arith)

-- where not all slots are taken, the library's search for a free one finds the lowest
pub first_free_is : (slots : List Transfer) → count (λ t. t.taken) slots < length slots → (position (λ (t : Transfer). not t.taken) slots ≡ Some (first_free slots)) × (first_free slots < length slots)
first_free_is slots h = let f = free_from 0 slots h in (rw position_from-zero (f.0 ∙ ap Some (omega arith)), f.1)

-- a transfer is placed by one store
pub placed_is : (t : Transfer) (slots : List Transfer) → placed t slots ≡ set slots (first_free slots) t
unfolding placed first_free
placed_is t [] = refl
placed_is t (x ∷ slots) = go x.taken (placed_is t slots)
  where
    go : (b : Bool) → placed t slots ≡ set slots (first_free slots) t → cond b (x ∷ placed t slots) (t ∷ slots) ≡ set (x ∷ slots) (cond b (suc (first_free slots)) 0) t
    go true rest = ap (λ (l : List Transfer). x ∷ l) rest
    go false rest = refl
