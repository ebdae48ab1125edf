-- What it means that a search found a slot, or none: who is there, and what is asked of the transfer with that id. Assumes nothing.
use mathlib.Core.Path.{◌≡◌, refl, sym, ap, ◌∙◌}
use mathlib.Core.Bool.{Bool, true, false, cond}
use mathlib.Core.List.{List, [], ◌∷◌}
use Prim.Native.Nat.{ℕ, zero, suc, ◌+◌, ◌<◌}
use native.Mathlib.Omega.{arith}
use lib.Dec.{eqb}
use lib.ListN.{length, get_or}
use borrow.Author.Tests.{eqb-true}
use Rattle.rules.specs.declared.Transfer.{Transfer}
use Rattle.rules.specs.declared.Flows.{Flows}
use Rattle.rules.specs.Lists.{any}
use Rattle.rules.specs.Records.{free, has_id, of_id}
use Rattle.rules.specs.Invariant.{Invariant}
use Rattle.rules.proofs.Conds.{both}
use Rattle.slots.specs.declared.Lookup.{Lookup}
use Rattle.slots.specs.declared.Lookup.TheVariants.{Slot, Nowhere}
use Rattle.slots.specs.Lookup.{lookup_from, lookup}

-- nobody has the id
pub record Missing (id : ℕ) (slots : List Transfer) : Type 1 where
  pub none_has : any (has_id id) slots ≡ false
  pub nobody : (i : ℕ) → has_id id (get_or slots i free) ≡ false
  pub of_none : {A : Type 0} (none : A) (some : Transfer → A) → of_id id none some slots ≡ none

-- the transfer in slot i has the id, and is the one that is asked about
pub record Found (id : ℕ) (slots : List Transfer) (i : ℕ) : Type 1 where
  pub inside : i < length slots
  pub holds : has_id id (get_or slots i free) ≡ true
  pub some_has : any (has_id id) slots ≡ true
  pub of_some : {A : Type 0} (none : A) (some : Transfer → A) → of_id id none some slots ≡ some (get_or slots i free)

missing_past : (id : ℕ) (t : Transfer) (slots : List Transfer) → has_id id t ≡ false → Missing id slots → Missing id (t ∷ slots)
unfolding any of_id
missing_past id t slots e m = record { none_has = rw e m.none_has; nobody = past; of_none = λ none some. rw e (m.of_none none some) }
  where
    past : (i : ℕ) → has_id id (get_or (t ∷ slots) i free) ≡ false
    past zero = e
    past (suc i) = m.nobody i

found_here : (id : ℕ) (t : Transfer) (slots : List Transfer) → has_id id t ≡ true → Found id (t ∷ slots) 0
unfolding any of_id
found_here id t slots e = record { inside = omega arith; holds = e; some_has = rw e; of_some = λ none some. rw e }

found_past : (id : ℕ) (t : Transfer) (slots : List Transfer) (i : ℕ) → has_id id t ≡ false → Found id slots i → Found id (t ∷ slots) (suc i)
unfolding any of_id
found_past id t slots i e f = record { inside = omega (arith, f.inside); holds = f.holds; some_has = rw e f.some_has; of_some = λ none some. rw e (f.of_some none some) }

-- what a search from slot n on says
abbrev Says : ℕ → ℕ → List Transfer → Lookup → Type 1
Says id n slots Nowhere = Missing id slots
Says id n slots (Slot i) = (k : ℕ) × (i ≡ n + k) × Found id slots k

says_past : (id n : ℕ) (t : Transfer) (slots : List Transfer) (l : Lookup) → has_id id t ≡ false → Says id (suc n) slots l → Says id n (t ∷ slots) l
says_past id n t slots Nowhere e m = missing_past id t slots e m
says_past id n t slots (Slot i) e s = (suc s.0, omega (arith, s.1), found_past id t slots s.0 e s.2)

says : (id n : ℕ) (slots : List Transfer) → Says id n slots (lookup_from n id slots)
unfolding lookup_from any has_id of_id
says id n [] = record { none_has = refl; nobody = λ i. refl; of_none = λ none some. refl }
says id n (t ∷ slots) = go (has_id id t) refl (says id (suc n) slots)
  where
    go : (b : Bool) → has_id id t ≡ b → Says id (suc n) slots (lookup_from (suc n) id slots) → Says id n (t ∷ slots) (cond b (Slot n) (lookup_from (suc n) id slots))
    go true e rest = (0, omega arith, found_here id t slots e)
    go false e rest = says_past id n t slots (lookup_from (suc n) id slots) e rest

read_says : (id : ℕ) (slots : List Transfer) (l : Lookup) → lookup id slots ≡ l → Says id 0 slots l
unfolding lookup
read_says id slots l e = rw e at (says id 0 slots)

pub nowhere : (id : ℕ) (slots : List Transfer) → lookup id slots ≡ Nowhere → Missing id slots
nowhere id slots e = read_says id slots Nowhere e

pub somewhere : (id : ℕ) (slots : List Transfer) (i : ℕ) → lookup id slots ≡ Slot i → Found id slots i
somewhere id slots i e = let s = read_says id slots (Slot i) e in let p : s.0 ≡ i = omega (arith, s.1) in rw p at s.2

abbrev pub is_slot : Lookup → Bool
is_slot Nowhere = false
is_slot (Slot i) = true

-- whether someone has the id, by what a search says
pub contains_by : (id : ℕ) (slots : List Transfer) (l : Lookup) → l ≡ lookup id slots → any (has_id id) slots ≡ is_slot l
contains_by id slots Nowhere e = (nowhere id slots (sym e)).none_has
contains_by id slots (Slot i) e = (somewhere id slots i (sym e)).some_has

-- ---- what is asked of the transfer with an id

-- who has an id is in flight under it
pub holds_id : (id : ℕ) (t : Transfer) → has_id id t ≡ true → (t.taken ≡ true) × (t.id ≡ id)
unfolding has_id
holds_id id t e = let w = both t.taken (eqb t.id id) e in (w.0, eqb-true t.id id w.1)

asked_itself : {A : Type 0} (id : ℕ) (none : A) (some : Transfer → A) (slots : List Transfer) → let t = of_id id free (λ t. t) slots in of_id id none some slots ≡ cond t.taken (some t) none
unfolding of_id
asked_itself id none some [] = refl
asked_itself id none some (t ∷ slots) = go (has_id id t) (λ e. (holds_id id t e).0) (asked_itself id none some slots)
  where
    go : (b : Bool) → (b ≡ true → t.taken ≡ true) → let rest = of_id id free (λ u. u) slots in of_id id none some slots ≡ cond rest.taken (some rest) none
        → let t' = cond b t rest in cond b (some t) (of_id id none some slots) ≡ cond t'.taken (some t') none
    go true taken same = rw (taken refl) refl
    go false taken same = same

-- it is asked of the transfer itself, where that is no blank
pub asked_of : {A : Type 0} (id : ℕ) (none : A) (some : Transfer → A) (slots : List Transfer) (t : Transfer) → t ≡ of_id id free (λ t. t) slots → (b : Bool) → t.taken ≡ b → cond b (some t) none ≡ of_id id none some slots
asked_of id none some slots t same b e = ap (λ (c : Bool). cond c (some t) none) (sym e) ∙ ap (λ (u : Transfer). cond u.taken (some u) none) same ∙ sym (asked_itself id none some slots)

-- ---- one slot for an id

pub one_slot : {f : Flows} → Invariant f → (id i j : ℕ) → has_id id (get_or f.in_flight i free) ≡ true → has_id id (get_or f.in_flight j free) ≡ true → i ≡ j
one_slot {f} inv id i j a b =
    let p = holds_id id (get_or f.in_flight i free) a in
    let q = holds_id id (get_or f.in_flight j free) b in
    inv.ids_differ i j p.0 q.0 (p.1 ∙ sym q.1)
