-- In a queue that is in order an owner's entries stand together, so an owner comes again further on exactly if the next entry is the owner's. Assumes nothing.
use mathlib.Core.Path.{◌≡◌, refl, sym, ap, ◌∙◌}
use mathlib.Core.Logic.{⊎_elim}
use mathlib.Core.Bool.{Bool, true, false, ◌||◌, cond, true≢false}
use mathlib.Core.List.{List, [], ◌∷◌}
use Prim.Native.Nat.{ℕ, suc, ◌+◌, ◌≤◌, ◌<◌}
use native.Mathlib.Omega.{arith}
use lib.ListN.{length, drop, get_or, length-drop, drop_of_length-le}
use lib.Seq.{get_or-drop}
use Rattle.rules.specs.declared.Owner.{Owner}
use Rattle.rules.specs.declared.Completion.{Completion}
use Rattle.rules.specs.Lists.{any}
use Rattle.rules.specs.Records.{blank_completion, owner_kind, same_owner, owner_before, before}
use Rattle.rules.specs.Queue.{belongs, owners}
use Rattle.rules.proofs.Steps.{drop_one, any_one, get_d_any}
use Rattle.rules.specs.Invariant.{InOrder}
use Rattle.owners.proofs.Order.{same_owner_is, owner_before_is, before_is}

-- ---- tests

untrue : (b : Bool) → (b ≡ true → ⊥) → b ≡ false
untrue true h = absurd (h refl)
untrue false h = refl

any_none : {A : Type 0} (p : A → Bool) (xs : List A) (d : A) → ((k : ℕ) → k < length xs → p (get_or xs k d) ≡ false) → any p xs ≡ false
unfolding any
any_none p [] d h = refl
any_none p (x ∷ xs) d h = rw (h 0 (omega arith)) (any_none p xs d (λ k l. h (suc k) (omega arith)))

-- ---- owners in order

owner_first : (c d : Completion) → before c d ≡ true → same_owner c.owner d.owner ≡ false → owner_before c.owner d.owner ≡ true
owner_first c d e f = ⊎_elim (λ w. w) (λ w. absurd (true≢false (sym w.0 ∙ f))) (before_is c d e)

-- whoever stands behind another owner's entry is not the owner before it
owner_past : (a : Owner) (d e : Completion) → owner_before a d.owner ≡ true → before d e ≡ true → same_owner a e.owner ≡ true → ⊥
owner_past a d e p q s =
    let same = same_owner_is a e.owner s in
    ⊎_elim
    (λ (w : owner_before d.owner e.owner ≡ true).
    ⊎_elim
    (λ (u : owner_kind a < owner_kind d.owner). ⊎_elim (λ (v : owner_kind d.owner < owner_kind e.owner). omega arith) (λ v. omega arith) (owner_before_is d.owner e.owner w))
    (λ u. ⊎_elim (λ (v : owner_kind d.owner < owner_kind e.owner). omega arith) (λ v. omega arith) (owner_before_is d.owner e.owner w))
    (owner_before_is a d.owner p))
    (λ w.
    let next = same_owner_is d.owner e.owner w.0 in
    ⊎_elim (λ (u : owner_kind a < owner_kind d.owner). omega arith) (λ u. omega arith) (owner_before_is a d.owner p))
    (before_is d e q)

-- ---- neighbours

module _ (list : List Completion) (i : ℕ) (d : Completion) (order : InOrder (length list) list) where
  ordered : (j k : ℕ) → j < k → k < length list → before (get_or list j d) (get_or list k d) ≡ true
  ordered j k h m = rw (get_d_any list j d blank_completion (omega arith), get_d_any list k d blank_completion (omega arith)) (order.ordered j k h m)

  -- past an entry of another owner the owner does not come again
  later : i + 1 < length list → same_owner (get_or list i d).owner (get_or list (i + 1) d).owner ≡ false → (k : ℕ) → k < length (drop (i + 1 + 1) list) → belongs (get_or list i d).owner (get_or (drop (i + 1 + 1) list) k d) ≡ false
  unfolding belongs
  later h f k m =
      let behind : i + 1 + 1 + k < length list = omega (arith, length-drop (i + 1 + 1) list) in
      rw (get_or-drop (i + 1 + 1) list k d)
      (untrue _ (owner_past (get_or list i d).owner (get_or list (i + 1) d) (get_or list (i + 1 + 1 + k) d) (owner_first _ _ (ordered i (i + 1) (omega arith) h) f) (ordered (i + 1) (i + 1 + 1 + k) (omega arith) behind)))

  -- THE LAW
  pub comes_again : i + 1 < length list → any (belongs (get_or list i d).owner) (drop (i + 1) list) ≡ same_owner (get_or list i d).owner (get_or list (i + 1) d).owner
  unfolding any belongs
  comes_again h =
      any_one list (i + 1) d h (belongs (get_or list i d).owner)
      ∙ go (same_owner (get_or list i d).owner (get_or list (i + 1) d).owner) (λ f. any_none (belongs (get_or list i d).owner) (drop (i + 1 + 1) list) d (later h f))
    where
      go : (b : Bool) → (b ≡ false → any (belongs (get_or list i d).owner) (drop (i + 1 + 1) list) ≡ false) → (b || any (belongs (get_or list i d).owner) (drop (i + 1 + 1) list)) ≡ b
      go true k = refl
      go false k = k refl

-- ---- the owners, one entry on

module _ (list : List Completion) (i : ℕ) where
  pub comes_last : (o : Owner) → length list ≤ i + 1 → any (belongs o) (drop (i + 1) list) ≡ false
  unfolding any
  comes_last o h = ap (any (belongs o)) (drop_of_length-le list h)

  pub owners_by : (d : Completion) (b : Bool) → any (belongs (get_or list i d).owner) (drop (i + 1) list) ≡ b → i < length list → owners (drop i list) ≡ cond b (owners (drop (i + 1) list)) ((get_or list i d).owner ∷ owners (drop (i + 1) list))
  unfolding owners
  owners_by d b e h = ap owners (drop_one list i d h) ∙ ap (λ (z : Bool). cond z (owners (drop (i + 1) list)) ((get_or list i d).owner ∷ owners (drop (i + 1) list))) e

  pub owners_none : length list ≤ i → owners (drop i list) ≡ []
  unfolding owners
  owners_none h = ap owners (drop_of_length-le list h)

pub owners_few : (list : List Completion) → length (owners list) ≤ length list
unfolding owners
owners_few [] = omega arith
owners_few (c ∷ list) = go (any (belongs c.owner) list) (owners_few list)
  where
    go : (b : Bool) → length (owners list) ≤ length list → length (cond b (owners list) (c.owner ∷ owners list)) ≤ suc (length list)
    go true h = omega arith
    go false h = omega arith
