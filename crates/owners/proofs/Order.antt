-- What the tests of order and sameness say of the numbers, and what follows from them: no completion stands before itself. Assumes nothing.
use mathlib.Core.Path.{◌≡◌}
use mathlib.Core.Logic.{◌⊎◌, inl, inr, ⊎_elim}
use mathlib.Core.Bool.{true, ◌&&◌}
use Prim.Native.Nat.{◌<◌}
use native.Mathlib.Omega.{arith}
use borrow.Author.Tests.{ltb-true, eqb-true}
use lib.Dec.{ltb, eqb}
use Rattle.rules.specs.declared.Owner.{Owner}
use Rattle.rules.specs.declared.Owner.TheVariants.{Worker, Handoff, Write}
use Rattle.rules.specs.declared.Completion.{Completion}
use Rattle.rules.specs.Records.{owner_kind, owner_worker, same_owner, owner_before, before}
use Rattle.rules.specs.Queue.{same_completion}
use Rattle.rules.proofs.Conds.{both, either}

-- there are three kinds
pub owner_kind_few : (o : Owner) → owner_kind o < 3
unfolding owner_kind
owner_kind_few (Worker n) = omega arith
owner_kind_few Handoff = omega arith
owner_kind_few Write = omega arith

-- one owner: the same kind and the same worker number
pub same_owner_is : (a b : Owner) → same_owner a b ≡ true → (owner_kind a ≡ owner_kind b) × (owner_worker a ≡ owner_worker b)
unfolding same_owner
same_owner_is a b e =
    let w = both (eqb (owner_kind a) (owner_kind b)) (eqb (owner_worker a) (owner_worker b)) e in
    (eqb-true _ _ w.0, eqb-true _ _ w.1)

pub owner_before_is : (a b : Owner) → owner_before a b ≡ true → (owner_kind a < owner_kind b) ⊎ (owner_kind a ≡ owner_kind b) × (owner_worker a < owner_worker b)
unfolding owner_before
owner_before_is a b e =
    ⊎_elim
    (λ w. inl (ltb-true _ _ w))
    (λ w. let v = both (eqb (owner_kind a) (owner_kind b)) (ltb (owner_worker a) (owner_worker b)) w in inr (eqb-true _ _ v.0, ltb-true _ _ v.1))
    (either (ltb (owner_kind a) (owner_kind b)) (eqb (owner_kind a) (owner_kind b) && ltb (owner_worker a) (owner_worker b)) e)

pub before_is : (c d : Completion) → before c d ≡ true → (owner_before c.owner d.owner ≡ true) ⊎ (same_owner c.owner d.owner ≡ true) × (c.id < d.id)
unfolding before
before_is c d e =
    ⊎_elim
    (λ w. inl w)
    (λ w. let v = both (same_owner c.owner d.owner) (ltb c.id d.id) w in inr (v.0, ltb-true _ _ v.1))
    (either (owner_before c.owner d.owner) (same_owner c.owner d.owner && ltb c.id d.id) e)

pub same_completion_is : (c d : Completion) → same_completion c d ≡ true → (same_owner c.owner d.owner ≡ true) × (c.id ≡ d.id)
unfolding same_completion
same_completion_is c d e =
    let w = both (same_owner c.owner d.owner) (eqb c.id d.id) e in
    (w.0, eqb-true _ _ w.1)

-- an owner that is listed before another is another
pub owner_before_differs : (a b : Owner) → owner_before a b ≡ true → same_owner a b ≡ true → ⊥
owner_before_differs a b e s =
    let same = same_owner_is a b s in
    ⊎_elim (λ (w : owner_kind a < owner_kind b). omega arith) (λ w. omega arith) (owner_before_is a b e)

pub before_differs : (c d : Completion) → before c d ≡ true → same_completion c d ≡ true → ⊥
before_differs c d e s =
    let same = same_completion_is c d s in
    ⊎_elim (λ w. owner_before_differs c.owner d.owner w same.0) (λ w. omega arith) (before_is c d e)
