-- What is derived of owners and completions compares as the definitions do: by the variants, then by the numbers. Assumes nothing.
use mathlib.Core.Path.{◌≡◌, refl, ap}
use mathlib.Core.Bool.{Bool, true, false, ◌&&◌, ◌||◌, cond}
use Prim.Native.Nat.{ℕ}
use lib.Dec.{ltb, eqb}
use Rattle.std.proofs.Common.{Some, Less, Equal, Greater}
use Rattle.std.specs.Ordering.{nat_cmp, is_lt, is_some_and, partial_lt, partial_ordering_then}
use Rattle.rules.specs.contracts.OwnerPartialEq.TheImpl as owner_eq
use Rattle.rules.specs.contracts.OwnerPartialOrd.TheImpl as owner_ord
use Rattle.rules.specs.contracts.CompletionPartialEq.TheImpl as completion_eq
use Rattle.rules.specs.contracts.CompletionPartialOrd.TheImpl as completion_ord
use Rattle.rules.specs.declared.Owner.{Owner}
use Rattle.rules.specs.declared.Owner.TheVariants.{Worker, Handoff, Write}
use Rattle.rules.specs.declared.Completion.{Completion}
use Rattle.rules.specs.Records.{owner_kind, owner_worker, same_owner, owner_before, before}
use Rattle.rules.specs.Queue.{same_completion}

less : (n m : ℕ) → is_lt (nat_cmp n m) ≡ ltb n m
less n m = go (ltb n m) (eqb n m)
  where
    go : (b e : Bool) → is_lt (cond b Less (cond e Equal Greater)) ≡ b
    go true e = refl
    go false true = refl
    go false false = refl

-- by two numbers, one after the other
less_then : (n m i j : ℕ) → is_some_and is_lt (partial_ordering_then (Some (nat_cmp n m)) (Some (nat_cmp i j))) ≡ (ltb n m || eqb n m && ltb i j)
less_then n m i j = go (ltb n m) (eqb n m)
  where
    go : (b e : Bool) → is_some_and is_lt (partial_ordering_then (Some (cond b Less (cond e Equal Greater))) (Some (nat_cmp i j))) ≡ (b || e && ltb i j)
    go true e = refl
    go false true = less i j
    go false false = refl

pub owners_eq : (a b : Owner) → (owner_eq.eq-value).it a b ≡ same_owner a b
unfolding same_owner owner_kind owner_worker
owners_eq (Worker n) (Worker m) = refl
owners_eq (Worker n) Handoff = refl
owners_eq (Worker n) Write = refl
owners_eq Handoff (Worker m) = refl
owners_eq Handoff Handoff = refl
owners_eq Handoff Write = refl
owners_eq Write (Worker m) = refl
owners_eq Write Handoff = refl
owners_eq Write Write = refl

pub owners_lt : (a b : Owner) → partial_lt (owner_ord.partial_cmp-value).it a b ≡ owner_before a b
unfolding owner_before owner_kind owner_worker
owners_lt (Worker n) (Worker m) = less n m
owners_lt (Worker n) Handoff = refl
owners_lt (Worker n) Write = refl
owners_lt Handoff (Worker m) = refl
owners_lt Handoff Handoff = refl
owners_lt Handoff Write = refl
owners_lt Write (Worker m) = refl
owners_lt Write Handoff = refl
owners_lt Write Write = refl

pub completions_eq : (c d : Completion) → (completion_eq.eq-value).it c d ≡ same_completion c d
unfolding same_completion
completions_eq c d = ap (λ (b : Bool). b && eqb c.id d.id) (owners_eq c.owner d.owner)

pub completions_lt : (c d : Completion) → partial_lt (completion_ord.partial_cmp-value).it c d ≡ before c d
unfolding before owner_before same_owner owner_kind owner_worker
completions_lt c d = go c.owner d.owner c.id d.id
  where
    go : (a b : Owner) (i j : ℕ) → is_some_and is_lt (partial_ordering_then ((owner_ord.partial_cmp-value).it a b) (Some (nat_cmp i j))) ≡ (owner_before a b || same_owner a b && ltb i j)
    go (Worker n) (Worker m) i j = less_then n m i j
    go (Worker n) Handoff i j = refl
    go (Worker n) Write i j = refl
    go Handoff (Worker m) i j = refl
    go Handoff Handoff i j = less i j
    go Handoff Write i j = refl
    go Write (Worker m) i j = refl
    go Write Handoff i j = refl
    go Write Write i j = less i j
