-- The library's words on lists are the rules' own, where the tests agree, and so is what the calls of a fold or of a map gave: what a chain answers, in the words of specs/Lists. Assumes nothing.
use mathlib.Core.Path.{◌≡◌, refl, sym, subst, ◌∙◌}
use mathlib.Core.Bool.{Bool, cond}
use mathlib.Core.List.{List, [], ◌∷◌, map, foldl}
use Prim.Native.Nat.{ℕ, zero, suc, ◌+◌, ◌≤◌}
use native.Mathlib.Omega.{arith}
use lib.ListN.{length, drop, drop_of_length-le}
use denote.Ref.{Bor}
use denote.Param.Members.{Mut, Called}
use Rattle.std.specs.Array.{MapsFrom, IsMapOf}
use Rattle.std.specs.Iterator.{AlwaysYields, Drains}
use Rattle.std.specs.List.{list_any, list_all, filter, count_by, fold, FoldsTo}
use Rattle.std.proofs.Common.{Iter}
use Rattle.std.proofs.lemmas.Fn.{fold_over, slice_gives, fronts}
use Rattle.std.proofs.lemmas.List.Sums.{sum_by-cons, fold_push}
use Rattle.rules.specs.Lists.{any, all, those, count}
use Rattle.rules.proofs.Steps.{drop_one}

module _ {A : Type 0} {p q : A → Bool} (same : (x : A) → q x ≡ p x) where
  pub any_is : (xs : List A) → list_any q xs ≡ any p xs
  unfolding any
  any_is [] = refl
  any_is (x ∷ xs) = rw (same x, any_is xs) refl

  pub all_is : (xs : List A) → list_all q xs ≡ all p xs
  unfolding all
  all_is [] = refl
  all_is (x ∷ xs) = rw (same x, all_is xs) refl

  pub those_is : (xs : List A) → filter q xs ≡ those p xs
  unfolding those
  those_is [] = refl
  those_is (x ∷ xs) = rw (same x, those_is xs) refl

  pub count_is : (xs : List A) → count_by q xs ≡ count p xs
  unfolding count
  count_is [] = refl
  count_is (x ∷ xs) = sum_by-cons (λ y. cond (q y) 1 0) x xs ∙ rw (same x, count_is xs) refl

pub map_is : {A B : Type 0} {f g : A → B} → ((x : A) → f x ≡ g x) → (xs : List A) → map f xs ≡ map g xs
map_is same [] = refl
map_is same (x ∷ xs) = rw (same x, map_is same xs) refl

pub fold_is : {A B : Type 0} {f g : B → A → B} → ((b : B) (x : A) → f b x ≡ g b x) → (b : B) (xs : List A) → fold f b xs ≡ foldl g b xs
fold_is same b [] = refl
fold_is {g = g} same b (x ∷ xs) = rw (same b x) (fold_is same (g b x) xs)

-- `xs.iter().fold(a, f)`, where a call of f changes nothing and gives what `step` does
pub folded : {A B F : Type 0} (g : Mut F (B × (Bor A × Unit {0})) B) (step : B → A → B) (f : F)
    → ((a : B) (x : Bor A) (b : B) (f' : F) → Called g f (a, (x, tt)) b f' → (b ≡ step a x.now) × (f' ≡ f))
    → (s : Iter A) (xs : List A) → s.rest.now ≡ xs → (a r : B)
    → (items : List (Bor A)) × (f' : F) × Drains fronts s items × FoldsTo {P = F × B} (λ p x q. Called g p.0 (p.1, (x, tt)) q.1 q.0) (f, a) items (f', r)
    → r ≡ foldl step a xs
folded g step f call s xs e a r ran =
    fold_over fronts (λ y. y.now) g (λ ys b. b ≡ fold step a ys) f
    (λ ys b x b' f' j k. let h = call b x b' f' k in (h.0 ∙ rw j (sym (fold_push step a ys x.now)), h.1))
    s xs a r (subst (λ ys. AlwaysYields fronts (λ y. y.now) s ys) e (slice_gives s)) refl ran
    ∙ fold_is (λ b x. refl) a xs

-- `xs.map(f)` of an array, where a call of f changes nothing and gives what `h` does
module _ {A B F : Type 0} (g : Mut F (A × Unit {0}) B) (h : A → B) (f : F) (call : (x : A) (y : B) (f' : F) → Called g f (x, tt) y f' → (y ≡ h x) × (f' ≡ f)) (xs : List A) (ys : List B) where
  mapped_from : (i n : ℕ) → length xs ≡ i + n → length ys ≡ i + n → MapsFrom g f xs ys i n → drop i ys ≡ map h (drop i xs)
  mapped_from i zero lx ly m =
      let none_in : length xs ≤ i = omega arith in
      let none_out : length ys ≤ i = omega arith in
      rw (drop_of_length-le xs none_in, drop_of_length-le ys none_out) refl
  mapped_from i (suc n) lx ly m =
      let one = call m.1 m.2 m.0 m.5 in
      let more = mapped_from (i + 1) n (omega arith) (omega arith) (subst (λ q. MapsFrom g q xs ys (i + 1) n) one.1 m.6) in
      let put_in : drop i xs ≡ m.1 ∷ drop (i + 1) xs = drop_one xs i m.1 (omega arith) ∙ rw m.3.0 refl in
      drop_one ys i m.2 (omega arith) ∙ rw (m.4.0, one.0, more, put_in) refl

  pub mapped : (n : ℕ) → length xs ≡ n → IsMapOf g f xs ys n → ys ≡ map h xs
  mapped n lx m = mapped_from 0 n (omega arith) (omega (arith, m.long)) m.each
