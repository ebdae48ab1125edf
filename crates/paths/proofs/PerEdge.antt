-- What a path does to one place: it is put through f once for each crossing, and no other place counts. Assumes nothing.
use mathlib.Core.Path.{◌≡◌, refl, sym, ap, ◌∙◌}
use mathlib.Core.Bool.{Bool, true, false, cond}
use mathlib.Core.List.{List, [], ◌∷◌}
use Prim.Native.Nat.{ℕ, zero, suc, ◌+◌, ◌-◌, ◌<◌}
use native.Mathlib.Nat.{suc-add, zero-add}
use native.Mathlib.Omega.{arith}
use lib.Dec.{eqb}
use lib.ListN.{length, get_or}
use borrow.Author.Tests.{eqb-true, eqb-false}
use Rattle.rules.specs.Lists.{count, crossings, update, at_each_crossing, times}

-- ---- n times over

pub times_inside : {A : Type 0} (n : ℕ) (f : A → A) (x : A) → times n f (f x) ≡ f (times n f x)
unfolding times
times_inside zero f x = refl
times_inside (suc n) f x = ap f (times_inside n f x)

pub times_add : {A : Type 0} (n m : ℕ) (f : A → A) (x : A) → times (n + m) f x ≡ times m f (times n f x)
unfolding times
times_add zero m f x = rw zero-add refl
times_add (suc n) m f x = rw suc-add (ap f (times_add n m f x) ∙ sym (times_inside m f (times n f x)))

-- counting up, and counting down to 0
pub times_more : (n m : ℕ) → times n (λ x. x + 1) m ≡ m + n
unfolding times
times_more zero m = omega arith
times_more (suc n) m = omega (arith, times_more n m)

pub times_less : (n m : ℕ) → times n (λ x. x - 1) m ≡ m - n
unfolding times
times_less zero m = omega arith
times_less (suc n) m = omega (arith, times_less n m)

-- ---- one place

module _ {A : Type 0} where
  pub length_update : (e : ℕ) (f : A → A) (xs : List A) → length (update e f xs) ≡ length xs
  unfolding update
  length_update e f [] = refl
  length_update zero f (x ∷ xs) = refl
  length_update (suc e) f (x ∷ xs) = ap suc (length_update e f xs)

  pub length_crossing : (path : List ℕ) (f : A → A) (xs : List A) → length (at_each_crossing path f xs) ≡ length xs
  unfolding at_each_crossing
  length_crossing [] f xs = refl
  length_crossing (e ∷ path) f xs = length_crossing path f (update e f xs) ∙ length_update e f xs

  -- an update reaches the element at its own number alone
  update_here : (e j : ℕ) (f : A → A) (xs : List A) (d : A) → j ≡ e → j < length xs → get_or (update e f xs) j d ≡ f (get_or xs j d)
  unfolding update
  update_here e j f [] d q h = absurd (omega arith)
  update_here zero zero f (x ∷ xs) d q h = refl
  update_here zero (suc j) f (x ∷ xs) d q h = absurd (omega arith)
  update_here (suc e) zero f (x ∷ xs) d q h = absurd (omega arith)
  update_here (suc e) (suc j) f (x ∷ xs) d q h = update_here e j f xs d (omega arith) (omega arith)

  update_away : (e j : ℕ) (f : A → A) (xs : List A) (d : A) → (j ≡ e → ⊥) → get_or (update e f xs) j d ≡ get_or xs j d
  unfolding update
  update_away e j f [] d n = refl
  update_away zero zero f (x ∷ xs) d n = absurd (n refl)
  update_away zero (suc j) f (x ∷ xs) d n = refl
  update_away (suc e) zero f (x ∷ xs) d n = refl
  update_away (suc e) (suc j) f (x ∷ xs) d n = update_away e j f xs d (λ q. n (ap suc q))

  -- a whole path
  pub crossing_at : (path : List ℕ) (f : A → A) (xs : List A) (j : ℕ) (d : A) → j < length xs → get_or (at_each_crossing path f xs) j d ≡ times (crossings j path) f (get_or xs j d)
  unfolding at_each_crossing crossings count times
  crossing_at [] f xs j d h = refl
  crossing_at (e ∷ path) f xs j d h = crossing_at path f (update e f xs) j d (rw length_update h) ∙ go (eqb j e) refl
    where
      go : (b : Bool) → eqb j e ≡ b → times (crossings j path) f (get_or (update e f xs) j d) ≡ times (cond b 1 0 + count (eqb j) path) f (get_or xs j d)
      go true q = ap (times (crossings j path) f) (update_here e j f xs d (eqb-true j e q) h) ∙ sym (times_add 1 (count (eqb j) path) f (get_or xs j d))
      go false q = ap (times (crossings j path) f) (update_away e j f xs d (eqb-false j e q)) ∙ sym (times_add 0 (count (eqb j) path) f (get_or xs j d))
