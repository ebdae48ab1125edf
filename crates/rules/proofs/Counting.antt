-- Counts: with joining, splitting and choosing, with elements changed, set or blanked, and what a count of none, of some or of at most one says. Assumes nothing.
use mathlib.Core.Path.{◌≡◌, refl, sym, ap, ◌∙◌}
use mathlib.Core.Bool.{Bool, true, false, not, ◌&&◌, ◌||◌, cond, true≢false}
use mathlib.Core.List.{List, [], ◌∷◌, ◌++◌, map}
use Prim.Native.Nat.{ℕ, zero, suc, ◌+◌, ◌≤◌, ◌<◌}
use native.Mathlib.Omega.{arith}
use lib.ListN.{length, get_or, set}
use Rattle.rules.specs.Lists.{count, any, those, map_from}

-- A test's worth in a count.
abbrev pub one_if : Bool → ℕ
one_if b = cond b 1 0

-- ---- elements changed

passes_least : (a b : Bool) → (a ≡ true → b ≡ true) → cond a 1 0 ≤ cond b 1 0
passes_least true true h = omega arith
passes_least true false h = absurd (true≢false (sym (h refl)))
passes_least false b h = omega arith

module _ {A : Type 0} (p : A → Bool) (g : ℕ → A → A) (never_back : (i : ℕ) (x : A) → p (g i x) ≡ true → p x ≡ true) where
  pub count_falls : (n : ℕ) (xs : List A) → count p (map_from n g xs) ≤ count p xs
  unfolding count map_from
  count_falls n [] = omega arith
  count_falls n (x ∷ xs) = omega (arith, count_falls (suc n) xs, passes_least (p (g n x)) (p x) (never_back n x))

  -- element j passes before and not after
  pub count_drops : (n : ℕ) (xs : List A) (j : ℕ) (d : A) → j < length xs → p (get_or xs j d) ≡ true → p (g (n + j) (get_or xs j d)) ≡ false → count p (map_from n g xs) < count p xs
  unfolding count map_from
  count_drops n [] j d h before after = absurd (omega arith)
  count_drops n (x ∷ xs) zero d h before after =
      let z : n + 0 ≡ n = omega arith in
      let after' : p (g n x) ≡ false = rw z at after in
      rw (before, after') (omega (arith, count_falls (suc n) xs))
  count_drops n (x ∷ xs) (suc j) d h before after =
      let z : n + suc j ≡ suc n + j = omega arith in
      omega (arith, count_drops (suc n) xs j d (omega arith) before (rw z at after), passes_least (p (g n x)) (p x) (never_back n x))

-- a test that comes out the same of every element counts the same
pub count_kept : {A B : Type 0} (p : B → Bool) (g : A → B) (change : ℕ → A → A) → ((i : ℕ) (x : A) → p (g (change i x)) ≡ p (g x)) → (n : ℕ) (xs : List A) → count p (map g (map_from n change xs)) ≡ count p (map g xs)
unfolding count map_from
count_kept p g change same n [] = refl
count_kept p g change same n (x ∷ xs) = rw (same n x, count_kept p g change same (suc n) xs) refl

-- a count of what g makes of the elements
pub count_map : {A B : Type 0} (p : B → Bool) (g : A → B) (xs : List A) → count p (map g xs) ≡ count (λ (x : A). p (g x)) xs
unfolding count
count_map p g [] = refl
count_map p g (x ∷ xs) = rw (count_map p g xs) refl

-- where who passes q passes p, no more pass q
pub count_most : {A : Type 0} (q p : A → Bool) (xs : List A) (d : A) → ((i : ℕ) → q (get_or xs i d) ≡ true → p (get_or xs i d) ≡ true) → count q xs ≤ count p xs
unfolding count
count_most q p [] d h = omega arith
count_most q p (x ∷ xs) d h = omega (arith, passes_least (q x) (p x) (h 0), count_most q p xs d (λ i. h (suc i)))

pub count_all : {A : Type 0} (p : A → Bool) (xs : List A) → count p xs ≤ length xs
unfolding count
count_all p [] = omega arith
count_all p (x ∷ xs) = omega (arith, count_all p xs, passes_least (p x) true (λ h. refl))

-- somebody passes the test
pub some_of_count : {A : Type 0} (p : A → Bool) (xs : List A) (d : A) → 0 < count p xs → (j : ℕ) × (j < length xs) × (p (get_or xs j d) ≡ true)
unfolding count
some_of_count p [] d h = absurd (omega arith)
some_of_count p (x ∷ xs) d h = go (p x) refl (some_of_count p xs d)
  where
    go : (b : Bool) → p x ≡ b → (0 < count p xs → (j : ℕ) × (j < length xs) × (p (get_or xs j d) ≡ true)) → (j : ℕ) × (j < length (x ∷ xs)) × (p (get_or (x ∷ xs) j d) ≡ true)
    go true e rec = (0, omega arith, e)
    go false e rec =
        let h' : 0 < cond (p x) 1 0 + count p xs = h in
        let h'' : 0 < 0 + count p xs = rw e at h' in
        let r = rec (omega arith) in
        (suc r.0, omega (arith, r.1), r.2)

-- nobody passes it
pub none_of_count : {A : Type 0} (p : A → Bool) (xs : List A) (d : A) → count p xs ≡ 0 → (j : ℕ) → j < length xs → p (get_or xs j d) ≡ false
unfolding count
none_of_count p [] d none j h = absurd (omega arith)
none_of_count p (x ∷ xs) d none zero h = go (p x) none
  where
    go : (b : Bool) → cond b 1 0 + count p xs ≡ 0 → b ≡ false
    go true z = absurd (omega arith)
    go false z = refl
none_of_count p (x ∷ xs) d none (suc j) h = none_of_count p xs d (omega arith) j (omega arith)

pub count_everyone : {A : Type 0} (xs : List A) → count (λ (x : A). true) xs ≡ length xs
unfolding count
count_everyone [] = refl
count_everyone (x ∷ xs) = omega (arith, count_everyone xs)

-- ---- a table changed at some places

module _ {A : Type 0} (q : A → Bool) where
  pub count_set : (xs : List A) (k : ℕ) (x d : A) → k < length xs → count q (set xs k x) + one_if (q (get_or xs k d)) ≡ count q xs + one_if (q x)
  unfolding count
  count_set [] k x d h = absurd (omega arith)
  count_set (y ∷ xs) zero x d h = omega arith
  count_set (y ∷ xs) (suc k) x d h = omega (arith, count_set xs k x d (omega arith))

  pub count_same : (r : A → Bool) (xs : List A) → ((x : A) → q x ≡ r x) → count q xs ≡ count r xs
  unfolding count
  count_same r [] same = refl
  count_same r (x ∷ xs) same = rw (same x, count_same r xs same) refl

  pub count_those : (p : A → Bool) (xs : List A) → count q (those p xs) ≡ count (λ x. p x && q x) xs
  unfolding count those
  count_those p [] = refl
  count_those p (x ∷ xs) = go (p x) (count_those p xs)
    where
      go : (b : Bool) → count q (those p xs) ≡ count (λ x. p x && q x) xs → count q (cond b (x ∷ those p xs) (those p xs)) ≡ one_if (b && q x) + count (λ x. p x && q x) xs
      go true e = ap (λ (n : ℕ). one_if (q x) + n) e
      go false e = omega (arith, e)

  -- those that pass p made blank, where a blank does not count
  pub count_cleared : (p : A → Bool) (blank : A) → q blank ≡ false → (xs : List A) → count q (map (λ x. cond (p x) blank x) xs) + count (λ x. p x && q x) xs ≡ count q xs
  unfolding count
  count_cleared p blank e [] = omega arith
  count_cleared p blank e (x ∷ xs) = omega (arith, count_cleared p blank e xs, go (p x))
    where
      go : (b : Bool) → one_if (q (cond b blank x)) + one_if (b && q x) ≡ one_if (q x)
      go true = rw e (omega arith)
      go false = omega arith

-- ---- joined and split

module _ {A : Type 0} where
  -- two tests that agree at every place count alike
  pub count_same_at : (p q : A → Bool) (xs : List A) (d : A) → ((i : ℕ) → p (get_or xs i d) ≡ q (get_or xs i d)) → count p xs ≡ count q xs
  count_same_at p q xs d same = omega (arith, count_most p q xs d (λ i h. sym (same i) ∙ h), count_most q p xs d (λ i h. same i ∙ h))

  pub count_append : (p : A → Bool) (xs ys : List A) → count p (xs ++ ys) ≡ count p xs + count p ys
  unfolding count
  count_append p [] ys = omega arith
  count_append p (x ∷ xs) ys = omega (arith, count_append p xs ys)

  -- a count, split by another test
  pub count_split : (p q : A → Bool) (xs : List A) → count p xs ≡ count (λ x. q x && p x) xs + count (λ x. not (q x) && p x) xs
  unfolding count
  count_split p q [] = refl
  count_split p q (x ∷ xs) = go (q x) (count_split p q xs)
    where
      go : (b : Bool) → count p xs ≡ count (λ x. q x && p x) xs + count (λ x. not (q x) && p x) xs
          → cond (p x) 1 0 + count p xs ≡ cond (b && p x) 1 0 + count (λ x. q x && p x) xs + (cond (not b && p x) 1 0 + count (λ x. not (q x) && p x) xs)
      go true same = omega (arith, same)
      go false same = omega (arith, same)

  -- ---- somebody and nobody

  -- a place whose element passes, where the blank does not, is counted
  pub count_some : (p : A → Bool) (xs : List A) (d : A) → p d ≡ false → (i : ℕ) → p (get_or xs i d) ≡ true → 0 < count p xs
  unfolding count
  count_some p [] d blank i here = absurd (true≢false (sym here ∙ blank))
  count_some p (x ∷ xs) d blank zero here = rw here (omega arith)
  count_some p (x ∷ xs) d blank (suc i) here = omega (arith, count_some p xs d blank i here)

  pub any_some : (p : A → Bool) (xs : List A) → 0 < count p xs → any p xs ≡ true
  unfolding count any
  any_some p [] some = absurd (omega arith)
  any_some p (x ∷ xs) some = go (p x) some (any_some p xs)
    where
      go : (b : Bool) → 0 < cond b 1 0 + count p xs → (0 < count p xs → any p xs ≡ true) → (b || any p xs) ≡ true
      go true some rest = refl
      go false some rest = rest (omega arith)

  pub any_none : (p : A → Bool) (xs : List A) → count p xs ≡ 0 → any p xs ≡ false
  unfolding count any
  any_none p [] none = refl
  any_none p (x ∷ xs) none = go (p x) none (any_none p xs)
    where
      go : (b : Bool) → cond b 1 0 + count p xs ≡ 0 → (count p xs ≡ 0 → any p xs ≡ false) → (b || any p xs) ≡ false
      go true none rest = absurd (omega arith)
      go false none rest = rest (omega arith)

  count_none : (p : A → Bool) (xs : List A) (d : A) → ((i : ℕ) → p (get_or xs i d) ≡ true → ⊥) → count p xs ≡ 0
  count_none p xs d none = go (count p xs) refl
    where
      go : (n : ℕ) → count p xs ≡ n → n ≡ 0
      go zero e = refl
      go (suc n) e = let some = some_of_count p xs d (omega arith) in absurd (none some.0 some.2)

  -- where any two places that pass are one place
  pub count_one_place : (p : A → Bool) (xs : List A) (d : A) → ((i j : ℕ) → p (get_or xs i d) ≡ true → p (get_or xs j d) ≡ true → i ≡ j) → count p xs ≤ 1
  unfolding count
  count_one_place p [] d one = omega arith
  count_one_place p (x ∷ xs) d one = go (p x) refl (count_one_place p xs d (λ i j a b. let z : suc i ≡ suc j = one (suc i) (suc j) a b in omega arith))
    where
      go : (b : Bool) → p x ≡ b → count p xs ≤ 1 → cond b 1 0 + count p xs ≤ 1
      go true here rest = omega (arith, count_none p xs d (λ i there. let z : 0 ≡ suc i = one 0 (suc i) here there in omega arith))
      go false here rest = omega arith
