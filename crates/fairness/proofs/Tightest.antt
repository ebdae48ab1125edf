-- The tightest of some caps is one of them, is not above any, and at equality is the lowest slot's. Assumes nothing.
use mathlib.Core.Path.{◌≡◌, refl, ◌∙◌}
use mathlib.Core.Logic.{◌⊎◌, inl, inr}
use mathlib.Core.Bool.{Bool, true, false, cond}
use mathlib.Core.List.{List, [], ◌∷◌, foldl}
use Prim.Native.Nat.{ℕ, zero, suc, ◌+◌, ◌≤◌, ◌<◌}
use native.Mathlib.Nat.{eq-or-lt_of_le}
use native.Mathlib.Omega.{arith}
use lib.ListN.{length, get_or}
use lib.Ieee.{Float}
use Rattle.doubles.specs.Doubles.{◌≺◌, Plain}
use Rattle.doubles.specs.Exact.{exact}
use Rattle.doubles.proofs.Tests.{passed, failed}
use Rattle.doubles.proofs.Ordered.{lt→exact, le→exact, not_below}
use Rattle.rules.specs.declared.Cap.{Cap}
use Rattle.rules.specs.declared.Cap.TheVariants.{AtMost, Uncapped}
use Rattle.rules.specs.declared.Best.{Best}
use Rattle.rules.specs.declared.Best.TheVariants.{At, Nobody}
use Rattle.rules.specs.Lists.{map_from}
use Rattle.rules.specs.Filling.{tighter, own_cap}

-- ---- one of them

tighter_either : (x y : Best) → (tighter x y ≡ x) ⊎ (tighter x y ≡ y)
unfolding tighter
tighter_either Nobody y = inr refl
tighter_either (At i a) Nobody = inl refl
tighter_either (At i a) (At j b) = go (b ≺ a)
  where
    go : (c : Bool) → (cond c (At j b) (At i a) ≡ At i a) ⊎ (cond c (At j b) (At i a) ≡ At j b)
    go true = inr refl
    go false = inl refl

module _ {A : Type 0} (g : ℕ → A → Best) where
  pub tightest_among : (n : ℕ) (xs : List A) (d : A) (b : Best) → (foldl tighter b (map_from n g xs) ≡ b) ⊎ ((j : ℕ) × (j < length xs) × (foldl tighter b (map_from n g xs) ≡ g (n + j) (get_or xs j d)))
  unfolding map_from
  tightest_among n [] d b = inl refl
  tightest_among n (x ∷ xs) d b = go (tightest_among (suc n) xs d (tighter b (g n x))) (tighter_either b (g n x))
    where
      go : (foldl tighter (tighter b (g n x)) (map_from (suc n) g xs) ≡ tighter b (g n x)) ⊎ ((j : ℕ) × (j < length xs) × (foldl tighter (tighter b (g n x)) (map_from (suc n) g xs) ≡ g (suc n + j) (get_or xs j d)))
          → (tighter b (g n x) ≡ b) ⊎ (tighter b (g n x) ≡ g n x)
          → (foldl tighter (tighter b (g n x)) (map_from (suc n) g xs) ≡ b) ⊎ ((j : ℕ) × (j < length (x ∷ xs)) × (foldl tighter (tighter b (g n x)) (map_from (suc n) g xs) ≡ g (n + j) (get_or (x ∷ xs) j d)))
      go (inl e) (inl e') = inl (e ∙ e')
      go (inl e) (inr e') = let z : n + 0 ≡ n = omega arith in inr (0, omega arith, rw z (e ∙ e'))
      go (inr (j, h, e)) e' = let z : n + suc j ≡ suc n + j = omega arith in inr (suc j, omega arith, rw z e)

pub no_candidate : {A : Type 0} {i : ℕ} {a : Float} → Nobody ≡ At i a → A
no_candidate e = let z : ◌≡◌ {A = ℕ} 0 1 = cc in absurd (omega arith)

pub own_cap_at : (j : ℕ) (b : Bool) (k : Cap) (i : ℕ) (c : Float) → own_cap j b k ≡ At i c → (b ≡ true) × (j ≡ i) × (k ≡ AtMost c)
unfolding own_cap
own_cap_at j false k i c e = no_candidate e
own_cap_at j true Uncapped i c e = no_candidate e
own_cap_at j true (AtMost d) i c e = (refl, cc, cc)

-- ---- not above any

-- a cap, where there is one, is plain and of a slot below n
abbrev PlainBelow : ℕ → Best → Type 0
PlainBelow n Nobody = Unit {0}
PlainBelow n (At i x) = Plain x × (i < n)

-- a cap, where there is one, is plain and of slot n
abbrev pub PlainOf : ℕ → Best → Type 0
PlainOf n Nobody = Unit {0}
PlainOf n (At i x) = Plain x × (i ≡ n)

-- the first is a smaller cap than the second, or an equal one of no higher slot, unless the second is nobody's
abbrev pub Least : Best → Best → Type 0
Least b Nobody = Unit {0}
Least Nobody (At j y) = ⊥
Least (At i x) (At j y) = (exact x < exact y) ⊎ ((exact x ≡ exact y) × (i ≤ j))

least_trans : (a b c : Best) → Least a b → Least b c → Least a c
least_trans a b Nobody h k = tt
least_trans a Nobody (At l z) h k = absurd k
least_trans Nobody (At j y) (At l z) h k = absurd h
least_trans (At i x) (At j y) (At l z) (inl h) (inl k) = inl (omega (arith, h, k))
least_trans (At i x) (At j y) (At l z) (inl h) (inr k) = inl (omega (arith, h, k.0))
least_trans (At i x) (At j y) (At l z) (inr h) (inl k) = inl (omega (arith, h.0, k))
least_trans (At i x) (At j y) (At l z) (inr h) (inr k) = inr (h.0 ∙ k.0, omega (arith, h.1, k.1))

least_own : (a : Best) → Least a a
least_own Nobody = tt
least_own (At i x) = inr (refl, omega arith)

tighter_least : (n : ℕ) (a b : Best) → PlainBelow n a → PlainOf n b → PlainBelow (suc n) (tighter a b) × Least (tighter a b) a × Least (tighter a b) b
unfolding tighter
tighter_least n Nobody Nobody p q = (tt, tt, tt)
tighter_least n Nobody (At j y) p q = ((q.0, omega (arith, q.1)), tt, least_own (At j y))
tighter_least n (At i x) Nobody p q = ((p.0, omega (arith, p.1)), least_own (At i x), tt)
tighter_least n (At i x) (At j y) p q = go (y ≺ x) refl
  where
    go : (c : Bool) → (y ≺ x) ≡ c → PlainBelow (suc n) (cond c (At j y) (At i x)) × Least (cond c (At j y) (At i x)) (At i x) × Least (cond c (At j y) (At i x)) (At j y)
    go true e = ((q.0, omega (arith, q.1)), inl (lt→exact q.0 p.0 (passed e)), least_own (At j y))
    go false e = ((p.0, omega (arith, p.1)), least_own (At i x), by (eq-or-lt_of_le (le→exact p.0 q.0 (not_below p.0 q.0 (failed e)))))
      where
        by : (exact x ≡ exact y) ⊎ (exact x < exact y) → Least (At i x) (At j y)
        by (inl s) = inr (s, omega (arith, p.1, q.1))
        by (inr s) = inl s

module _ {A : Type 0} (g : ℕ → A → Best) where
  pub tightest_least : (n : ℕ) (xs : List A) (d : A) (b : Best) → PlainBelow n b → ((j : ℕ) → j < length xs → PlainOf (n + j) (g (n + j) (get_or xs j d)))
      → Least (foldl tighter b (map_from n g xs)) b × ((j : ℕ) → j < length xs → Least (foldl tighter b (map_from n g xs)) (g (n + j) (get_or xs j d)))
  unfolding map_from
  tightest_least n [] d b p q = (least_own b, λ j h. absurd (omega arith))
  tightest_least n (x ∷ xs) d b p q =
      let z : n + 0 ≡ n = omega arith in
      let t = tighter_least n b (g n x) p (rw z at (q 0 (omega arith))) in
      let r = tightest_least (suc n) xs d (tighter b (g n x)) t.0 (λ j h. later j (q (suc j) (omega arith))) in
      let w = foldl tighter (tighter b (g n x)) (map_from (suc n) g xs) in
      (least_trans w (tighter b (g n x)) b r.0 t.1, at (least_trans w (tighter b (g n x)) (g n x) r.0 t.2) r.1)
    where
      later : (j : ℕ) → PlainOf (n + suc j) (g (n + suc j) (get_or xs j d)) → PlainOf (suc n + j) (g (suc n + j) (get_or xs j d))
      later j p = let z : n + suc j ≡ suc n + j = omega arith in rw z at p

      at : Least (foldl tighter (tighter b (g n x)) (map_from (suc n) g xs)) (g n x) → ((j : ℕ) → j < length xs → Least (foldl tighter (tighter b (g n x)) (map_from (suc n) g xs)) (g (suc n + j) (get_or xs j d)))
          → (j : ℕ) → j < length (x ∷ xs) → Least (foldl tighter (tighter b (g n x)) (map_from (suc n) g xs)) (g (n + j) (get_or (x ∷ xs) j d))
      at here rest zero h = let z : n + 0 ≡ n = omega arith in rw z here
      at here rest (suc j) h = let z : n + suc j ≡ suc n + j = omega arith in rw z (rest j (omega arith))
