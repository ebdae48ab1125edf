-- A path crosses each of its edges and no others. Assumes nothing.
use mathlib.Core.Path.{◌≡◌, refl, sym}
use mathlib.Core.Bool.{Bool, true, false, cond, ◌||◌, true≢false}
use mathlib.Core.List.{List, [], ◌∷◌}
use Prim.Native.Nat.{ℕ, zero, suc, ◌+◌, ◌≤◌, ◌<◌}
use native.Mathlib.Omega.{arith}
use lib.Dec.{eqb}
use lib.ListN.{length, get_or}
use borrow.Author.Tests.{eqb-true, eqb-false, eq-eqb, ne_eqb}
use Rattle.rules.specs.Lists.{count, any, crossings}
use Rattle.rules.proofs.Counting.{count_all, some_of_count}

pub eqb_swap : (a b : ℕ) → eqb a b ≡ eqb b a
eqb_swap a b = go (eqb a b) refl
  where
    go : (c : Bool) → eqb a b ≡ c → c ≡ eqb b a
    go true e = sym (eq-eqb b a (sym (eqb-true a b e)))
    go false e = sym (ne_eqb b a (λ q. eqb-false a b e (sym q)))

-- a test that a crossed edge passes is passed by some edge of the path
pub crossed_any : (q : ℕ → Bool) (e : ℕ) (path : List ℕ) → 0 < crossings e path → q e ≡ true → any q path ≡ true
unfolding crossings count any
crossed_any q e [] h t = absurd (omega arith)
crossed_any q e (x ∷ path) h t = go (eqb e x) refl h (crossed_any q e path)
  where
    either : (b c : Bool) → c ≡ true → (b || c) ≡ true
    either true c y = refl
    either false c y = y

    go : (b : Bool) → eqb e x ≡ b → 0 < cond b 1 0 + count (eqb e) path → (0 < count (eqb e) path → q e ≡ true → any q path ≡ true) → (q x || any q path) ≡ true
    go true y h rec = let t' : q x ≡ true = rw (eqb-true e x y) at t in rw t' refl
    go false y h rec = either (q x) (any q path) (rec (omega arith) t)

pub crosses_any : (e : ℕ) (path : List ℕ) → 0 < crossings e path → any (eqb e) path ≡ true
crosses_any e path h = crossed_any (eqb e) e path h (eq-eqb e e refl)

pub any_crosses : (e : ℕ) (path : List ℕ) → any (eqb e) path ≡ true → 0 < crossings e path
unfolding crossings count any
any_crosses e [] h = absurd (true≢false (sym h))
any_crosses e (x ∷ path) h = go (eqb e x) h (any_crosses e path)
  where
    go : (b : Bool) → (b || any (eqb e) path) ≡ true → (any (eqb e) path ≡ true → 0 < count (eqb e) path) → 0 < cond b 1 0 + count (eqb e) path
    go true y rec = omega arith
    go false y rec = omega (arith, rec y)

-- a path crosses each of its edges
pub crosses_at : (path : List ℕ) (k : ℕ) → k < length path → 0 < crossings (get_or path k 0) path
unfolding crossings count
crosses_at [] k h = absurd (omega arith)
crosses_at (x ∷ path) zero h = let z : eqb x x ≡ true = eq-eqb x x refl in rw z (omega arith)
crosses_at (x ∷ path) (suc k) h = omega (arith, crosses_at path k (omega arith))

-- and no others
pub crosses_some : (e : ℕ) (path : List ℕ) → 0 < crossings e path → (k : ℕ) × (k < length path) × (get_or path k 0 ≡ e)
unfolding crossings
crosses_some e path h = let r = some_of_count (eqb e) path 0 h in (r.0, r.1, sym (eqb-true e (get_or path r.0 0) r.2))

-- no path crosses an edge more often than it is long
pub crossings_length : (e : ℕ) (path : List ℕ) → crossings e path ≤ length path
unfolding crossings
crossings_length e path = count_all (eqb e) path
