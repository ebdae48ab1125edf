-- What a test tells: one of the code that came out true passes, one that came out false passes negated, what holds in either case holds, and of two numbers one is at most the other or above it.
-- Assumes nothing.
use Rattle.std.proofs.Common.{◌≡◌, ℕ, ◌<◌, ◌≤◌, Bool, true, false, not, T, leb, ◌⊎◌, sym, subst, inl, inr, leb→le}
use lib.Dec.{nleb→lt}

pub passed : {b : Bool} → b ≡ true → T b
passed h = subst T (sym h) tt

pub failed : {b : Bool} → b ≡ false → T (not b)
failed h = subst (λ (b : Bool). T (not b)) (sym h) tt

pub by_test : (b : Bool) → (P : Bool → Type 0) → (T b → P true) → (T (not b) → P false) → P b
by_test true P h k = h tt
by_test false P h k = k tt

pub le_or_above : (a b : ℕ) → (a ≤ b) ⊎ (b < a)
le_or_above a b = go (leb a b) (leb→le a b) (nleb→lt a b)
  where
    go : (t : Bool) → (T t → a ≤ b) → (T (not t) → b < a) → (a ≤ b) ⊎ (b < a)
    go true h k = inl (h tt)
    go false h k = inr (k tt)
