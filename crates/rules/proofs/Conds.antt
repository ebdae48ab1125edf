-- A fact of a choice, from that fact of what is chosen; and what two tests joined say of each. Assumes nothing.
use mathlib.Core.Path.{◌≡◌, refl, sym, subst}
use mathlib.Core.Logic.{◌⊎◌, inl, inr}
use mathlib.Core.Bool.{Bool, true, false, ◌&&◌, ◌||◌, cond, true≢false}
use lib.Dec.{T}

pub by_test : {A : Type 0} (P : A → Type 0) (b : Bool) {x y : A} → (T b → P x) → P y → P (cond b x y)
by_test P true p q = p tt
by_test P false p q = q

pub by_true : {A : Type 0} (P : A → Type 0) (b : Bool) {x : A} (y : A) → b ≡ true → P x → P (cond b x y)
by_true P b {x} y e p = subst (λ (c : Bool). P (cond c x y)) (sym e) p

pub both : (a b : Bool) → (a && b) ≡ true → (a ≡ true) × (b ≡ true)
both true b e = (refl, e)
both false b e = absurd (true≢false (sym e))

pub either : (a b : Bool) → (a || b) ≡ true → (a ≡ true) ⊎ (b ≡ true)
either true b e = inl refl
either false b e = inr e
