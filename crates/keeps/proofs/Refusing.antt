-- A call that refuses leaves what it had, so a fact of its outcome is shown of that and, where no cause applies, of the work. Assumes nothing.
use Prim.Native.Nat.{ℕ}
use native.Mathlib.Omega.{arith}
use mathlib.Core.Path.{◌≡◌, refl}
use mathlib.Core.Bool.{Bool, true, false, ◌||◌}
use mathlib.Core.List.{List, [], ◌∷◌}
use Rattle.rules.specs.Refusals.{Cause, ◌when◌, refusing}

-- No cause of a list applies.
abbrev pub None : List Cause → Type 0
None [] = Unit {0}
None ((n when applies) ∷ causes) = (applies ≡ false) × None causes

pub refused_or : {A : Type 0} (P : A → Type 0) (causes : List Cause) (refused : ℕ → A) (work : A) → ((n : ℕ) → P (refused n)) → (None causes → P work) → P (refusing causes refused work)
unfolding refusing
refused_or P [] refused work left done = done tt
refused_or P ((n when true) ∷ causes) refused work left done = left n
refused_or P ((n when false) ∷ causes) refused work left done = refused_or P causes refused work left (λ none. done (refl, none))

-- ---- what a cause that does not apply tells

pub neither : (a b : Bool) → (a || b) ≡ false → (a ≡ false) × (b ≡ false)
neither false b h = (refl, h)
neither true b h = absurd (let z : ◌≡◌ {A = ℕ} 0 1 = cc in omega (arith, z))
