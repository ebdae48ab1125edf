-- What the laws ask of a way to read paths. Assumes nothing.
use mathlib.Core.Path.{◌≡◌}
use mathlib.Core.List.{List}
use Prim.Native.Nat.{ℕ}
use lib.Ieee.{Float}
use Rattle.rules.specs.declared.Limit.{Limit}
use Rattle.rules.specs.declared.Transfer.{Transfer}
use Rattle.rules.specs.Filling.{with_rate}

-- What of a transfer stays when it is given a rate and a limit.
abbrev pub Steady : {A : Type 0} → (Transfer → A) → Type 0
Steady g = (rate : Float) (limit : Limit) (t : Transfer) → g (with_rate rate limit t) ≡ g t

-- A transfer keeps its path when it is given a rate.
abbrev pub KeepsPath : (Transfer → List ℕ) → Type 0
KeepsPath path = Steady path
