-- `entered` asks whether the path is empty: its length says so, since the route is sound. Assumes nothing.
use mathlib.Core.Path.{◌≡◌, refl}
use mathlib.Core.Bool.{true, false}
use mathlib.Core.List.{List, [], ◌∷◌}
use Prim.Native.Nat.{ℕ, zero, suc, ◌≤◌}
use lib.ListN.{length, take}
use Rattle.rules.specs.declared.Limit.TheVariants.{Nowhere}
use Rattle.rules.specs.declared.Transfer.{Transfer}
use Rattle.rules.specs.Records.{own_path}
use Rattle.rules.specs.Filling.{with_rate, lone_rate, entered}
use native.Mathlib.Omega.{arith}
use Rattle.filling.proofs.entered.Goals as goal

alone : (t : Transfer) (n : ℕ) (hops : List ℕ) → n ≡ 0 → record { transfer = with_rate (lone_rate t.rate_cap) Nowhere t; unfrozen = false } ≡ entered (take n hops) t
unfolding entered
alone t n hops z = rw z refl

shares : (t : Transfer) (n : ℕ) (hops : List ℕ) → (n ≡ 0 → ⊥) → 1 ≤ length hops → record { transfer = t; unfrozen = true } ≡ entered (take n hops) t
unfolding entered
shares t zero hops h l = absurd (h refl)
shares t (suc n) [] h l = absurd (omega arith)
shares t (suc n) (e ∷ hops) h l = refl

pub returns-then-t-eq0 : goal.returns-then-t-eq0
unfolding own_path
returns-then-t-eq0 c = rw (c.with_rate.ensures, c.lone_rate.ensures) (alone c.args.t c.args.t.path.len c.args.t.path.hops c.if-t-eq0.true)

pub returns : goal.returns
unfolding own_path
returns c = shares c.args.t c.args.t.path.len c.args.t.path.hops c.if-t-eq0.false (omega (arith, c.requires.places))
