-- What draining all slots keeps: every slot is drained by itself, a free one stays, and nothing that is counted over the slots changes. Assumes nothing.
use mathlib.Core.Path.{◌≡◌, refl, sym, ap, ◌∙◌, subst}
use mathlib.Core.Bool.{Bool, cond}
use mathlib.Core.List.{List, [], ◌∷◌, map}
use Prim.Native.Nat.{ℕ, zero, suc, ◌≤◌}
use native.Mathlib.Omega.{arith}
use lib.Dec.{T}
use lib.ListN.{get_or, take}
use lib.Ieee.{Float}
use Rattle.doubles.specs.Doubles.{◌≼◌, Plain}
use Rattle.rules.specs.declared.Route.{Route}
use Rattle.rules.specs.declared.Transfer.{Transfer}
use Rattle.rules.specs.declared.Flows.{Flows}
use Rattle.rules.specs.Lists.{Each, sum, crossings}
use Rattle.rules.specs.Records.{free, own_path}
use Rattle.rules.specs.Clock.{crossings_by, counts_in_loads, drained}
use Rattle.rules.specs.Invariant.{SoundSlot}
use Rattle.keeps.proofs.OneDrained.{Same, drained_same, drained_free, slot_kept}

-- where the blank goes to the blank, every place is put through g
pub map_at : {A : Type 0} (g : A → A) (blank : A) → g blank ≡ blank → (xs : List A) (i : ℕ) → get_or (map g xs) i blank ≡ g (get_or xs i blank)
map_at g blank e [] i = sym e
map_at g blank e (x ∷ xs) zero = refl
map_at g blank e (x ∷ xs) (suc i) = map_at g blank e xs i

-- ---- slots
module _ (until : Float) (slots : List Transfer) where
  pub drained_at : (i : ℕ) → get_or (map (drained until) slots) i free ≡ drained until (get_or slots i free)
  drained_at = map_at (drained until) free (drained_free until free refl) slots

-- what a drain does not touch adds up to the same
pub sum_drained : (until : Float) (m : Transfer → ℕ) → ((t u : Transfer) → Same t u → m u ≡ m t) → (slots : List Transfer) → sum (map m (map (drained until) slots)) ≡ sum (map m slots)
unfolding sum
sum_drained until m k [] = refl
sum_drained until m k (t ∷ slots) = omega (arith, k t (drained until t) (drained_same until t), sum_drained until m k slots)

pub crossings_drained : (until : Float) (slots : List Transfer) (e : ℕ) → crossings_by counts_in_loads own_path (map (drained until) slots) e ≡ crossings_by counts_in_loads own_path slots e
unfolding crossings_by counts_in_loads own_path
crossings_drained until slots e =
    sum_drained until (λ t. cond t.taken (crossings e (take t.path.len t.path.hops)) 0)
    (λ t u s. ap (λ (b : Bool). cond b (crossings e (take u.path.len u.path.hops)) 0) s.taken ∙ ap (λ (r : Route). cond t.taken (crossings e (take r.len r.hops)) 0) s.path)
    slots

-- every slot stays sound, in a simulator with no fewer edges that was last drained at that time
pub slots_kept : {f : Flows} (g : Flows) (until : Float) (slots : List Transfer) → Plain f.clock.last_drain → Plain until → T (f.clock.last_drain ≼ until) → f.num_edges ≤ g.num_edges → g.clock.last_drain ≡ until → Each (SoundSlot f) free slots → Each (SoundSlot g) free (map (drained until) slots)
slots_kept g until slots d p h more at each i = subst (SoundSlot g) (sym (drained_at until slots i)) (slot_kept g until d p h more at (each i))
