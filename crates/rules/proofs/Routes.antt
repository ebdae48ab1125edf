-- The paths of all slots are sound for the whole table of edges, the blank's too: what the invariant gives to a pass over the slots. Assumes nothing.
use mathlib.Core.Path.{◌≡◌, refl, sym, subst}
use mathlib.Core.Bool.{Bool, true, false}
use mathlib.Core.List.{List, map}
use Prim.Native.Nat.{ℕ, ◌≤◌, ◌<◌}
use native.Mathlib.Omega.{arith}
use lib.ListN.{length, get_or}
use Rattle.rules.specs.declared.Route.{Route}
use Rattle.rules.specs.declared.Transfer.{Transfer}
use Rattle.rules.specs.declared.Flows.{Flows}
use Rattle.rules.specs.Lists.{Each, sum}
use Rattle.rules.specs.Records.{free, own_path}
use Rattle.rules.specs.Invariant.{Invariant, SoundRoute, SoundSlot}
use Rattle.rules.proofs.Each.{each_same}
use Rattle.rules.proofs.Steps.{get_d_any}

pub route_more : {n m : ℕ} {r : Route} → n ≤ m → SoundRoute n r → SoundRoute m r
route_more h s = record { places = s.places; short = s.short; known = λ k q. omega (arith, s.known k q); blank = s.blank }

pub free_route : (n : ℕ) → SoundRoute n free.path
free_route n = record { places = refl; short = omega arith; known = λ k q. absurd (omega arith); blank = λ k h. each_same (λ (z : ℕ). z ≡ 0) 0 8 0 refl refl k }

-- a slot's fact, by whether it is taken
pub of_slot : {f : Flows} {t : Transfer} (P : Transfer → Type 0) → P free → SoundSlot f t → (t.taken ≡ true → P t) → P t
of_slot {f} {t} P blank slot held = go t.taken refl
  where
    go : (b : Bool) → t.taken ≡ b → P t
    go true e = held e
    go false e = subst P (sym (slot.blank e)) blank

pub all_routes : {f : Flows} → Invariant f → Each (λ t. SoundRoute 64 t.path) free f.in_flight
all_routes inv i = of_slot (λ t. SoundRoute 64 t.path) (free_route 64) (inv.slots i) (λ e. route_more inv.few_edges ((inv.slots i).held e).path)

-- and together they are short enough to be counted
pub all_room : {f : Flows} → Invariant f → sum (map (λ t. length (own_path t)) f.in_flight) ≤ 2048
all_room inv = inv.path_room

-- the path of a slot that is read, whatever the read falls back on
pub route_at : (slots : List Transfer) (i : ℕ) (d : Transfer) → Each (λ t. SoundRoute 64 t.path) free slots → i < length slots → SoundRoute 64 (get_or slots i d).path
route_at slots i d each h = subst (λ (t : Transfer). SoundRoute 64 t.path) (get_d_any slots i free d h) (each i)
