-- A sound route lends a path whose every number is known. Assumes nothing.
use mathlib.Core.Path.{◌≡◌}
use Prim.Native.Nat.{ℕ, ◌≤◌, ◌<◌}
use mathlib.Core.List.{List}
use native.Mathlib.Omega.{arith}
use lib.ListN.{length, take, length-take}
use lib.Seq.{get_or-take}
use Rattle.rules.specs.declared.Route.{Route}
use Rattle.rules.specs.Invariant.{SoundRoute}
use Rattle.paths.specs.Known.{Known}

pub known_route : {n : ℕ} {r : Route} → SoundRoute n r → Known n (take r.len r.hops)
known_route {n} {r} sound = record { below = λ k h. let short : k < r.len = omega (arith, simp length-take at h) in rw (get_or-take r.len r.hops k 0 short) (sound.known k short) }

-- its places hold all of it
pub route_fits : {n : ℕ} {r : Route} → SoundRoute n r → r.len ≤ length r.hops
route_fits sound = omega (arith, sound.places, sound.short)

pub route_length : {n : ℕ} {r : Route} → SoundRoute n r → length (take r.len r.hops) ≡ r.len
route_length {n} {r} sound = simp length-take (omega (arith, sound.places, sound.short))

pub known_more : {n m : ℕ} {path : List ℕ} → n ≤ m → Known n path → Known m path
known_more h known = record { below = λ k q. omega (arith, known.below k q) }
