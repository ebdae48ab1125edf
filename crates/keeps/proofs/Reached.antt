-- A simulator drained to a time, beside what it was: who is in flight, how many edges with which capacities, what waits and what was counted are the same. Assumes
-- nothing.
use mathlib.Core.Path.{◌≡◌}
use mathlib.Core.List.{[], map}
use lib.Ieee.{Float}
use Rattle.rules.specs.declared.Flows.{Flows}
use Rattle.keeps.proofs.Crowd.{Alike}
use Rattle.keeps.proofs.Drained.{Drained}

pub record Reached (T : Float) (f g : Flows) : Type 0 where
  pub drained : Drained [] g
  pub now : g.clock.now ≡ T
  pub alike : Alike f.in_flight g.in_flight
  pub edges : g.num_edges ≡ f.num_edges
  pub capacities : map (λ e. e.capacity) g.edges ≡ map (λ e. e.capacity) f.edges
  pub waiting : g.num_completed ≡ f.num_completed
  pub totals : g.totals ≡ f.totals
