-- Under the invariant the slots can be filled. Assumes nothing.
use Rattle.rules.specs.declared.Flows.{Flows}
use Rattle.rules.specs.Invariant.{SoundCap, uncapped, Invariant}
use Rattle.rules.proofs.Routes.{of_slot, all_routes}
use Rattle.filling.specs.Filled.{Fillable}

pub fillable : (f : Flows) → Invariant f → Fillable f.in_flight
fillable f inv = record {
  paths = all_routes inv;
  caps = λ i. of_slot (λ t. SoundCap t.rate_cap) uncapped (inv.slots i) (λ e. ((inv.slots i).held e).cap);
}
