-- A drain changes neither what has been counted nor who is in flight, and counting changes nobody in flight. Assumes nothing.
use mathlib.Core.Path.{◌≡◌, ap}
use lib.Dec.{T}
use lib.Ieee.{Float}
use Rattle.doubles.specs.Doubles.{◌≼◌}
use Rattle.rules.specs.declared.Owner.{Owner}
use Rattle.rules.specs.declared.Tally.{Tally}
use Rattle.rules.specs.declared.Flows.{Flows}
use Rattle.rules.specs.Records.{num_in_flight, tally_of, with_totals, on_tally}
use Rattle.rules.specs.Clock.{drain_to}
use Rattle.rules.specs.Invariant.{ClockTime, Invariant}
use Rattle.keeps.proofs.Crowd.{same_count}
use Rattle.keeps.proofs.Draining.{drain_to_reaches}
use Rattle.keeps.proofs.Tally.{on_tally_is}

module _ {until : Float} {f : Flows} (inv : Invariant f) (time : ClockTime until) (later : T (f.clock.now ≼ until)) where
  pub still_counted : (owner : Owner) → tally_of owner (drain_to until f).totals ≡ tally_of owner f.totals
  still_counted owner = ap (tally_of owner) (drain_to_reaches inv time later).totals

  pub still_in_flight : num_in_flight (drain_to until f) ≡ num_in_flight f
  unfolding num_in_flight
  still_in_flight = same_count (drain_to_reaches inv time later).alike (λ w. w.taken)

pub counted_in_flight : (owner : Owner) (change : Tally → Tally) (f : Flows) → num_in_flight (on_tally owner change f) ≡ num_in_flight f
unfolding num_in_flight with_totals
counted_in_flight owner change f = ap num_in_flight (on_tally_is change owner f)
