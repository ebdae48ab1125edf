-- What the floor has no part in: bringing up to date and draining give the same, whatever the floor and next_done were before, so two simulators that are equal but for these stay so.
-- Assumes nothing.
use mathlib.Core.Path.{◌≡◌, refl, sym, ap, ◌∙◌}
use mathlib.Core.Bool.{Bool, true, false, cond}
use lib.Ieee.{Float}
use Rattle.doubles.specs.Doubles.{◌⊖◌, ◌≺◌, nought}
use Rattle.rules.specs.declared.Flows.{Flows}
use Rattle.rules.specs.Records.{with_edges, with_in_flight, with_edge_load, with_clock, with_tolerance, at_time, drain_noted}
use Rattle.rules.specs.Clock.{edge_loads, with_rates, ensure_rates, pass_time, drain_slots, drain_to}
use Rattle.rules.specs.Promises.{but_for_floor, RatesWithoutFloor}

-- Two simulators that are equal but for the floor, and for next_done.
record Alike (f g : Flows) : Type 0 where
  pub same : but_for_floor f ≡ but_for_floor g

-- A step of the simulator in which the two have no part.
record Apart (step : Flows → Flows) : Type 0 where
  pub apart : (f : Flows) → Alike (step f) (step (but_for_floor f))

-- by a test that does not read them
either : (b : Bool) {f f' g g' : Flows} → Alike f f' → Alike g g' → Alike (cond b f g) (cond b f' g')
either true a b = a
either false a b = b

-- one such step and then another
then : {first second : Flows → Flows} → Apart first → Apart second → Apart (λ f. second (first f))
then {first} {second} a b = record {
  apart = λ f. record { same = (b.apart (first f)).same ∙ ap (λ (h : Flows). but_for_floor (second h)) (a.apart f).same ∙ sym (b.apart (first (but_for_floor f))).same };
}

alike : {step : Flows → Flows} → Apart step → (f g : Flows) → but_for_floor f ≡ but_for_floor g → but_for_floor (step f) ≡ but_for_floor (step g)
alike {step} a f g same = (a.apart f).same ∙ ap (λ (h : Flows). but_for_floor (step h)) same ∙ sym (a.apart g).same

unchanged : (f : Flows) → Alike f (but_for_floor f)
unfolding with_clock with_tolerance
unchanged f = record { same = refl }

up_to_date : Apart ensure_rates
unfolding ensure_rates with_rates edge_loads with_edge_load with_in_flight with_clock with_tolerance
up_to_date = record { apart = λ f. either f.clock.rates_dirty (record { same = refl }) (unchanged f) }

rated_for : (to : Float) → Apart (λ f. cond (f.clock.now ≺ to) (ensure_rates f) f)
unfolding with_clock with_tolerance
rated_for to = record { apart = λ f. either (f.clock.now ≺ to) (up_to_date.apart f) (unchanged f) }

slots_drained : (to : Float) → Apart (drain_slots to)
unfolding drain_slots drain_noted with_edges with_in_flight with_clock with_tolerance
slots_drained to = record { apart = λ f. record { same = refl } }

at_another_time : (to : Float) → Apart (at_time to)
unfolding at_time with_clock with_tolerance
at_another_time to = record { apart = λ f. record { same = refl } }

time_passed : (to : Float) → Apart (pass_time to)
unfolding pass_time with_edges with_clock with_tolerance
time_passed to = record {
  apart = λ f. record { same = alike (at_another_time to) _ _ (either (nought ≺ (to ⊖ f.clock.now)) (record { same = refl }) (unchanged f)).same };
}

drained : (to : Float) → Apart (drain_to to)
unfolding drain_to
drained to = record { apart = (then (then (rated_for to) (slots_drained to)) (time_passed to)).apart }

pub rates_without_floor : RatesWithoutFloor
rates_without_floor = record { up_to_date = alike up_to_date; drained = λ to. alike (drained to) }
