-- `drain_slots` credits the edges from the slots as they were, then drains the slots, and notes the time. Assumes nothing.
use Rattle.rules.specs.Records.{with_edges, with_in_flight, with_clock, drain_noted}
use Rattle.rules.specs.Clock.{drain_slots}
use Rattle.rules.proofs.Routes.{all_routes}
use Rattle.clock.proofs.drain_slots.Goals as goal

pub delivered-flows-requires : goal.delivered-flows-requires
delivered-flows-requires c = all_routes c.requires

pub returns : goal.returns
unfolding drain_slots drain_noted with_edges with_in_flight with_clock
returns c = rw (c.delivered-flows.ensures, c.drained_all-flows.ensures)
