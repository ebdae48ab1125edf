-- `drain_to` takes the loads before the slots are drained, and draining does not change them. Assumes nothing.
use mathlib.Core.Path.{◌∙◌}
use Rattle.clock.proofs.Busy.{drained_places, drained_loads}
use Rattle.clock.proofs.Kept.{drain_kept}
use Rattle.rules.specs.Clock.{drain_to}
use Rattle.rules.proofs.Routes.{all_routes, all_room}
use Rattle.clock.proofs.drain_to.Goals as goal

pub edge_loads-load-requires : goal.edge_loads-load-requires
edge_loads-load-requires c = record { routes = all_routes c.rated_for.ensures.sound; room = all_room c.rated_for.ensures.sound }

pub pass_time-requires : goal.pass_time-requires
pass_time-requires c =
    let places = c.rated_for.ensures.sound.edge_places in record { places = rw c.drain_slots.ensures (drained_places _ c.rated_for.new.flows ∙ places); right = rw (c.drain_slots.ensures, c.edge_loads-load.ensures) (drained_loads _ c.rated_for.new.flows places) }

pub returns : goal.returns
unfolding drain_to
returns c = let both = drain_kept c.requires.sound c.requires.time c.requires.later (rw (c.pass_time.ensures, c.drain_slots.ensures, c.rated_for.ensures.exactly)) in record { exactly = both.0; sound = both.1 }
