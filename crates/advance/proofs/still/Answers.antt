-- `still` lets time pass under the loads of the last filling, which are right while rates are up to date. Assumes nothing.
use Rattle.advance.proofs.Loads.{fresh_load}
use Rattle.advance.proofs.still.Goals as goal

pub pass_time-requires : goal.pass_time-requires
pass_time-requires c = record { places = c.requires.sound.edge_places; right = fresh_load c.requires.sound c.requires.fresh }
