-- `loads` raises the counters seat by seat: what is counted and the load of the seats left make up the whole. Assumes nothing.
use Rattle.rounds.proofs.Loading.{Counting}
use Rattle.filling.proofs.loads.Given as goal

abbrev pub invariant-loop-s : goal.invariant-loop-s
invariant-loop-s l = Counting l.seats l.load l.s-index
