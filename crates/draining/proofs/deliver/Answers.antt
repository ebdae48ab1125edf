-- `deliver` credits the path where the transfer moves, and nothing else. Assumes nothing.
use native.Mathlib.Omega.{arith}
use Rattle.rules.specs.Records.{own_path}
use Rattle.draining.specs.Credits.{credited}
use Rattle.paths.proofs.Routes.{known_route, known_more, route_fits}
use Rattle.draining.proofs.deliver.Goals as goal

pub hops-requires : goal.hops-requires
hops-requires c = route_fits c.requires

pub credit-requires : goal.credit-requires
credit-requires c = rw c.hops.ensures (known_more (omega arith) (known_route c.requires))

pub returns-then-moves : goal.returns-then-moves
unfolding credited own_path
returns-then-moves c = rw (← c.moves.ensures, c.if-moves.true, ← c.bytes_flowing.ensures, ← c.hops.ensures) c.credit.ensures

pub returns-else-moves : goal.returns-else-moves
unfolding credited
returns-else-moves c = rw (← c.moves.ensures, c.if-moves.false)
