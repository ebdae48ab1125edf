-- The bytes moved over each edge, kept apart from the edges during a drain. Definitions only.
use Rattle.std.specs.Prelude.{cond, List, Float}
use Rattle.doubles.specs.Doubles.{◌⊕◌}
use Rattle.rules.specs.declared.Edge.{Edge}
use Rattle.rules.specs.declared.Transfer.{Transfer}
use Rattle.rules.specs.Lists.{at_each_crossing}
use Rattle.rules.specs.Records.{own_path}
use Rattle.rules.specs.Clock.{moves, bytes_flowing}

-- The bytes moved over each edge, with what a transfer moves in a drain added at each of its crossings.
unfoldable pub credited : Float → List Float → Transfer → List Float
credited until moved t = cond (moves until t) (at_each_crossing (own_path t) (λ m. m ⊕ bytes_flowing until t) moved) moved

-- An edge with another sum of bytes moved.
unfoldable pub with_moved : Float → Edge → Edge
with_moved moved e = record { capacity = e.capacity; bytes_moved = moved; busy_transfer_seconds = e.busy_transfer_seconds }
