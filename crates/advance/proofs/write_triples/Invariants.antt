-- `write_triples` stores three numbers an entry: those stored, and the triples left written behind them, make the list at the front. Assumes nothing.
use mathlib.Core.Path.{◌≡◌}
use Prim.Native.Nat.{◌*◌}
use lib.ListN.{drop}
use Rattle.rules.specs.Lists.{write_front}
use Rattle.rules.specs.Queue.{triples}
use Rattle.rules.proofs.Fronts.{written}
use Rattle.advance.proofs.write_triples.Given as goal

abbrev pub invariant-loop-i : goal.invariant-loop-i
invariant-loop-i l = written (3 * l.i) (triples (drop l.i l.list)) l.out ≡ write_front (triples l.list) l.initial.out
