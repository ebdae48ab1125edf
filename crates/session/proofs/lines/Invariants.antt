-- `session::lines` meets its contract and ends: each turn passes the end of a line. Assumes nothing.
use Rattle.std.proofs.Common.{◌≤◌, length}
use Rattle.rules.specs.Invariant.{Invariant}
use Rattle.session.proofs.lines.Given as goal

abbrev pub invariant-loop-end : goal.invariant-loop-end
invariant-loop-end g l = Invariant l.flows × (l.line.len ≤ 4096)

abbrev pub decreases-loop-end : goal.decreases-loop-end
decreases-loop-end g l = length l.rest
