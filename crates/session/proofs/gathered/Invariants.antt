-- `session::gathered` meets its contract: the line never outgrows its buffer. Assumes nothing.
use Rattle.std.proofs.Common.{◌≤◌}
use Rattle.session.proofs.gathered.Given as goal

abbrev pub invariant-loop-b : goal.invariant-loop-b
invariant-loop-b l = l.line.len ≤ 4096
