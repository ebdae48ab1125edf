-- `session_told::entries` meets its contract: each number takes at most eleven bytes. Assumes nothing.
use Rattle.std.proofs.Common.{◌+◌, ◌*◌, ◌≤◌}
use Rattle.session_told.proofs.entries.Given as goal

abbrev pub invariant-loop-n : goal.invariant-loop-n
invariant-loop-n l = l.page.len ≤ l.initial.page.len + 11 * l.n-index
