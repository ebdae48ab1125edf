-- `session_dumps::route` meets its contract: nine numbers at most, of at most 21 bytes each. Assumes nothing.
use Rattle.std.proofs.Common.{◌+◌, ◌*◌, ◌≤◌, length}
use Rattle.session_dumps.proofs.route.Given as goal

abbrev pub invariant-loop-edge : goal.invariant-loop-edge
invariant-loop-edge l = l.page.len ≤ l.initial.page.len + 21 * length l.yielded
