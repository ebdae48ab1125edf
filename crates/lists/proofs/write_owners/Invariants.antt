-- `write_owners` stores two numbers an owner, at its last entry, which is where its definition keeps it: those stored, and the pairs left written behind them, make
-- the list at the front. Assumes nothing.
use mathlib.Core.Path.{◌≡◌}
use Prim.Native.Nat.{◌+◌, ◌*◌, ◌≤◌}
use lib.ListN.{length, drop}
use Rattle.rules.specs.Lists.{write_front}
use Rattle.rules.specs.Queue.{owners, pairs}
use Rattle.rules.proofs.Fronts.{written}
use Rattle.lists.proofs.write_owners.Given as goal

abbrev pub invariant-loop-i : goal.invariant-loop-i
invariant-loop-i l = (l.k ≤ 2 * l.i) × (length l.out ≡ length l.initial.out) × (l.k + 2 * length (owners (drop l.i l.waiting)) ≤ length l.out) × (written l.k (pairs (owners (drop l.i l.waiting))) l.out ≡ write_front (pairs (owners l.waiting)) l.initial.out)
