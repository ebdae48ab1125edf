-- `num_owners` counts each owner at its last entry, which is where its definition keeps it: what is counted, and what is left to count, make the whole.
-- Assumes nothing.
use mathlib.Core.Path.{◌≡◌}
use Prim.Native.Nat.{◌+◌, ◌≤◌}
use lib.ListN.{length, drop}
use Rattle.rules.specs.Queue.{owners}
use Rattle.lists.proofs.num_owners.Given as goal

abbrev pub invariant-loop-i : goal.invariant-loop-i
invariant-loop-i l = (l.found ≤ l.i) × (l.found + length (owners (drop l.i l.waiting)) ≡ length (owners l.waiting))
