-- `write_ids` stores an id for each entry that is the owner's: those stored, and the ids left written behind them, make the list at the front. Assumes nothing.
use mathlib.Core.Path.{◌≡◌}
use mathlib.Core.List.{List, map}
use Prim.Native.Nat.{ℕ, ◌+◌, ◌≤◌}
use lib.ListN.{length, drop}
use Rattle.rules.specs.declared.Completion.{Completion}
use Rattle.rules.specs.Lists.{count, those, write_front}
use Rattle.rules.specs.Queue.{belongs}
use Rattle.rules.proofs.Fronts.{written}
use Rattle.collecting.proofs.write_ids.Given as goal

abbrev pub ids : List Completion → List ℕ
ids list = map (λ c. c.id) list

abbrev pub invariant-loop-c : goal.invariant-loop-c
invariant-loop-c l = (l.k ≤ l.c-index) × (length l.out ≡ length l.initial.out) × (l.k + count (belongs l.owner) (drop l.c-index l.waiting) ≤ length l.out) × (written l.k (ids (those (belongs l.owner) (drop l.c-index l.waiting))) l.out ≡ write_front (ids (those (belongs l.owner) l.waiting)) l.initial.out)
