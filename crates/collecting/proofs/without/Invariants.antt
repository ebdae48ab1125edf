-- `without` stores each entry that is another's: those stored, and those left written behind them, make the list at the front of a table of blanks. Assumes nothing.
use mathlib.Core.Path.{◌≡◌}
use mathlib.Core.Bool.{not}
use mathlib.Core.List.{List}
use Prim.Native.Nat.{◌+◌, ◌≤◌}
use lib.ListN.{length, drop}
use Rattle.rules.specs.declared.Owner.{Owner}
use Rattle.rules.specs.declared.Completion.{Completion}
use Rattle.rules.specs.Lists.{those, write_front}
use Rattle.rules.specs.Queue.{belongs}
use Rattle.rules.proofs.Fronts.{written}
use Rattle.collecting.proofs.without.Given as goal

abbrev pub others : Owner → List Completion → List Completion
others owner list = those (λ c. not (belongs owner c)) list

abbrev pub invariant-loop-c : goal.invariant-loop-c
invariant-loop-c l = (l.count ≤ l.c-index) × (length l.entries ≡ 256) × (l.count + length (others l.owner (drop l.c-index l.waiting)) ≡ length (others l.owner l.waiting)) × (written l.count (others l.owner (drop l.c-index l.waiting)) l.entries ≡ write_front (others l.owner l.waiting) l.initial.entries)
