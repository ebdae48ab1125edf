-- `more_digits` meets its contract: what was read, with what is left read on behind it, is the whole word read. Assumes nothing.
use Rattle.std.proofs.Common.{◌≡◌, drop, Some}
use mathlib.Core.List.{foldl}
use Rattle.session_numbers.specs.Numbers.{more}
use Rattle.session_numbers.proofs.more_digits.Given as goal

abbrev pub invariant-loop-b : goal.invariant-loop-b
invariant-loop-b l = foldl (more l.base) (Some l.n) (drop l.b-index l.word) ≡ foldl (more l.base) (Some l.first) l.word
