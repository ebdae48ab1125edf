-- The first n places of a table are n, and what a read past the end of one falls back on. Assumes nothing.
use mathlib.Core.Path.{◌≡◌}
use mathlib.Core.List.{List}
use Prim.Native.Nat.{ℕ, ◌≤◌}
use native.Mathlib.Omega.{arith}
use lib.ListN.{length, take, length-take}
use Rattle.rules.specs.declared.Owner.TheVariants.{Worker}
use Rattle.rules.specs.declared.Completion.{Completion}

-- What a read past the end of a table of completions falls back on; no such read is made, but the reads are told with it.
abbrev pub past_end : Completion
past_end = record { owner = Worker 0; id = 0 }

pub length_taken : {A : Type 0} (table : List A) (n : ℕ) → n ≤ length table → length (take n table) ≡ n
length_taken table n h = simp length-take (omega arith)
