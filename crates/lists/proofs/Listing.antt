-- What the list of owners gives, by how many they are and how long the buffer is. Assumes nothing.
use mathlib.Core.Path.{◌≡◌, refl}
use mathlib.Core.List.{List}
use Prim.Native.Nat.{ℕ, ◌*◌, ◌≤◌, ◌<◌}
use borrow.Author.Tests.{lt-ltb, le-ltb}
use lib.ListN.{length}
use Rattle.rules.specs.declared.Answer.TheVariants.{Listed}
use Rattle.rules.specs.declared.Flows.{Flows}
use Rattle.rules.specs.Lists.{write_front}
use Rattle.rules.specs.Records.{waiting}
use Rattle.rules.specs.Refusals.{refusing, answering, lent, refused_lent}
use Rattle.rules.specs.Queue.{owners, pairs, owners_with_completions}

module _ (f : Flows) (buffer : List ℕ) (n : ℕ) (e : n ≡ length (owners (waiting f))) where
  pub owners_short : length buffer < 2 * n → owners_with_completions f buffer ≡ refused_lent f buffer 8
  unfolding owners_with_completions refusing
  owners_short l = rw (← e, lt-ltb (length buffer) (2 * n) l) refl

  pub owners_all : 2 * n ≤ length buffer → owners_with_completions f buffer ≡ lent (answering (Listed n) f) (write_front (pairs (owners (waiting f))) buffer)
  unfolding owners_with_completions refusing
  owners_all l = rw (← e, le-ltb (length buffer) (2 * n) l) refl
