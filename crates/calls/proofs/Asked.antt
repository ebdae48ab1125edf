-- Who has something to collect is asked without a change, so its outcome is what a question makes. Assumes nothing.
use mathlib.Core.Path.{◌≡◌, sym, ap}
use mathlib.Core.List.{List}
use Prim.Native.Nat.{ℕ}
use Rattle.rules.specs.declared.Flows.{Flows}
use Rattle.rules.specs.declared.Said.TheVariants.{Answered}
use Rattle.rules.specs.Queue.{owners_with_completions}
use Rattle.rules.specs.Histories.{changing, asking}
use Rattle.keeps.proofs.Unmoved.{owners_still}

pub owners_asked : (f : Flows) (buffer : List ℕ) → let o = (owners_with_completions f buffer).outcome in asking f (Answered o.answer) ≡ changing o
owners_asked f buffer = ap (λ (g : Flows). asking g (Answered (owners_with_completions f buffer).outcome.answer)) (sym (owners_still f buffer))
