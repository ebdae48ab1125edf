-- `num_taken` counts by the library, which counts as the definition does. Assumes nothing.
use mathlib.Core.Path.{◌≡◌, refl, ◌∙◌}
use Rattle.std.proofs.Common.{rules}
use Rattle.std.specs.List.{count_by}
use Rattle.rules.proofs.Chains.{count_is}
use Rattle.slots.proofs.num_taken.Goals as goal

pub returns-clause-exactly : goal.returns-clause-exactly
returns-clause-exactly c =
    let counted : c.count.result ≡ count_by (λ t. t.taken) c.args.in_flight.now = search rules in
    counted ∙ count_is (λ t. refl) _
