-- `num_unfrozen` counts by the library, which counts as the definition does. Assumes nothing.
use mathlib.Core.Path.{◌≡◌, refl, ◌∙◌}
use Rattle.std.proofs.Common.{rules}
use Rattle.std.specs.List.{count_by}
use Rattle.rules.proofs.Chains.{count_is}
use Rattle.filling.proofs.num_unfrozen.Goals as goal

pub returns-clause-exactly : goal.returns-clause-exactly
returns-clause-exactly c =
    let counted : c.count.result ≡ count_by (λ s. s.unfrozen) c.args.seats.now = search rules in
    counted ∙ count_is (λ s. refl) _
