-- `num_waiting` counts by the library, which counts as the definition does. Assumes nothing.
use mathlib.Core.Path.{◌≡◌, refl, ◌∙◌}
use Rattle.std.proofs.Common.{rules}
use Rattle.std.specs.List.{count_by}
use Rattle.rules.specs.Queue.{belongs}
use Rattle.rules.proofs.Chains.{count_is}
use Rattle.collecting.proofs.num_waiting.Goals as goal

pub returns : goal.returns
returns c =
    let counted : c.count.result ≡ count_by (belongs c.args.owner) c.args.waiting.now = search rules in
    counted ∙ count_is (λ x. refl) _
