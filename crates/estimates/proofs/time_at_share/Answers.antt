-- `time_at_share` is the definition, test by test. Assumes nothing.
use mathlib.Core.Path.{sym, ◌∙◌}
use lib.Ieee.{of_bits}
use Rattle.rules.specs.Questions.{time_at_share}
use Rattle.estimates.proofs.time_at_share.Goals.{then-share, else-share}
use Rattle.estimates.proofs.time_at_share.Goals as goal

pub returns-then-not-is_finite : goal.returns-then-not-is_finite
unfolding time_at_share of_bits
returns-then-not-is_finite c = elim c.if-share.branch [
  | then-share w ↦ rw w.if-share.true
  | else-share w ↦ rw (w.if-share.false, ← w.is_finite.ensures, sym w.value-is ∙ c.if-not-is_finite.true)
]
