-- Putting a tally through a change is putting the changed tally in its place. Assumes nothing.
use mathlib.Core.Path.{◌≡◌, refl, ap, ◌∙◌}
use Rattle.rules.specs.declared.Owner.{Owner}
use Rattle.rules.specs.declared.Owner.TheVariants.{Worker, Handoff, Write}
use Rattle.rules.specs.declared.Tally.{Tally}
use Rattle.rules.specs.declared.Flows.{Flows}
use Rattle.rules.specs.Records.{tally_of, on_tally}

changed_tally : (owner : Owner) (change : Tally → Tally) (f : Flows) → on_tally owner (λ y. change (tally_of owner f.totals)) f ≡ on_tally owner change f
unfolding on_tally tally_of
changed_tally (Worker n) change f = refl
changed_tally Handoff change f = refl
changed_tally Write change f = refl

pub by_change : (owner : Owner) (change : Tally → Tally) (f r : Flows) → (tally : Tally) × (tally ≡ change (tally_of owner f.totals)) × (r ≡ on_tally owner (λ y. tally) f) → r ≡ on_tally owner change f
by_change owner change f r w = w.2 ∙ ap (λ (t : Tally). on_tally owner (λ y. t) f) w.1 ∙ changed_tally owner change f
