-- `session_told::width` is the definition: whatever call is none of the three lists nothing. Assumes nothing.
use Rattle.std.proofs.Common.{◌≡◌, refl}
use Rattle.std.specs.Float.Ieee.{Float}
use Rattle.rules.specs.declared.Owner.{Owner}
use Rattle.rules.specs.declared.Call.{Call}
use Rattle.rules.specs.declared.Call.TheVariants.{Advance, TakeCompleted, OwnersWithCompletions}
use Rattle.flows.specs.Fits.{width_of}
use Rattle.session_told.proofs.width.Goals as goal

no_list : (call : Call) → ((time : Float) → call ≡ Advance time → ⊥) → ((owner : Owner) → call ≡ TakeCompleted owner → ⊥) → (call ≡ OwnersWithCompletions → ⊥) → 0 ≡ width_of call
unfolding width_of
no_list (Advance time) a t o = absurd (a time refl)
no_list (TakeCompleted owner) a t o = absurd (t owner refl)
no_list OwnersWithCompletions a t o = absurd (o refl)
no_list _ a t o = refl

pub returns-in_default : goal.returns-in_default
returns-in_default c = no_list c.args.call c.in_default.not-Advance c.in_default.not-TakeCompleted c.in_default.not-OwnersWithCompletions
