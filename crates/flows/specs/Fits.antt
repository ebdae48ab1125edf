-- How many numbers a call lists for each entry, and what fits a lent buffer. Definitions only.
use Rattle.std.specs.Prelude.{ℕ, ◌*◌, ◌≤◌}
use Rattle.rules.specs.declared.Answer.{Answer}
use Rattle.rules.specs.declared.Answer.TheVariants.{Done, Added, Listed, Nothing, Unknown, CannotFinish, Value, Due, Limited, Refused}
use Rattle.rules.specs.declared.Call.{Call}
use Rattle.rules.specs.declared.Call.TheVariants.{Advance, Submit, Cancel, AddEdge, Widen, TakeCompleted, OwnersWithCompletions, NextCompletionDelay, EstimateNew, Settle, Remaining, MeanInFlight, Rate, Bottleneck, Edge, Contains, Rounds}
use Rattle.rules.specs.declared.Said.{Said}
use Rattle.rules.specs.declared.Said.TheVariants as Said_variants

-- Kind, worker and id of what is done; an id that was taken; kind and worker of an owner. The other calls list nothing.
unfoldable pub width_of : Call → ℕ
width_of (Advance time) = 3
width_of (Submit s) = 0
width_of (Cancel id) = 0
width_of (AddEdge capacity) = 0
width_of (Widen e amount) = 0
width_of (TakeCompleted owner) = 1
width_of OwnersWithCompletions = 2
width_of NextCompletionDelay = 0
width_of (EstimateNew e) = 0
width_of Settle = 0
width_of (Remaining id) = 0
width_of (MeanInFlight e until) = 0
width_of (Rate id) = 0
width_of (Bottleneck id) = 0
width_of (Edge e) = 0
width_of (Contains id) = 0
width_of Rounds = 0

-- What an answer lists, at so many numbers an entry, has room in so many places. Any other answer lists nothing.
unfoldable pub Fits : ℕ → ℕ → Answer → Type 0
Fits width places Done = Unit {0}
Fits width places (Added n) = Unit {0}
Fits width places (Listed n) = n * width ≤ places
Fits width places Nothing = Unit {0}
Fits width places Unknown = Unit {0}
Fits width places CannotFinish = Unit {0}
Fits width places (Value x) = Unit {0}
Fits width places (Due d) = Unit {0}
Fits width places (Limited l) = Unit {0}
Fits width places (Refused n) = Unit {0}

-- The same of whatever was said.
unfoldable pub FitsSaid : ℕ → ℕ → Said → Type 0
FitsSaid width places (Said_variants.Answered answer) = Fits width places answer
FitsSaid width places (Said_variants.Edge e) = Unit {0}
FitsSaid width places (Said_variants.TimeLeft t) = Unit {0}
FitsSaid width places (Said_variants.Truth b) = Unit {0}
FitsSaid width places (Said_variants.Number n) = Unit {0}
