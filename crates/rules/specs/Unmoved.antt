-- Which calls touch the simulator, and which answers promise that nothing has changed. (01, Numbers; 02, P10) Definitions only.
use Rattle.std.specs.Prelude.{Bool, true, false}
use Rattle.rules.specs.declared.Answer.{Answer}
use Rattle.rules.specs.declared.Answer.TheVariants.{Done, Added, Listed, Nothing, Unknown, CannotFinish, Value, Due, Limited, Refused}
use Rattle.rules.specs.declared.Call.{Call}
use Rattle.rules.specs.declared.Call.TheVariants.{Advance, Submit, Cancel, AddEdge, Widen, TakeCompleted, OwnersWithCompletions, NextCompletionDelay, EstimateNew, Settle, Remaining, MeanInFlight, Rate, Bottleneck, Edge, Contains, Rounds}
use Rattle.rules.specs.declared.EdgeRead.TheVariants as EdgeRead_variants
use Rattle.rules.specs.declared.Said.{Said}
use Rattle.rules.specs.declared.Said.TheVariants as Said_variants

-- A refusal, an unknown id, or nothing waiting. (01, Numbers)
unfoldable pub is_no : Answer → Bool
is_no Done = false
is_no (Added n) = false
is_no (Listed n) = false
is_no Nothing = true
is_no Unknown = true
is_no CannotFinish = false
is_no (Value x) = false
is_no (Due d) = false
is_no (Limited l) = false
is_no (Refused n) = true

-- The same of whatever was said; an edge that there is not is refused, too. (01, Numbers)
unfoldable pub says_no : Said → Bool
says_no (Said_variants.Answered answer) = is_no answer
says_no (Said_variants.Edge (EdgeRead_variants.Found e)) = false
says_no (Said_variants.Edge (EdgeRead_variants.Refused n)) = true
says_no (Said_variants.TimeLeft t) = is_no t.answer
says_no (Said_variants.Truth b) = false
says_no (Said_variants.Number n) = false

-- How a call touches the simulator.
pub data Touch : Type 0 where
  -- it only reads
  Reads : Touch
  -- it does its work, or says no and has left everything as it was
  Works : Touch
  -- it fills or drains, whatever it says
  Refreshes : Touch

-- How each call does. Asking for a rate or a bottleneck, of an unknown id too, or for the next completion still brings rates up to date. (01, Numbers and Questions; 02, P4 and P10)
unfoldable pub touch : Call → Touch
touch (Advance T) = Works
touch (Submit submission) = Works
touch (Cancel id) = Works
touch (AddEdge capacity) = Works
touch (Widen e amount) = Works
touch (TakeCompleted owner) = Works
touch OwnersWithCompletions = Reads
touch NextCompletionDelay = Refreshes
touch (EstimateNew e) = Reads
touch Settle = Refreshes
touch (Remaining id) = Reads
touch (MeanInFlight e until) = Reads
touch (Rate id) = Refreshes
touch (Bottleneck id) = Refreshes
touch (Edge e) = Reads
touch (Contains id) = Reads
touch Rounds = Reads

-- Whether a call that touches so, with that answer, is promised to have left the simulator as it was. (01, Numbers)
unfoldable pub unmoved : Touch → Said → Bool
unmoved Reads s = true
unmoved Works s = says_no s
unmoved Refreshes s = false

-- Whether it never touches the simulator, so that it may watch any run. (02, P10)
unfoldable pub only_reads : Touch → Bool
only_reads Reads = true
only_reads Works = false
only_reads Refreshes = false
