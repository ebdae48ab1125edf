-- The time a transfer still takes: a call that settles the simulator at its clock, and a question that only reads. (02, P1 and P10) Definitions only.
use Rattle.std.specs.Prelude.{ℕ, Bool, ◌||◌, List, Float}
use Rattle.doubles.specs.Doubles.{◌≺◌}
use Rattle.rules.specs.declared.Delay.{Delay}
use Rattle.rules.specs.declared.Delay.TheVariants.{After, Never}
use Rattle.rules.specs.declared.Transfer.{Transfer}
use Rattle.rules.specs.declared.Answer.{Answer}
use Rattle.rules.specs.declared.Answer.TheVariants.{Done, Unknown, CannotFinish, Value}
use Rattle.rules.specs.declared.Clock.{Clock}
use Rattle.rules.specs.declared.Outcome.{Outcome}
use Rattle.rules.specs.declared.TimeLeft.{TimeLeft}
use Rattle.rules.specs.declared.Flows.{Flows}
use Rattle.rules.specs.Records.{of_id}
use Rattle.rules.specs.Done.{done_eps, time_to_done}
use Rattle.rules.specs.Clock.{ensure_rates, drained_to_clock}
use Rattle.rules.specs.Refusals.{answering}

-- Drained to the clock, and rates brought up to date; nothing is refused. (02, P10)
unfoldable pub settle : Flows → Outcome
settle f = answering Done (ensure_rates (drained_to_clock f))

-- A time to done as it is told: its seconds, which may be without end, or that there is none. (02, P1)
unfoldable pub or_cannot_finish : Delay → Answer
or_cannot_finish (After d) = Value d
or_cannot_finish Never = CannotFinish

-- The time to done of the transfer with that id, or that there is no such transfer. (02, P1)
unfoldable pub remaining_in : ℕ → Float → List Transfer → Answer
remaining_in id eps slots = of_id id Unknown (λ t. or_cannot_finish (time_to_done eps t)) slots

-- Whether what is read is not of now: the last drain lies before the clock, or rates are stale. (02, P10)
unfoldable pub behind : Clock → Bool
behind clock = clock.last_drain ≺ clock.now || clock.rates_dirty

-- The time a transfer still takes by what the last drain left of it and its rate as it stands, with eps at the clock; the time that has passed since is not taken off. (02, P10)
unfoldable pub remaining : ℕ → Flows → TimeLeft
remaining id f = record { answer = remaining_in id (done_eps f) f.in_flight; behind = behind f.clock }
