-- Cancel: a transfer is given up. (01, Clock and Departures) Definitions only.
use Rattle.std.specs.Prelude.{ℕ, ◌+◌, cond, List, map}
use Rattle.rules.specs.declared.Owner.{Owner}
use Rattle.rules.specs.declared.Transfer.{Transfer}
use Rattle.rules.specs.declared.Tally.{Tally}
use Rattle.rules.specs.declared.Answer.TheVariants.{Done, Unknown}
use Rattle.rules.specs.declared.Outcome.{Outcome}
use Rattle.rules.specs.declared.Flows.{Flows}
use Rattle.rules.specs.Records.{free, has_id, of_id, contains, with_in_flight, made_stale, on_tally}
use Rattle.rules.specs.Clock.{drained_to_clock}
use Rattle.rules.specs.Refusals.{answering}

-- One more cancelled. (01, Clock)
unfoldable pub count_cancelled : Tally → Tally
count_cancelled y = record { submitted = y.submitted; completed = y.completed; cancelled = y.cancelled + 1; bytes_submitted = y.bytes_submitted }

-- The owner of the transfer with that id. (01, Clock)
unfoldable pub owner_of : ℕ → List Transfer → Owner
owner_of id slots = of_id id free.owner (λ t. t.owner) slots

-- Drained to the clock, then counted and removed. (01, Clock and Departures)
unfoldable pub cancelled : ℕ → Flows → Flows
cancelled id f =
    let d = on_tally (owner_of id f.in_flight) count_cancelled (drained_to_clock f) in
    made_stale (with_in_flight (map (λ t. cond (has_id id t) free t) d.in_flight) d)

-- A transfer is given up; what it moved stays counted. There is nothing to refuse: an unknown id is answered as such. (01, Numbers and Clock)
unfoldable pub cancel : ℕ → Flows → Outcome
cancel id f = cond (contains id f) (answering Done (cancelled id f)) (answering Unknown f)
