-- Submission: a transfer starts. (01, Numbers and Clock) Definitions only.
use Rattle.std.specs.Prelude.{ℕ, ◌+◌, ◌-◌, ◌^◌, max, true, ◌||◌, cond, List, [], ◌∷◌, ltb, eqb, Float}
use Rattle.doubles.specs.Doubles.{◌⊕◌, ◌≺◌, nought, larger, whole, read_zero}
use Rattle.rules.specs.declared.Owner.{Owner}
use Rattle.rules.specs.declared.Cap.{Cap}
use Rattle.rules.specs.declared.Cap.TheVariants.{Uncapped}
use Rattle.rules.specs.declared.Limit.TheVariants.{Nowhere}
use Rattle.rules.specs.declared.Transfer.{Transfer}
use Rattle.rules.specs.declared.Tally.{Tally}
use Rattle.rules.specs.declared.Answer.TheVariants.{Done}
use Rattle.rules.specs.declared.Outcome.{Outcome}
use Rattle.rules.specs.declared.Flows.{Flows}
use Rattle.rules.specs.Lists.{any}
use Rattle.rules.specs.Records.{route, contains, num_in_flight, tally_of, with_in_flight, with_totals, made_stale, on_tally}
use Rattle.rules.specs.Clock.{drain_to}
use Rattle.rules.specs.Refusals.{Cause, ◌when◌, refusing, answering, refused, not_finite, not_a_time, not_a_cap, no_such_edge, too_long, is_full, read_cap}

-- What the tables refuse of a submission. (01, Numbers)
abbrev pub table_causes : ℕ → Owner → Flows → List Cause
table_causes id owner f =
    6 when contains id f
    ∷ 7 when is_full f
    ∷ 9 when eqb (tally_of owner f.totals).submitted (2 ^ 64 - 1)
    ∷ []

-- Why a transfer does not start: its arguments, then the tables. (01, Numbers)
abbrev pub submit_causes : ℕ → Owner → List ℕ → ℕ → Float → Cap → Float → Flows → List Cause
submit_causes id owner path bytes latency cap T f =
    1 when (not_finite latency || not_a_cap cap || not_a_time T)
    ∷ 2 when (T ≺ f.clock.now)
    ∷ 3 when any (no_such_edge f) path
    ∷ 4 when too_long path
    ∷ 5 when ltb (2 ^ 53) bytes
    ∷ table_causes id owner f

-- A submitted transfer: a latency below zero is none, its rate is 0 and nothing limits it until a filling, and it has been drained up to its own time. (01, Clock; 02, P4)
unfoldable pub submitted_transfer : ℕ → Owner → List ℕ → ℕ → Float → Cap → Float → Transfer
submitted_transfer id owner path bytes latency cap T = record {
  taken = true;
  id = id;
  owner = owner;
  path = route path;
  latency_remaining = larger latency nought;
  bytes_remaining = whole bytes;
  rate_cap = cap;
  rate = nought;
  limit = Nowhere;
  last_update = T;
}

-- The transfer put into the lowest free slot. (01, Sizes)
unfoldable pub placed : Transfer → List Transfer → List Transfer
placed t [] = []
placed t (x ∷ slots) = let past = x ∷ placed t slots in cond x.taken past (t ∷ slots)

-- One more submitted, with its bytes. (01, Clock)
unfoldable pub count_submitted : ℕ → Tally → Tally
count_submitted bytes y = record { submitted = y.submitted + 1; completed = y.completed; cancelled = y.cancelled; bytes_submitted = y.bytes_submitted ⊕ whole bytes }

-- The peak raised to the number in flight. (01, Clock)
unfoldable pub peak_taken : Flows → Flows
peak_taken f = with_totals (record { peak_in_flight = max f.totals.peak_in_flight (num_in_flight f); worker = f.totals.worker; handoff = f.totals.handoff; write = f.totals.write }) f

-- A transfer joins those in flight, and then the peak is taken. (01, Clock)
abbrev pub joined : Transfer → Flows → Flows
joined t f = peak_taken (with_in_flight (placed t f.in_flight) f)

-- A transfer of some bytes starts at its own time: drained to it, then counted, then inserted. (01, Clock)
abbrev pub started : Transfer → ℕ → Flows → Flows
started t bytes f = made_stale (joined t (on_tally t.owner (count_submitted bytes) (drain_to t.last_update f)))

-- The simulator with a submitted transfer. (01, Clock)
unfoldable pub submitted : ℕ → Owner → List ℕ → ℕ → Float → Cap → Float → Flows → Flows
submitted id owner path bytes latency cap T f = started (submitted_transfer id owner path bytes latency cap T) bytes f

-- A transfer starts at the time T, with or without a cap of its own. (01, Numbers and Clock)
unfoldable pub submit_capped : ℕ → Owner → List ℕ → ℕ → Float → Cap → Float → Flows → Outcome
submit_capped id owner path bytes latency cap T f =
    refusing (submit_causes id owner path bytes latency cap T f) (refused f)
    (answering Done (submitted id owner path bytes (read_zero latency) (read_cap cap) (read_zero T) f))

-- A transfer starts without a cap. (01, What is ported)
unfoldable pub submit : ℕ → Owner → List ℕ → ℕ → Float → Float → Flows → Outcome
submit id owner path bytes latency T f = submit_capped id owner path bytes latency Uncapped T f
