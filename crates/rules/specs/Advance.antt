-- Advance: time moves on, and what is done by then is listed, queued and removed. (01, Clock) Definitions only.
use Rattle.std.specs.Prelude.{ℕ, ◌+◌, ◌*◌, Bool, true, not, ◌&&◌, cond, ltb, length, Float}
use mathlib.Core.List.{List, [], ◌∷◌, map, foldl}
use Rattle.doubles.specs.Doubles.{◌≺◌, read_zero}
use Rattle.rules.specs.declared.NextDone.{NextDone}
use Rattle.rules.specs.declared.NextDone.TheVariants.{At, Nobody}
use Rattle.rules.specs.declared.Transfer.{Transfer}
use Rattle.rules.specs.declared.Completion.{Completion}
use Rattle.rules.specs.declared.Tally.{Tally}
use Rattle.rules.specs.declared.Answer.TheVariants.{Listed}
use Rattle.rules.specs.declared.Flows.{Flows}
use Rattle.rules.specs.Lists.{those, write_front}
use Rattle.rules.specs.Records.{free, with_in_flight, made_stale, on_tally}
use Rattle.rules.specs.Done.{done_eps, is_done}
use Rattle.rules.specs.Clock.{pass_time, settled}
use Rattle.rules.specs.Refusals.{Cause, ◌when◌, refusing, answering, Lent, lent, refused_lent, not_a_time, short_buffer}
use Rattle.rules.specs.Queue.{queued, triples}

-- ---- the quiet advance

-- Whether T comes before next_done, or nobody is ever done. (01, Clock)
unfoldable pub later_than : Float → NextDone → Bool
later_than T Nobody = true
later_than T (At next) = T ≺ next

-- Whether an advance to T is quiet: rates are up to date and next_done does not come by T. Who would count as done a little before it is not asked. (01, Clock)
unfoldable pub quiet : Float → Flows → Bool
quiet T f = not f.clock.rates_dirty && later_than T f.clock.next_done_at

-- ---- who is done

-- Whether a slot holds a transfer that is done at the simulator's clock. (01, Clock)
unfoldable pub done_now : Flows → Transfer → Bool
done_now f t = t.taken && is_done (done_eps f) t

-- A completion put into a list by ascending id. (01, Clock)
unfoldable pub by_id : List Completion → Completion → List Completion
by_id [] c = c ∷ []
by_id (d ∷ list) c = let later = d ∷ by_id list c in cond (ltb c.id d.id) (c ∷ d ∷ list) later

-- All that are done, by ascending id. (01, Clock)
unfoldable pub done_list : Flows → List Completion
done_list f = foldl by_id [] (map (λ t. record { owner = t.owner; id = t.id }) (those (done_now f) f.in_flight))

-- One more completed. (01, Clock)
unfoldable pub count_completed : Tally → Tally
count_completed y = record { submitted = y.submitted; completed = y.completed + 1; cancelled = y.cancelled; bytes_submitted = y.bytes_submitted }

-- One completion counted and put into the queue. (01, Clock)
unfoldable pub completed_one : Flows → Completion → Flows
completed_one f c = on_tally c.owner count_completed (queued c f)

-- All that are done leave their slots and are queued; if there are any, rates go stale. (01, Clock)
unfoldable pub completed : Flows → List Completion → Flows
completed f [] = f
completed f (c ∷ list) =
    let emptied = with_in_flight (map (λ t. cond (done_now f t) free t) f.in_flight) f in
    made_stale (foldl completed_one emptied (c ∷ list))

-- ---- the call

-- Why time does not move; a list that is longer than the buffer is one more cause, asked below. (01, Numbers)
abbrev pub advance_causes : Float → Flows → List Cause
advance_causes T f =
    1 when not_a_time T
    ∷ 2 when (T ≺ f.clock.now)
    ∷ []

-- The simulator d, drained and up to date, without those that are done, and their list in the buffer; where it does not fit, not even the drain has happened. (01, Clock)
unfoldable pub list_done : Flows → List Completion → Flows → List ℕ → Lent
list_done d list f buffer =
    refusing (short_buffer (3 * length list) buffer) (refused_lent f buffer)
    (lent (answering (Listed (length list)) (completed d list)) (write_front (triples list) buffer))

-- Time moves to T, and what is done by then is listed, queued and removed. (01, Clock)
unfoldable pub advance : Float → Flows → List ℕ → Lent
advance T f buffer =
    let to = read_zero T in
    let quietly = lent (answering (Listed 0) (pass_time to f)) buffer in
    let d = settled to f in
    let drained = list_done d (done_list d) f buffer in
    refusing (advance_causes T f) (refused_lent f buffer)
    (cond (quiet to f) quietly drained)
