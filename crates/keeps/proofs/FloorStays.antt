-- No call changes the floor: whatever part of a simulator a call puts in another's place, the tolerance is handed on. Assumes nothing.
use Prim.Native.Nat.{ℕ}
use mathlib.Core.Path.{◌≡◌, refl, ◌∙◌}
use mathlib.Core.Bool.{Bool, true, false, cond}
use mathlib.Core.List.{List, [], ◌∷◌, foldl}
use lib.Ieee.{Float}
use Rattle.doubles.specs.Doubles.{◌≺◌, read_zero}
use Rattle.rules.specs.declared.Owner.{Owner}
use Rattle.rules.specs.declared.Owner.TheVariants.{Worker, Handoff, Write}
use Rattle.rules.specs.declared.Answer.TheVariants.{Done, Listed, Unknown}
use Rattle.rules.specs.declared.Transfer.{Transfer}
use Rattle.rules.specs.declared.Completion.{Completion}
use Rattle.rules.specs.declared.Tally.{Tally}
use Rattle.rules.specs.declared.Outcome.{Outcome}
use Rattle.rules.specs.declared.Flows.{Flows}
use Rattle.rules.specs.declared.Call.{Call}
use Rattle.rules.specs.declared.Call.TheVariants as Call_variants
use Rattle.rules.specs.Records.{path_of, contains, with_edges, with_in_flight, with_waiting, with_edge_load, with_clock, with_totals, drain_noted, made_stale, on_tally}
use Rattle.rules.specs.Filling.{recompute_rates}
use Rattle.rules.specs.Clock.{with_rates, ensure_rates, pass_time, drain_slots, drain_to, settled, drained_to_clock}
use Rattle.rules.specs.Refusals.{Cause, refusing, answering, refused, Lent, lent, refused_lent}
use Rattle.rules.specs.Queue.{queued, collected, ids_for, taking, take_completed}
use Rattle.rules.specs.Edges.{edge_added, add_edge, edge_widened, widen}
use Rattle.rules.specs.Submission.{submitted_transfer, peak_taken, started, submitted, submit_capped}
use Rattle.rules.specs.Advance.{completed_one, completed, done_list, quiet, list_done, advance}
use Rattle.rules.specs.Cancel.{cancelled, cancel}
use Rattle.rules.specs.Questions.{next_completion_delay, rate, bottleneck}
use Rattle.rules.specs.TimeLeft.{settle}
use Rattle.rules.specs.Histories.{call, after, run}
use Rattle.rules.specs.Promises.{FloorStays}
use Rattle.keeps.proofs.Refusing.{refused_or}
use Rattle.keeps.proofs.Passing.{pass_time_is}
use Rattle.keeps.proofs.Unmoved.{owners_still}

-- The second has the first's floor.
abbrev Handed : Flows → Flows → Type 0
Handed f g = g.tolerance ≡ f.tolerance

-- ---- steps

up_to_date : (f : Flows) → Handed f (ensure_rates f)
unfolding ensure_rates with_rates with_edge_load with_in_flight with_clock
up_to_date f = go f.clock.rates_dirty
  where
    go : (b : Bool) → Handed f (cond b (with_rates (recompute_rates (path_of f) f.edges f.in_flight) f) f)
    go true = refl
    go false = refl

time_passed : (to : Float) (f : Flows) → Handed f (pass_time to f)
time_passed to f = rw (pass_time_is to f) refl

drained : (to : Float) (f : Flows) → Handed f (drain_to to f)
unfolding drain_to drain_slots drain_noted with_edges with_in_flight with_clock
drained to f = time_passed to (drain_slots to (cond (f.clock.now ≺ to) (ensure_rates f) f)) ∙ go (f.clock.now ≺ to)
  where
    go : (b : Bool) → Handed f (cond b (ensure_rates f) f)
    go true = up_to_date f
    go false = refl

counted : (owner : Owner) (change : Tally → Tally) (f : Flows) → Handed f (on_tally owner change f)
unfolding on_tally with_totals
counted (Worker n) change f = refl
counted Handoff change f = refl
counted Write change f = refl

listed : (list : List Completion) (f : Flows) → Handed f (foldl completed_one f list)
unfolding completed_one queued with_waiting
listed [] f = refl
listed (c ∷ list) f = listed list (completed_one f c) ∙ counted c.owner _ (queued c f)

all_done : (list : List Completion) (f : Flows) → Handed f (completed f list)
unfolding completed made_stale with_in_flight with_clock
all_done [] f = refl
all_done (c ∷ list) f = listed (c ∷ list) _

-- ---- calls

module _ (f : Flows) where
  refuses : (causes : List Cause) (work : Outcome) → Handed f work.flows → Handed f (refusing causes (refused f) work).flows
  refuses causes work handed = refused_or (λ (o : Outcome). Handed f o.flows) causes (refused f) work (λ n. refl) (λ none. handed)

  refuses_lent : (causes : List Cause) (buffer : List ℕ) (work : Lent) → Handed f work.outcome.flows → Handed f (refusing causes (refused_lent f buffer) work).outcome.flows
  refuses_lent causes buffer work handed = refused_or (λ (l : Lent). Handed f l.outcome.flows) causes (refused_lent f buffer) work (λ n. refl) (λ none. handed)

at_clock : (f : Flows) → Handed f (drained_to_clock f)
unfolding drained_to_clock
at_clock f = drained f.clock.now f

settled_floor : (to : Float) (f : Flows) → Handed f (settled to f)
settled_floor to f = up_to_date (drain_to to f) ∙ drained to f

by_advance : (until : Float) (f : Flows) (buffer : List ℕ) → Handed f (advance until f buffer).outcome.flows
unfolding advance
by_advance until f buffer = refuses_lent f _ buffer _ (go (quiet (read_zero until) f) (settled (read_zero until) f) (settled_floor (read_zero until) f))
  where
    go : (b : Bool) (d : Flows) → Handed f d → Handed f (cond b (lent (answering (Listed 0) (pass_time (read_zero until) f)) buffer) (list_done d (done_list d) f buffer)).outcome.flows
    go true d handed = time_passed (read_zero until) f
    go false d handed = unfold list_done in refuses_lent f _ buffer _ (all_done (done_list d) d ∙ handed)

by_submission : (t : Transfer) (bytes : ℕ) (f : Flows) → Handed f (started t bytes f)
unfolding made_stale peak_taken with_in_flight with_totals with_clock
by_submission t bytes f = counted t.owner _ (drain_to t.last_update f) ∙ drained t.last_update f

by_cancel : (id : ℕ) (f : Flows) → Handed f (cancel id f).flows
unfolding cancel
by_cancel id f = go (contains id f)
  where
    go : (b : Bool) → Handed f (cond b (answering Done (cancelled id f)) (answering Unknown f)).flows
    go true = unfold cancelled made_stale with_in_flight with_clock in counted _ _ (drained_to_clock f) ∙ at_clock f
    go false = refl

by_take : (owner : Owner) (f : Flows) (buffer : List ℕ) → Handed f (take_completed owner f buffer).outcome.flows
unfolding take_completed
by_take owner f buffer = go (ids_for owner f)
  where
    go : (ids : List ℕ) → Handed f (taking ids owner f buffer).outcome.flows
    go [] = unfold taking in refl
    go (id ∷ ids) = unfold taking in refuses_lent f _ buffer _ (unfold collected with_waiting in refl)

by_call : (c : Call) (path : List ℕ) (f : Flows) (buffer : List ℕ) → Handed f (call c path f buffer).made.flows
unfolding call add_edge edge_added widen edge_widened submit_capped submitted submitted_transfer next_completion_delay settle rate bottleneck made_stale with_edges with_clock
by_call (Call_variants.Advance time) path f buffer = by_advance time f buffer
by_call (Call_variants.Submit s) path f buffer = refuses f _ _ (by_submission _ s.bytes f)
by_call (Call_variants.Cancel id) path f buffer = by_cancel id f
by_call (Call_variants.AddEdge capacity) path f buffer = refuses f _ _ (at_clock f)
by_call (Call_variants.Widen e amount) path f buffer = refuses f _ _ (at_clock f)
by_call (Call_variants.TakeCompleted owner) path f buffer = by_take owner f buffer
by_call Call_variants.OwnersWithCompletions path f buffer = rw (owners_still f buffer) refl
by_call Call_variants.NextCompletionDelay path f buffer = up_to_date f
by_call (Call_variants.EstimateNew e) path f buffer = refl
by_call Call_variants.Settle path f buffer = up_to_date (drained_to_clock f) ∙ at_clock f
by_call (Call_variants.Remaining id) path f buffer = refl
by_call (Call_variants.MeanInFlight e until) path f buffer = refl
by_call (Call_variants.Rate id) path f buffer = up_to_date f
by_call (Call_variants.Bottleneck id) path f buffer = up_to_date f
by_call (Call_variants.Edge e) path f buffer = refl
by_call (Call_variants.Contains id) path f buffer = refl
by_call Call_variants.Rounds path f buffer = refl

pub floor_stays : FloorStays
unfolding run
floor_stays f [] = refl
floor_stays f (t ∷ turns) = floor_stays (after t f).made.flows turns ∙ by_call t.call t.path f t.buffer
