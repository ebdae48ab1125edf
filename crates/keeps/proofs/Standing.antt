-- What the last filling left stands until the next: a call fills, or makes rates stale, or takes nothing but latency and bytes of the slots. Assumes nothing.
use Prim.Native.Nat.{ℕ}
use mathlib.Core.Path.{◌≡◌, refl, sym, ◌∙◌}
use mathlib.Core.Bool.{Bool, true, false, cond, true≢false}
use mathlib.Core.List.{List, [], ◌∷◌, map}
use lib.Dec.{T}
use lib.Ieee.{Float, binary64, fits}
use lib.Ieee.Fits.{and_l, and_r}
use Rattle.doubles.specs.Doubles.{◌≺◌, ◌⊖◌, read_zero}
use Rattle.rules.specs.declared.Answer.TheVariants.{Done, Unknown}
use Rattle.rules.specs.declared.Completion.{Completion}
use Rattle.rules.specs.declared.Transfer.{Transfer}
use Rattle.rules.specs.declared.Owner.{Owner}
use Rattle.rules.specs.declared.Outcome.{Outcome}
use Rattle.rules.specs.declared.Flows.{Flows}
use Rattle.rules.specs.declared.Call.{Call}
use Rattle.rules.specs.declared.Call.TheVariants as Call_variants
use Rattle.rules.specs.Lists.{all}
use Rattle.rules.specs.Records.{fresh, path_of, contains, with_edges, with_in_flight, with_waiting, with_edge_load, with_clock, drain_noted, made_stale, with_tolerance}
use Rattle.rules.specs.Filling.{recompute_rates}
use Rattle.rules.specs.Clock.{with_rates, ensure_rates, drained, pass_time, drain_slots, drain_to, settled, drained_to_clock}
use Rattle.rules.specs.Refusals.{Cause, refusing, answering, refused, Lent, refused_lent}
use Rattle.rules.specs.Floors.{with_floor}
use Rattle.rules.specs.Queue.{collected, ids_for, taking, take_completed}
use Rattle.rules.specs.Edges.{edge_added, add_edge, edge_widened, widen}
use Rattle.rules.specs.Submission.{submitted, submit_capped}
use Rattle.rules.specs.Advance.{completed, done_list, quiet, list_done, advance}
use Rattle.rules.specs.Cancel.{cancelled, cancel}
use Rattle.rules.specs.Questions.{next_completion_delay, rate, bottleneck}
use Rattle.rules.specs.TimeLeft.{settle}
use Rattle.rules.specs.Histories.{typed_call, call, Turn, typed, after, run}
use Rattle.rules.specs.Invariant.{Invariant}
use Rattle.rules.specs.Promises.{standing, AsFilled, AlwaysAsFilled}
use Rattle.rules.proofs.Conds.{by_test}
use Rattle.rules.proofs.Everything.{everything}
use Rattle.rules.proofs.Fresh.{fresh_keeps, with_floor_keeps}
use Rattle.keeps.proofs.Arguments.{time_clock, time_no_earlier}
use Rattle.keeps.proofs.Refusing.{refused_or}
use Rattle.keeps.proofs.Passing.{busied_capacity, pass_time_is}
use Rattle.keeps.proofs.Draining.{each_drained, delivered_capacity, drain_to_keeps, drained_to_clock_keeps}
use Rattle.keeps.proofs.Unmoved.{owners_still}
use Rattle.keeps.proofs.Always.{turn_keeps, run_keeps}

-- While rates are not stale, what stands is what a filling left.
abbrev Stands : Flows → Type 0
Stands f = f.clock.rates_dirty ≡ false → AsFilled f

-- ---- steps

-- what leaves the slots but for latency and bytes, the capacities and the staleness leaves what stands
on : {f g : Flows} → map standing g.in_flight ≡ map standing f.in_flight → map (λ e. e.capacity) g.edges ≡ map (λ e. e.capacity) f.edges → g.clock.rates_dirty ≡ f.clock.rates_dirty → Stands f → Stands g
on slots capacities stale stands fresh =
    let was = stands (sym stale ∙ fresh) in
    record { filled = was.filled; sound = was.sound; slots = slots ∙ was.slots; capacities = capacities ∙ was.capacities }

-- and where rates are made stale there is nothing to show
stale : (f : Flows) → Stands (made_stale f)
unfolding made_stale with_clock
stale f fresh = absurd (true≢false fresh)

up_to_date : {f : Flows} → Invariant f → Stands f → AsFilled (ensure_rates f)
unfolding ensure_rates with_rates with_edge_load with_in_flight with_clock
up_to_date {f} inv stands = go f.clock.rates_dirty refl
  where
    go : (b : Bool) → f.clock.rates_dirty ≡ b → AsFilled (cond b (with_rates (recompute_rates (path_of f) f.edges f.in_flight) f) f)
    go true e = record { filled = f; sound = inv; slots = refl; capacities = refl }
    go false e = stands e

time_passed : (to : Float) (f : Flows) → Stands f → Stands (pass_time to f)
time_passed to f = on (rw (pass_time_is to f) refl) (rw (pass_time_is to f) (busied_capacity (to ⊖ f.clock.now) f.in_flight f.edges)) (rw (pass_time_is to f) refl)

slots_drained : (to : Float) (f : Flows) → Stands f → Stands (drain_slots to f)
unfolding drain_slots drain_noted with_edges with_in_flight with_clock
slots_drained to f = on (each_drained standing to one f.in_flight) (delivered_capacity to f.edges f.in_flight) refl
  where
    one : (t : Transfer) → standing (drained to t) ≡ standing t
    one t = unfold drained in by_test (λ (u : Transfer). standing u ≡ standing t) t.taken (λ taken. refl) refl

drained_to : (to : Float) {f : Flows} → Invariant f → Stands f → Stands (drain_to to f)
unfolding drain_to
drained_to to {f} inv stands =
    let g = cond (f.clock.now ≺ to) (ensure_rates f) f in
    time_passed to (drain_slots to g) (slots_drained to g (by_test Stands (f.clock.now ≺ to) (λ past fresh. up_to_date inv stands) stands))

-- ---- calls

module _ (f : Flows) (inv : Invariant f) (stands : Stands f) where
  or_stale : (causes : List Cause) (work : Outcome) (changed : Flows) → work.flows ≡ made_stale changed → Stands (refusing causes (refused f) work).flows
  or_stale causes work changed same = refused_or (λ (o : Outcome). Stands o.flows) causes (refused f) work (λ n. stands) (λ none. rw same (stale changed))

  all_done : (d : Flows) (list : List Completion) → Stands d → Stands (completed d list)
  unfolding completed
  all_done d [] held = held
  all_done d (c ∷ list) held = stale _

  listed : (d : Flows) (list : List Completion) (buffer : List ℕ) → Stands d → Stands (list_done d list f buffer).outcome.flows
  unfolding list_done
  listed d list buffer held = refused_or (λ (l : Lent). Stands l.outcome.flows) _ (refused_lent f buffer) _ (λ n. stands) (λ none. all_done d list held)

  by_advance : (until : Float) (buffer : List ℕ) → T (fits binary64 until) → Stands (advance until f buffer).outcome.flows
  unfolding advance
  by_advance until buffer fit = refused_or (λ (l : Lent). Stands l.outcome.flows) _ (refused_lent f buffer) _ (λ n. stands) (λ none.
      let time = time_clock until fit none.0 in
      let later = time_no_earlier until fit none.0 inv.clock.plain none.1.0 in
      let d = settled (read_zero until) f in
      by_test (λ (l : Lent). Stands l.outcome.flows) (quiet (read_zero until) f) (λ still. time_passed (read_zero until) f stands)
      (listed d (done_list d) buffer (λ fresh. up_to_date (drain_to_keeps inv time later) (drained_to (read_zero until) inv stands))))

  by_cancel : (id : ℕ) → Stands (cancel id f).flows
  unfolding cancel
  by_cancel id = go (contains id f)
    where
      go : (b : Bool) → Stands (cond b (answering Done (cancelled id f)) (answering Unknown f)).flows
      go true = unfold cancelled in stale _
      go false = stands

  by_take : (owner : Owner) (buffer : List ℕ) → Stands (take_completed owner f buffer).outcome.flows
  unfolding take_completed
  by_take owner buffer = go (ids_for owner f)
    where
      go : (ids : List ℕ) → Stands (taking ids owner f buffer).outcome.flows
      go [] = unfold taking in stands
      go (id ∷ ids) = unfold taking in refused_or (λ (l : Lent). Stands l.outcome.flows) _ (refused_lent f buffer) _ (λ n. stands) (λ none. unfold collected with_waiting in on refl refl refl stands)

  by_call : (c : Call) (path : List ℕ) (buffer : List ℕ) → T (typed_call c) → Stands (call c path f buffer).made.flows
  unfolding call typed_call add_edge edge_added widen edge_widened submit_capped submitted next_completion_delay settle rate bottleneck
  by_call (Call_variants.Advance time) path buffer t = by_advance time buffer t
  by_call (Call_variants.Submit s) path buffer t = or_stale _ _ _ refl
  by_call (Call_variants.Cancel id) path buffer t = by_cancel id
  by_call (Call_variants.AddEdge capacity) path buffer t = or_stale _ _ _ refl
  by_call (Call_variants.Widen e amount) path buffer t = or_stale _ _ _ refl
  by_call (Call_variants.TakeCompleted owner) path buffer t = by_take owner buffer
  by_call Call_variants.OwnersWithCompletions path buffer t = rw (owners_still f buffer) stands
  by_call Call_variants.NextCompletionDelay path buffer t = λ fresh. up_to_date inv stands
  by_call (Call_variants.EstimateNew e) path buffer t = stands
  by_call Call_variants.Settle path buffer t = λ fresh. up_to_date (drained_to_clock_keeps inv) (unfold drained_to_clock in drained_to f.clock.now inv stands)
  by_call (Call_variants.Remaining id) path buffer t = stands
  by_call (Call_variants.MeanInFlight e until) path buffer t = stands
  by_call (Call_variants.Rate id) path buffer t = λ fresh. up_to_date inv stands
  by_call (Call_variants.Bottleneck id) path buffer t = λ fresh. up_to_date inv stands
  by_call (Call_variants.Edge e) path buffer t = stands
  by_call (Call_variants.Contains id) path buffer t = stands
  by_call Call_variants.Rounds path buffer t = stands

-- ---- histories

run_stands : (f : Flows) (turns : List Turn) → T (all typed turns) → Invariant f → Stands f → Stands (run f turns)
unfolding run all
run_stands f [] h inv stands = stands
run_stands f (t ∷ turns) h inv stands =
    let here = and_l (typed t) (all typed turns) h in
    run_stands (after t f).made.flows turns (and_r (typed t) (all typed turns) h) (turn_keeps t f here inv) (by_call f inv stands t.call t.path t.buffer here)

-- a fresh simulator is as its filling leaves it, for nobody is in flight
blank : AsFilled fresh
unfolding everything
blank = record { filled = fresh; sound = fresh_keeps; slots = refl; capacities = refl }

first : (floor : Float) → AsFilled (with_floor floor).flows
unfolding with_floor with_tolerance
first floor = refused_or (λ (o : Outcome). AsFilled o.flows) _ (refused fresh) _ (λ n. blank) (λ none. record { filled = blank.filled; sound = blank.sound; slots = blank.slots; capacities = blank.capacities })

pub always_as_filled : AlwaysAsFilled
always_as_filled floor turns held t =
    let f = (with_floor floor).flows in
    up_to_date (run_keeps f turns t (with_floor_keeps floor held)) (run_stands f turns t (with_floor_keeps floor held) (λ fresh. first floor))
