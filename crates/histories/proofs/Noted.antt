-- Each call leaves the simulator in agreement with what its answer has a listener note. Assumes nothing.
use Prim.Native.Nat.{ℕ}
use mathlib.Core.Path.{◌≡◌, refl}
use mathlib.Core.Bool.{Bool, true, false, ◌&&◌, ◌||◌, cond}
use mathlib.Core.List.{List, [], ◌∷◌}
use lib.Dec.{T}
use lib.Ieee.{Float, binary64, fits}
use lib.Ieee.Fits.{and_r}
use Rattle.doubles.specs.Doubles.{read_zero}
use Rattle.rules.specs.declared.Owner.{Owner}
use Rattle.rules.specs.declared.Cap.{Cap}
use Rattle.rules.specs.declared.Answer.TheVariants.{Done, Listed, Unknown}
use Rattle.rules.specs.declared.Outcome.{Outcome}
use Rattle.rules.specs.declared.Flows.{Flows}
use Rattle.rules.specs.declared.Call.{Call}
use Rattle.rules.specs.declared.Call.TheVariants as Call_variants
use Rattle.rules.specs.Records.{owner_kind, contains, with_edges, with_waiting, with_clock, made_stale}
use Rattle.rules.specs.Clock.{ensure_rates, pass_time, drained_to_clock}
use Rattle.rules.specs.Refusals.{answering, refused, Lent, lent, refused_lent, not_finite, not_a_cap, not_a_time, read_cap}
use Rattle.rules.specs.Queue.{ids_for, collected, taking, take_completed, owners_with_completions}
use Rattle.rules.specs.Edges.{edge_added, edge_widened, add_edge, widen}
use Rattle.rules.specs.Submission.{submit_capped}
use Rattle.rules.specs.Advance.{quiet, done_list, list_done, advance}
use Rattle.rules.specs.Cancel.{cancelled, cancel}
use Rattle.rules.specs.Questions.{next_completion_delay, rate, bottleneck}
use Rattle.rules.specs.TimeLeft.{settle}
use Rattle.rules.specs.Histories.{typed_cap, typed_call, call, Turn, typed, after}
use Rattle.rules.specs.Invariant.{Invariant}
use Rattle.rules.specs.Tallies.{Ledger, note_submitted, note_cancelled, entries, is_yes, list_length, says_done, says_listed, noted}
use Rattle.keeps.proofs.Refusing.{refused_or, neither}
use Rattle.keeps.proofs.Arguments.{time_clock, time_no_earlier}
use Rattle.keeps.proofs.Passing.{pass_time_is}
use Rattle.keeps.proofs.Refreshing.{ensure_rates_refreshes}
use Rattle.keeps.proofs.Draining.{drain_to_keeps, drain_to_reaches, drained_to_clock_keeps, drained_to_clock_reaches}
use Rattle.histories.proofs.Agreement.{Agrees, Unheard, unheard_of, unheard_same, unheard_then, unheard_refreshed, unheard_reached, agrees_unheard}
use Rattle.histories.proofs.Slots.{one_holder}
use Rattle.histories.proofs.Submitted.{submitted_agrees}
use Rattle.histories.proofs.Cancelled.{cancelled_agrees}
use Rattle.histories.proofs.Listed.{note_all, reads_back}
use Rattle.histories.proofs.Completed.{completed_agrees}

-- ---- calls that a listener notes nothing of

module _ {f : Flows} (inv : Invariant f) where
  to_clock : Unheard f (drained_to_clock f)
  to_clock = unheard_reached (drained_to_clock_reaches inv)

  up_to_date : Unheard f (ensure_rates f)
  up_to_date = unheard_refreshed (ensure_rates_refreshes inv)

  add_edge_unheard : (capacity : Float) → Unheard f (add_edge capacity f).flows
  unfolding add_edge edge_added made_stale with_clock with_edges
  add_edge_unheard capacity = refused_or (λ (o : Outcome). Unheard f o.flows) _ (refused f) _ (λ n. unheard_same) (λ clear. unheard_then to_clock (unheard_of refl refl))

  widen_unheard : (e : ℕ) (amount : Float) → Unheard f (widen e amount f).flows
  unfolding widen edge_widened made_stale with_clock with_edges
  widen_unheard e amount = refused_or (λ (o : Outcome). Unheard f o.flows) _ (refused f) _ (λ n. unheard_same) (λ clear. unheard_then to_clock (unheard_of refl refl))

  settle_unheard : Unheard f (settle f).flows
  unfolding settle
  settle_unheard = unheard_then to_clock (unheard_refreshed (ensure_rates_refreshes (drained_to_clock_keeps inv)))

taking_unheard : (ids : List ℕ) (owner : Owner) (f : Flows) (buffer : List ℕ) → Unheard f (taking ids owner f buffer).outcome.flows
unfolding taking collected with_waiting
taking_unheard [] owner f buffer = unheard_same
taking_unheard (id ∷ ids) owner f buffer = refused_or (λ (o : Lent). Unheard f o.outcome.flows) _ (refused_lent f buffer) _ (λ n. unheard_same) (λ clear. unheard_of refl refl)

owners_unheard : (f : Flows) (buffer : List ℕ) → Unheard f (owners_with_completions f buffer).outcome.flows
unfolding owners_with_completions
owners_unheard f buffer = refused_or (λ (o : Lent). Unheard f o.outcome.flows) _ (refused_lent f buffer) _ (λ n. unheard_same) (λ clear. unheard_same)

-- ---- calls that a listener notes

module _ {f : Flows} {l : Ledger} (inv : Invariant f) (agrees : Agrees f l) where
  submit_agrees : (id : ℕ) (owner : Owner) (path : List ℕ) (bytes : ℕ) (latency : Float) (cap : Cap) (until : Float) → T (fits binary64 until)
      → let o = submit_capped id owner path bytes latency cap until f in Agrees o.flows (cond (is_yes o.answer) (note_submitted id (owner_kind owner) l) l)
  unfolding submit_capped is_yes
  submit_agrees id owner path bytes latency cap until typed =
      refused_or (λ (o : Outcome). Agrees o.flows (cond (is_yes o.answer) (note_submitted id (owner_kind owner) l) l)) _ (refused f) _ (λ n. agrees) (λ clear.
      -- the time is of the first two causes, a full table the seventh
      let in_time = (neither (not_finite latency || not_a_cap cap) (not_a_time until) clear.0).1 in
      let drained = drain_to_reaches inv (time_clock until typed in_time) (time_no_earlier until typed in_time inv.clock.plain clear.1.0) in
      submitted_agrees id owner path bytes (read_zero latency) (read_cap cap) (read_zero until) inv agrees (unheard_reached drained) clear.1.1.1.1.1.1.0)

  cancel_agrees : (id : ℕ) → let o = cancel id f in Agrees o.flows (cond (is_yes o.answer) (note_cancelled id l) l)
  unfolding cancel is_yes
  cancel_agrees id = go (contains id f) refl
    where
      go : (b : Bool) → contains id f ≡ b → let o = cond b (answering Done (cancelled id f)) (answering Unknown f) in Agrees o.flows (cond (is_yes o.answer) (note_cancelled id l) l)
      go true known = cancelled_agrees id inv agrees known
      go false unknown = agrees

  -- what a listener notes of a list
  Heard : Lent → Type 0
  Heard o = Agrees o.outcome.flows (note_all l (entries (list_length o.outcome.answer) o.buffer))

  not_listed : (buffer : List ℕ) (n : ℕ) → Heard (refused_lent f buffer n)
  unfolding Heard list_length entries
  not_listed buffer n = agrees

  still_agrees : (until : Float) (buffer : List ℕ) → Heard (lent (answering (Listed 0) (pass_time until f)) buffer)
  unfolding Heard list_length entries
  still_agrees until buffer = rw (pass_time_is until f) (agrees_unheard (unheard_of refl refl) agrees)

  list_done_agrees : {d : Flows} (buffer : List ℕ) → Invariant d → Unheard f d → Heard (list_done d (done_list d) f buffer)
  unfolding Heard list_done list_length
  list_done_agrees {d} buffer sound u =
      refused_or Heard _ (refused_lent f buffer) _ (not_listed buffer) (λ clear. rw (reads_back (done_list d) buffer) (completed_agrees d (one_holder sound) (agrees_unheard u agrees)))

  advance_agrees : (until : Float) (buffer : List ℕ) → T (fits binary64 until) → Heard (advance until f buffer)
  unfolding advance
  advance_agrees until buffer typed =
      refused_or Heard _ (refused_lent f buffer) _ (not_listed buffer) (λ clear.
      let time = time_clock until typed clear.0 in
      let later = time_no_earlier until typed clear.0 inv.clock.plain clear.1.0 in
      let fresh = ensure_rates_refreshes (drain_to_keeps inv time later) in
      go (quiet (read_zero until) f) _ (list_done_agrees buffer fresh.sound (unheard_then (unheard_reached (drain_to_reaches inv time later)) (unheard_refreshed fresh))))
    where
      go : (b : Bool) (full : Lent) → Heard full → Heard (cond b (lent (answering (Listed 0) (pass_time (read_zero until) f)) buffer) full)
      go true full heard = still_agrees (read_zero until) buffer
      go false full heard = heard

-- ---- any call

call_agrees : (c : Call) (path : List ℕ) (f : Flows) (buffer : List ℕ) (l : Ledger) → T (typed_call c) → Invariant f → Agrees f l
    → let left = call c path f buffer in Agrees left.made.flows (noted c left.made.said left.buffer l)
unfolding call typed_call noted says_done says_listed next_completion_delay rate bottleneck take_completed Heard
call_agrees (Call_variants.Advance time) path f buffer l t inv a = advance_agrees inv a time buffer t
call_agrees (Call_variants.Submit s) path f buffer l t inv a =
    submit_agrees inv a s.id s.owner path s.bytes s.latency s.cap s.time (and_r (typed_cap s.cap) (fits binary64 s.time) (and_r (fits binary64 s.latency) (typed_cap s.cap && fits binary64 s.time) t))
call_agrees (Call_variants.Cancel id) path f buffer l t inv a = cancel_agrees inv a id
call_agrees (Call_variants.AddEdge capacity) path f buffer l t inv a = agrees_unheard (add_edge_unheard inv capacity) a
call_agrees (Call_variants.Widen e amount) path f buffer l t inv a = agrees_unheard (widen_unheard inv e amount) a
call_agrees (Call_variants.TakeCompleted owner) path f buffer l t inv a = agrees_unheard (taking_unheard (ids_for owner f) owner f buffer) a
call_agrees Call_variants.OwnersWithCompletions path f buffer l t inv a = agrees_unheard (owners_unheard f buffer) a
call_agrees Call_variants.NextCompletionDelay path f buffer l t inv a = agrees_unheard (up_to_date inv) a
call_agrees (Call_variants.EstimateNew e) path f buffer l t inv a = a
call_agrees Call_variants.Settle path f buffer l t inv a = agrees_unheard (settle_unheard inv) a
call_agrees (Call_variants.Remaining id) path f buffer l t inv a = a
call_agrees (Call_variants.MeanInFlight e until) path f buffer l t inv a = a
call_agrees (Call_variants.Rate id) path f buffer l t inv a = agrees_unheard (up_to_date inv) a
call_agrees (Call_variants.Bottleneck id) path f buffer l t inv a = agrees_unheard (up_to_date inv) a
call_agrees (Call_variants.Edge e) path f buffer l t inv a = a
call_agrees (Call_variants.Contains id) path f buffer l t inv a = a
call_agrees Call_variants.Rounds path f buffer l t inv a = a

pub noted_agrees : (t : Turn) (f : Flows) (l : Ledger) → T (typed t) → Invariant f → Agrees f l → let left = after t f in Agrees left.made.flows (noted t.call left.made.said left.buffer l)
noted_agrees t f l h inv a = call_agrees t.call t.path f t.buffer l h inv a
