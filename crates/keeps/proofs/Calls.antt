-- Every call that changes a simulator keeps the invariant, whether it refuses or does its work. Assumes nothing.
use Prim.Native.Nat.{ℕ, suc, ◌+◌, ◌-◌, ◌^◌, ◌<◌}
use native.Mathlib.Omega.{arith}
use mathlib.Core.Path.{◌≡◌, refl, sym, ap, ◌∙◌, subst}
use mathlib.Core.Bool.{Bool, true, false, not, ◌&&◌, ◌||◌, cond, true≢false}
use mathlib.Core.List.{List, [], ◌∷◌}
use lib.Dec.{T, leb}
use borrow.Author.Tests.{ltb-false, leb-false, eqb-false}
use lib.ListN.{length, get_or, set, get_or-map}
use lib.Ieee.{Float, binary64, fits}
use lib.Ieee.Bits.{is_false}
use lib.Ieee.Fits.{and_l}
use Rattle.doubles.specs.Doubles.{◌⊕◌, ◌≼◌, nought, read_zero, Plain}
use Rattle.rules.specs.declared.Owner.{Owner}
use Rattle.rules.specs.declared.Cap.{Cap}
use Rattle.rules.specs.declared.Completion.{Completion}
use Rattle.rules.specs.declared.Edge.{Edge}
use Rattle.rules.specs.declared.Answer.TheVariants.{Done, Unknown}
use Rattle.rules.specs.declared.Flows.{Flows}
use Rattle.rules.specs.Records.{max_edges, max_path, max_slots, blank_edge, contains, num_in_flight, tally_of}
use Rattle.rules.specs.Clock.{settled}
use Rattle.rules.specs.Refusals.{answering, refused, Lent, refused_lent, not_finite, not_an_amount, not_a_time, not_a_cap, no_such_edge, too_long, is_full, read_cap}
use Rattle.rules.specs.Clock
use Rattle.rules.specs.Edges
use Rattle.rules.specs.Submission
use Rattle.rules.specs.Advance
use Rattle.rules.specs.Cancel
use Rattle.rules.specs.Queue.{taking, take_completed, ids_for, owners_with_completions}
use Rattle.rules.specs.Questions.{next_completion_delay, rate, bottleneck}
use Rattle.rules.specs.TimeLeft.{settle}
use Rattle.rules.specs.Histories.{typed_cap}
use Rattle.rules.specs.Invariant.{ClockTime, SoundEdge, Invariant}
use Rattle.rules.proofs.Fresh.{nought_summed}
use Rattle.rules.proofs.Conds.{by_test}
use Rattle.keeps.proofs.Drained.{made_stale_keeps}
use Rattle.keeps.proofs.Refusing.{refused_or, neither}
use Rattle.keeps.proofs.Arguments.{number_floored, amount_plain, time_clock, time_no_earlier, cap_sound, widened_plain}
use Rattle.keeps.proofs.Edges.{edge_set, edge_update, other_edges}
use Rattle.keeps.proofs.Passing.{pass_time_keeps}
use Rattle.keeps.proofs.Refreshing.{ensure_rates_keeps}
use Rattle.keeps.proofs.Draining.{drain_to_keeps, drain_to_reaches, settled_at_clock, drained_to_clock_keeps, drained_to_clock_reaches}
use Rattle.keeps.proofs.Submission.{submitted_keeps}
use Rattle.keeps.proofs.Completing.{completed_keeps}
use Rattle.keeps.proofs.Cancelling.{cancelled_keeps}
use Rattle.keeps.proofs.Waiting.{collected_keeps}

-- ---- edges

pub edge_added_keeps : (capacity : Float) (f : Flows) → Plain capacity → f.num_edges < max_edges → Invariant f → Invariant (Edges.edge_added capacity f)
unfolding Edges.edge_added
edge_added_keeps capacity f plain room inv =
    let r = drained_to_clock_reaches inv in
    let d = Clock.drained_to_clock f in
    let edge : Edge = record { capacity = capacity; bytes_moved = nought; busy_transfer_seconds = nought } in
    made_stale_keeps (other_edges r.drained (set d.edges d.num_edges edge) (suc d.num_edges) (omega arith)
    (edge_set r.drained.edges d.num_edges (suc d.num_edges) edge (omega arith) (omega arith) (omega (arith, r.edges, room)) (record { capacity = plain; moved = nought_summed; busy = nought_summed })))

pub add_edge_keeps : (capacity : Float) (f : Flows) → T (fits binary64 capacity) → Invariant f → Invariant (Edges.add_edge capacity f).flows
unfolding Edges.add_edge
add_edge_keeps capacity f typed inv = refused_or (λ o. Invariant o.flows) _ (refused f) _ (λ n. inv) (λ none.
    edge_added_keeps (read_zero capacity) f (amount_plain capacity typed none.0) (leb-false max_edges f.num_edges none.1.0) inv)

pub edge_widened_keeps : (e : ℕ) (amount : Float) (f : Flows) → e < f.num_edges → Plain (Edges.wider amount (get_or f.edges e blank_edge)) → Invariant f → Invariant (Edges.edge_widened e amount f)
unfolding Edges.edge_widened Edges.wider
edge_widened_keeps e amount f known plain inv =
    let r = drained_to_clock_reaches inv in
    let d = Clock.drained_to_clock f in
    let there : e < d.num_edges = omega (arith, r.edges) in
    let s : SoundEdge (get_or d.edges e blank_edge) = r.drained.edges.sound e in
    let same : (get_or d.edges e blank_edge).capacity ≡ (get_or f.edges e blank_edge).capacity =
    sym (get_or-map (λ (x : Edge). x.capacity) d.edges e blank_edge) ∙ ap (λ (l : List Float). get_or l e nought) r.capacities ∙ get_or-map (λ (x : Edge). x.capacity) f.edges e blank_edge in
    made_stale_keeps (other_edges r.drained _ d.num_edges (omega arith)
    (edge_update r.drained.edges e _ there (record { capacity = subst Plain (ap (λ (c : Float). c ⊕ amount) (sym same)) plain; moved = s.moved; busy = s.busy })))

-- a test on an edge that is there applies
there_tested : (a b : Bool) → a ≡ false → (not a && b) ≡ false → b ≡ false
there_tested false b e h = h
there_tested true b e h = absurd (true≢false e)

pub widen_keeps : (e : ℕ) (amount : Float) (f : Flows) → T (fits binary64 amount) → Invariant f → Invariant (Edges.widen e amount f).flows
unfolding Edges.widen Edges.no_widening Edges.wider no_such_edge
widen_keeps e amount f typed inv = refused_or (λ o. Invariant o.flows) _ (refused f) _ (λ n. inv) (λ none.
    let tests = neither (not_finite amount) (not (leb f.num_edges e) && not_an_amount ((get_or f.edges e blank_edge).capacity ⊕ amount)) none.0 in
    edge_widened_keeps e (read_zero amount) f (leb-false f.num_edges e none.1.0)
    (widened_plain (inv.edges e).capacity amount typed tests.0 (there_tested (leb f.num_edges e) (not_an_amount ((get_or f.edges e blank_edge).capacity ⊕ amount)) none.1.0 tests.1)) inv)

-- ---- submission

pub submit_capped_keeps : (id : ℕ) (owner : Owner) (path : List ℕ) (bytes : ℕ) (latency : Float) (cap : Cap) (until : Float) (f : Flows)
    → T (fits binary64 latency) → T (typed_cap cap) → T (fits binary64 until) → Invariant f → Invariant (Submission.submit_capped id owner path bytes latency cap until f).flows
unfolding Submission.submit_capped no_such_edge too_long is_full
submit_capped_keeps id owner path bytes latency cap until f typed typed-c typed-t inv = refused_or (λ o. Invariant o.flows) _ (refused f) _ (λ n. inv) (λ none.
    let tests = neither (not_finite latency || not_a_cap cap) (not_a_time until) none.0 in
    let amounts = neither (not_finite latency) (not_a_cap cap) tests.0 in
    submitted_keeps id owner path bytes (read_zero latency) (read_cap cap) (read_zero until) f
    (record {
      known = none.1.1.0;
      short = ltb-false max_path (length path) none.1.1.1.0;
      small = ltb-false (2 ^ 53) bytes none.1.1.1.1.0;
      paid = number_floored latency typed amounts.0;
      capped = cap_sound cap typed-c amounts.1;
      new = none.1.1.1.1.1.0;
      space = leb-false max_slots (num_in_flight f + f.num_completed) none.1.1.1.1.1.1.0;
      numbered = eqb-false (tally_of owner f.totals).submitted (2 ^ 64 - 1) none.1.1.1.1.1.1.1.0;
    })
    (drain_to_reaches inv (time_clock until typed-t tests.1) (time_no_earlier until typed-t tests.1 inv.clock.plain none.1.0)))

-- ---- advance

listing_keeps : (d : Flows) (list : List Completion) (f : Flows) (buffer : List ℕ) → Invariant f → Invariant (Advance.completed d list) → Invariant (Advance.list_done d list f buffer).outcome.flows
unfolding Advance.list_done
listing_keeps d list f buffer inv after = refused_or (λ (l : Lent). Invariant l.outcome.flows) _ (refused_lent f buffer) _ (λ n. inv) (λ none. after)

-- drained and with rates up to date, so that who is done may leave
pub completions_keep : {until : Float} {f : Flows} → Invariant f → ClockTime until → T (f.clock.now ≼ until)
    → let d = settled until f in Invariant (Advance.completed d (Advance.done_list d))
completions_keep {until} {f} inv time later = completed_keeps (settled until f) (ensure_rates_keeps (drain_to_keeps inv time later)) (settled_at_clock inv time later)

quiet_fresh : (until : Float) (f : Flows) → T (Advance.quiet until f) → f.clock.rates_dirty ≡ false
unfolding Advance.quiet
quiet_fresh until f still = is_false f.clock.rates_dirty (and_l (not f.clock.rates_dirty) (Advance.later_than until f.clock.next_done_at) still)

pub advance_keeps : (until : Float) (f : Flows) (buffer : List ℕ) → T (fits binary64 until) → Invariant f → Invariant (Advance.advance until f buffer).outcome.flows
unfolding Advance.advance
advance_keeps until f buffer typed inv = refused_or (λ (l : Lent). Invariant l.outcome.flows) _ (refused_lent f buffer) _ (λ n. inv) (λ none.
    let time = time_clock until typed none.0 in
    let later = time_no_earlier until typed none.0 inv.clock.plain none.1.0 in
    let d = settled (read_zero until) f in
    by_test (λ (l : Lent). Invariant l.outcome.flows) (Advance.quiet (read_zero until) f) (λ still. pass_time_keeps inv time later (quiet_fresh (read_zero until) f still))
    (listing_keeps d (Advance.done_list d) f buffer inv (completions_keep inv time later)))

-- ---- cancel and collect

pub cancel_keeps : (id : ℕ) (f : Flows) → Invariant f → Invariant (Cancel.cancel id f).flows
unfolding Cancel.cancel
cancel_keeps id f inv = go (contains id f) refl
  where
    go : (b : Bool) → contains id f ≡ b → Invariant (cond b (answering Done (Cancel.cancelled id f)) (answering Unknown f)).flows
    go true e = cancelled_keeps id f e (drained_to_clock_reaches inv)
    go false e = inv

pub take_completed_keeps : (owner : Owner) (f : Flows) (buffer : List ℕ) → Invariant f → Invariant (take_completed owner f buffer).outcome.flows
unfolding take_completed
take_completed_keeps owner f buffer inv = go (ids_for owner f)
  where
    go : (ids : List ℕ) → Invariant (taking ids owner f buffer).outcome.flows
    go [] = unfold taking in inv
    go (id ∷ ids) = unfold taking in refused_or (λ (l : Lent). Invariant l.outcome.flows) _ (refused_lent f buffer) _ (λ n. inv) (λ none. collected_keeps owner f inv)

pub owners_with_completions_keeps : (f : Flows) (buffer : List ℕ) → Invariant f → Invariant (owners_with_completions f buffer).outcome.flows
unfolding owners_with_completions
owners_with_completions_keeps f buffer inv = refused_or (λ (l : Lent). Invariant l.outcome.flows) _ (refused_lent f buffer) _ (λ n. inv) (λ none. inv)

-- ---- what drains, or brings rates up to date

pub next_completion_delay_keeps : (f : Flows) → Invariant f → Invariant (next_completion_delay f).flows
unfolding next_completion_delay
next_completion_delay_keeps f inv = ensure_rates_keeps inv

pub settle_keeps : (f : Flows) → Invariant f → Invariant (settle f).flows
unfolding settle
settle_keeps f inv = ensure_rates_keeps (drained_to_clock_keeps inv)

pub rate_keeps : (id : ℕ) (f : Flows) → Invariant f → Invariant (rate id f).flows
unfolding rate
rate_keeps id f inv = ensure_rates_keeps inv

pub bottleneck_keeps : (id : ℕ) (f : Flows) → Invariant f → Invariant (bottleneck id f).flows
unfolding bottleneck
bottleneck_keeps id f inv = ensure_rates_keeps inv
