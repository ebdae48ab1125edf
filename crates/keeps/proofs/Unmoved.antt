-- A call that says no has left the simulator and its buffer as they were: refusing hands back what came in, and so do a cancel that finds no such id and a take that finds nothing. Assumes
-- nothing.
use Prim.Native.Nat.{ℕ}
use mathlib.Core.Path.{◌≡◌, refl}
use mathlib.Core.Bool.{Bool, true, false, cond}
use mathlib.Core.List.{List, [], ◌∷◌}
use lib.Dec.{T}
use lib.Ieee.{Float}
use Rattle.doubles.specs.Doubles.{read_zero}
use Rattle.rules.specs.declared.Owner.{Owner}
use Rattle.rules.specs.declared.Answer.TheVariants.{Done, Listed, Unknown}
use Rattle.rules.specs.declared.Outcome.{Outcome}
use Rattle.rules.specs.declared.Flows.{Flows}
use Rattle.rules.specs.declared.Call.{Call}
use Rattle.rules.specs.declared.Call.TheVariants as Call_variants
use Rattle.rules.specs.Records as Records
use Rattle.rules.specs.Clock.{ensure_rates, pass_time, drain_to}
use Rattle.rules.specs.Refusals.{Cause, refusing, answering, refused, Lent, lent, refused_lent}
use Rattle.rules.specs.Queue as Queue
use Rattle.rules.specs.Edges as Edges
use Rattle.rules.specs.Submission as Submission
use Rattle.rules.specs.Advance as Advance
use Rattle.rules.specs.Cancel as Cancel
use Rattle.rules.specs.Histories.{call}
use Rattle.rules.specs.Unmoved.{is_no, says_no, touch, unmoved}
use Rattle.rules.specs.Promises.{RefusalsMoveNothing, RefusalsWriteNothing}
use Rattle.keeps.proofs.Refusing.{refused_or}

-- An outcome that leaves f as it was wherever it says no.
abbrev Still : Flows → Outcome → Type 0
Still f o = T (is_no o.answer) → o.flows ≡ f

-- The same of an outcome with a buffer, which is left as it was too.
abbrev StillLent : Flows → List ℕ → Lent → Type 0
StillLent f buffer l = T (is_no l.outcome.answer) → (l.outcome.flows ≡ f) × (l.buffer ≡ buffer)

-- a call whose work says yes
module _ (f : Flows) where
  refuses : (causes : List Cause) (work : Outcome) → (T (is_no work.answer) → ⊥) → Still f (refusing causes (refused f) work)
  refuses causes work positive = refused_or (Still f) causes (refused f) work (λ n says. refl) (λ none says. absurd (positive says))

  refuses_lent : (causes : List Cause) (buffer : List ℕ) (work : Lent) → StillLent f buffer work → StillLent f buffer (refusing causes (refused_lent f buffer) work)
  refuses_lent causes buffer work still = refused_or (StillLent f buffer) causes (refused_lent f buffer) work (λ n says. (refl, refl)) (λ none. still)

still_cancel : (id : ℕ) (f : Flows) → Still f (Cancel.cancel id f)
unfolding Cancel.cancel is_no
still_cancel id f = go (Records.contains id f)
  where
    go : (b : Bool) → Still f (cond b (answering Done (Cancel.cancelled id f)) (answering Unknown f))
    go true says = absurd says
    go false says = refl

still_advance : (until : Float) (f : Flows) (buffer : List ℕ) → StillLent f buffer (Advance.advance until f buffer)
unfolding Advance.advance Advance.list_done is_no
still_advance until f buffer = refuses_lent f _ buffer _ (go (Advance.quiet (read_zero until) f) (ensure_rates (drain_to (read_zero until) f)))
  where
    go : (b : Bool) (d : Flows) → StillLent f buffer (cond b (lent (answering (Listed 0) (pass_time (read_zero until) f)) buffer) (Advance.list_done d (Advance.done_list d) f buffer))
    go true d = λ says. absurd says
    go false d = refuses_lent f _ buffer _ (λ says. absurd says)

still_take : (owner : Owner) (f : Flows) (buffer : List ℕ) → StillLent f buffer (Queue.take_completed owner f buffer)
unfolding Queue.take_completed is_no
still_take owner f buffer = go (Queue.ids_for owner f)
  where
    go : (ids : List ℕ) → StillLent f buffer (Queue.taking ids owner f buffer)
    go [] = unfold Queue.taking in λ says. (refl, refl)
    go (id ∷ ids) = unfold Queue.taking in refuses_lent f _ buffer _ (λ says. absurd says)

still_owners : (f : Flows) (buffer : List ℕ) → StillLent f buffer (Queue.owners_with_completions f buffer)
unfolding Queue.owners_with_completions is_no
still_owners f buffer = refuses_lent f _ buffer _ (λ says. absurd says)

-- the list of owners never moves the simulator
pub owners_still : (f : Flows) (buffer : List ℕ) → (Queue.owners_with_completions f buffer).outcome.flows ≡ f
unfolding Queue.owners_with_completions
owners_still f buffer = refused_or (λ (l : Lent). l.outcome.flows ≡ f) _ (refused_lent f buffer) _ (λ n. refl) (λ none. refl)

call_still : (c : Call) (path : List ℕ) (f : Flows) (buffer : List ℕ) → let left = call c path f buffer in T (unmoved (touch c) left.made.said) → left.made.flows ≡ f
unfolding call touch unmoved says_no is_no Edges.add_edge Edges.widen Submission.submit_capped
call_still (Call_variants.Advance time) path f buffer says = (still_advance time f buffer says).0
call_still (Call_variants.Submit s) path f buffer says = refuses f _ _ (λ s. s) says
call_still (Call_variants.Cancel id) path f buffer says = still_cancel id f says
call_still (Call_variants.AddEdge capacity) path f buffer says = refuses f _ _ (λ s. s) says
call_still (Call_variants.Widen e amount) path f buffer says = refuses f _ _ (λ s. s) says
call_still (Call_variants.TakeCompleted owner) path f buffer says = (still_take owner f buffer says).0
call_still Call_variants.OwnersWithCompletions path f buffer says = owners_still f buffer
call_still Call_variants.NextCompletionDelay path f buffer says = absurd says
call_still (Call_variants.EstimateNew e) path f buffer says = refl
call_still Call_variants.Settle path f buffer says = absurd says
call_still (Call_variants.Remaining id) path f buffer says = refl
call_still (Call_variants.MeanInFlight e until) path f buffer says = refl
call_still (Call_variants.Rate id) path f buffer says = absurd says
call_still (Call_variants.Bottleneck id) path f buffer says = absurd says
call_still (Call_variants.Edge e) path f buffer says = refl
call_still (Call_variants.Contains id) path f buffer says = refl
call_still Call_variants.Rounds path f buffer says = refl

-- only the calls that list write at all
call_unwritten : (c : Call) (path : List ℕ) (f : Flows) (buffer : List ℕ) → let left = call c path f buffer in T (says_no left.made.said) → left.buffer ≡ buffer
unfolding call says_no
call_unwritten (Call_variants.Advance time) path f buffer says = (still_advance time f buffer says).1
call_unwritten (Call_variants.Submit s) path f buffer says = refl
call_unwritten (Call_variants.Cancel id) path f buffer says = refl
call_unwritten (Call_variants.AddEdge capacity) path f buffer says = refl
call_unwritten (Call_variants.Widen e amount) path f buffer says = refl
call_unwritten (Call_variants.TakeCompleted owner) path f buffer says = (still_take owner f buffer says).1
call_unwritten Call_variants.OwnersWithCompletions path f buffer says = (still_owners f buffer says).1
call_unwritten Call_variants.NextCompletionDelay path f buffer says = refl
call_unwritten (Call_variants.EstimateNew e) path f buffer says = refl
call_unwritten Call_variants.Settle path f buffer says = refl
call_unwritten (Call_variants.Remaining id) path f buffer says = refl
call_unwritten (Call_variants.MeanInFlight e until) path f buffer says = refl
call_unwritten (Call_variants.Rate id) path f buffer says = refl
call_unwritten (Call_variants.Bottleneck id) path f buffer says = refl
call_unwritten (Call_variants.Edge e) path f buffer says = refl
call_unwritten (Call_variants.Contains id) path f buffer says = refl
call_unwritten Call_variants.Rounds path f buffer says = refl

pub refusals_move_nothing : RefusalsMoveNothing
refusals_move_nothing t f says = call_still t.call t.path f t.buffer says

pub refusals_write_nothing : RefusalsWriteNothing
refusals_write_nothing t f says = call_unwritten t.call t.path f t.buffer says
