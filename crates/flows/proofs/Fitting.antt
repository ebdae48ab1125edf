-- What a call lists has room in the buffer that it was lent. Assumes nothing.
use Prim.Native.Nat.{ℕ, ◌*◌, ◌≤◌}
use native.Mathlib.Omega.{arith}
use mathlib.Core.Bool.{Bool, true, false, cond}
use mathlib.Core.List.{List, [], ◌∷◌}
use lib.Dec.{ltb}
use lib.ListN.{length}
use lib.Ieee.{Float}
use borrow.Author.Tests.{ltb-false}
use Rattle.doubles.specs.Doubles.{read_zero}
use Rattle.rules.specs.declared.Owner.{Owner}
use Rattle.rules.specs.declared.Answer.{Answer}
use Rattle.rules.specs.declared.Answer.TheVariants.{Done, Added, Listed, Nothing, Unknown, CannotFinish, Value, Due, Limited, Refused}
use Rattle.rules.specs.declared.Flows.{Flows}
use Rattle.rules.specs.declared.Call.{Call}
use Rattle.rules.specs.declared.Call.TheVariants as Call_variants
use Rattle.rules.specs.Clock.{ensure_rates, pass_time, drain_to}
use Rattle.rules.specs.Refusals.{Cause, ◌when◌, refusing, answering, Lent, lent, refused_lent}
use Rattle.rules.specs.Queue as Queue
use Rattle.rules.specs.Advance as Advance
use Rattle.keeps.proofs.Refusing.{None, refused_or}
use Rattle.rules.specs.Histories.{call}
use Rattle.flows.specs.Fits.{width_of, Fits, FitsSaid}

module _ (width : ℕ) (f : Flows) (buffer : List ℕ) where
  abbrev FitsLent : Lent → Type 0
  FitsLent l = Fits width (length buffer) l.outcome.answer

  -- a refusal lists nothing
  refuses : (causes : List Cause) (work : Lent) → (None causes → FitsLent work) → FitsLent (refusing causes (refused_lent f buffer) work)
  unfolding Fits
  refuses causes work fits = refused_or FitsLent causes (refused_lent f buffer) work (λ n. tt) fits

  -- refused where the list needs more places than there are
  with_room : (n need : ℕ) (g : Flows) (out : List ℕ) → n * width ≤ need → FitsLent (refusing (8 when ltb (length buffer) need ∷ []) (refused_lent f buffer) (lent (answering (Listed n) g) out))
  unfolding Fits
  with_room n need g out h = refuses (8 when ltb (length buffer) need ∷ []) (lent (answering (Listed n) g) out) (λ none. omega (arith, ltb-false (length buffer) need none.0))

pub advance_fits : (until : Float) (f : Flows) (buffer : List ℕ) → Fits 3 (length buffer) (Advance.advance until f buffer).outcome.answer
unfolding Advance.advance Advance.list_done Fits
advance_fits until f buffer = refuses 3 f buffer _ _ (λ none. go (Advance.quiet (read_zero until) f) (ensure_rates (drain_to (read_zero until) f)))
  where
    go : (b : Bool) (d : Flows) → FitsLent 3 f buffer (cond b (lent (answering (Listed 0) (pass_time (read_zero until) f)) buffer) (Advance.list_done d (Advance.done_list d) f buffer))
    go true d = omega arith
    go false d = with_room 3 f buffer _ _ _ _ (omega arith)

take_completed_fits : (owner : Owner) (f : Flows) (buffer : List ℕ) → Fits 1 (length buffer) (Queue.take_completed owner f buffer).outcome.answer
unfolding Queue.take_completed Queue.taking Fits
take_completed_fits owner f buffer = go (Queue.ids_for owner f)
  where
    go : (ids : List ℕ) → FitsLent 1 f buffer (Queue.taking ids owner f buffer)
    go [] = tt
    go (id ∷ ids) = with_room 1 f buffer _ _ _ _ (omega arith)

owners_with_completions_fits : (f : Flows) (buffer : List ℕ) → Fits 2 (length buffer) (Queue.owners_with_completions f buffer).outcome.answer
unfolding Queue.owners_with_completions Fits
owners_with_completions_fits f buffer = with_room 2 f buffer _ _ _ _ (omega arith)

-- ---- any call

-- an answer that no call's list is read from
nothing_fits : (places : ℕ) (a : Answer) → Fits 0 places a
unfolding Fits
nothing_fits places Done = tt
nothing_fits places (Added n) = tt
nothing_fits places (Listed n) = omega arith
nothing_fits places Nothing = tt
nothing_fits places Unknown = tt
nothing_fits places CannotFinish = tt
nothing_fits places (Value x) = tt
nothing_fits places (Due d) = tt
nothing_fits places (Limited l) = tt
nothing_fits places (Refused n) = tt

pub call_fits : (c : Call) (path : List ℕ) (f : Flows) (buffer : List ℕ) → FitsSaid (width_of c) (length buffer) (call c path f buffer).made.said
unfolding call width_of FitsSaid
call_fits (Call_variants.Advance time) path f buffer = advance_fits time f buffer
call_fits (Call_variants.Submit s) path f buffer = nothing_fits (length buffer) _
call_fits (Call_variants.Cancel id) path f buffer = nothing_fits (length buffer) _
call_fits (Call_variants.AddEdge capacity) path f buffer = nothing_fits (length buffer) _
call_fits (Call_variants.Widen e amount) path f buffer = nothing_fits (length buffer) _
call_fits (Call_variants.TakeCompleted owner) path f buffer = take_completed_fits owner f buffer
call_fits Call_variants.OwnersWithCompletions path f buffer = owners_with_completions_fits f buffer
call_fits Call_variants.NextCompletionDelay path f buffer = nothing_fits (length buffer) _
call_fits (Call_variants.EstimateNew e) path f buffer = nothing_fits (length buffer) _
call_fits Call_variants.Settle path f buffer = nothing_fits (length buffer) _
call_fits (Call_variants.Remaining id) path f buffer = tt
call_fits (Call_variants.MeanInFlight e until) path f buffer = nothing_fits (length buffer) _
call_fits (Call_variants.Rate id) path f buffer = nothing_fits (length buffer) _
call_fits (Call_variants.Bottleneck id) path f buffer = nothing_fits (length buffer) _
call_fits (Call_variants.Edge e) path f buffer = tt
call_fits (Call_variants.Contains id) path f buffer = tt
call_fits Call_variants.Rounds path f buffer = tt
