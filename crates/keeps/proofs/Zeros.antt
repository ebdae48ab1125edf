-- A call with its zeros read is the same call: no test of an argument tells one zero from the other, nor a sum with a capacity nor a mean, and the work takes its arguments
-- as read. Assumes nothing.
use Prim.Native.Nat.{◌^◌}
use native.Mathlib.Nat.{zero-mul}
use mathlib.Core.Path.{◌≡◌, refl}
use mathlib.Core.Bool.{Bool, true, false}
use lib.IntN.{ℤ}
use lib.Ieee.{Float, fin, lt, of_bits}
use Rattle.doubles.specs.Doubles.{nought, whole, read_zero}
use Rattle.doubles.proofs.Zeros.{read_zero_unseen, read_zero_finite, read_zero_twice, read_zero_less, less_read_zero, sum_read_zero}
use Rattle.rules.specs.declared.Cap.{Cap}
use Rattle.rules.specs.declared.Cap.TheVariants.{AtMost, Uncapped}
use Rattle.rules.specs.declared.Edge.{Edge}
use Rattle.rules.specs.declared.Call.TheVariants as Call_variants
use Rattle.rules.specs.Refusals.{not_finite, not_an_amount, not_a_time, not_a_cap, read_cap}
use Rattle.rules.specs.Edges as Edges
use Rattle.rules.specs.Submission as Submission
use Rattle.rules.specs.Advance as Advance
use Rattle.rules.specs.Questions as Questions
use Rattle.rules.specs.Histories.{call, zeros_read}
use Rattle.rules.specs.Invariant.{SoundEdge}
use Rattle.rules.specs.Promises.{ZerosAreOne}

-- ---- the tests of an argument
module _ (x : Float) where
  number_read : not_finite (read_zero x) ≡ not_finite x
  unfolding not_finite
  number_read = rw read_zero_finite

  amount_read : not_an_amount (read_zero x) ≡ not_an_amount x
  unfolding not_an_amount
  amount_read = rw (read_zero_finite x, read_zero_less x nought)

  time_read : not_a_time (read_zero x) ≡ not_a_time x
  unfolding not_a_time
  time_read = rw (amount_read, less_read_zero x (whole (2 ^ 40)))

cap_read : (cap : Cap) → not_a_cap (read_cap cap) ≡ not_a_cap cap
unfolding not_a_cap read_cap
cap_read (AtMost c) = amount_read c
cap_read Uncapped = refl

read_cap_twice : (cap : Cap) → read_cap (read_cap cap) ≡ read_cap cap
unfolding read_cap
read_cap_twice (AtMost c) = rw read_zero_twice
read_cap_twice Uncapped = refl

-- ---- what is worked out of an argument as it came
wider_read : (amount : Float) (e : Edge) → SoundEdge e → Edges.wider (read_zero amount) e ≡ Edges.wider amount e
unfolding Edges.wider
wider_read amount e sound = sum_read_zero sound.capacity amount

mean_read : (until : Float) (e : Edge) → Questions.mean_over (read_zero until) e ≡ Questions.mean_over until e
unfolding Questions.mean_over lt of_bits
mean_read until e = read_zero_unseen (λ z. Questions.mean_over z e) zeros until
  where
    zeros : (s : Bool) (d : ℤ) → Questions.mean_over nought e ≡ Questions.mean_over (fin s 0 d) e
    zeros false d = simp zero-mul
    zeros true d = refl

-- ---- the calls
ruleset as_read = (read_zero_twice, read_zero_less, read_cap_twice, number_read, amount_read, time_read, cap_read, mean_read)

pub zeros_are_one : ZerosAreOne
unfolding call zeros_read Advance.advance Submission.submit_capped Edges.add_edge Edges.widen Edges.no_widening Questions.estimate_new_capped Questions.mean_in_flight
zeros_are_one (Call_variants.Advance time) path f buffer inv = simp as_read
zeros_are_one (Call_variants.Submit s) path f buffer inv = simp as_read
zeros_are_one (Call_variants.Cancel id) path f buffer inv = refl
zeros_are_one (Call_variants.AddEdge capacity) path f buffer inv = simp as_read
zeros_are_one (Call_variants.Widen e amount) path f buffer inv = simp (as_read, wider_read amount _ (inv.edges e))
zeros_are_one (Call_variants.TakeCompleted owner) path f buffer inv = refl
zeros_are_one Call_variants.OwnersWithCompletions path f buffer inv = refl
zeros_are_one Call_variants.NextCompletionDelay path f buffer inv = refl
zeros_are_one (Call_variants.EstimateNew e) path f buffer inv = simp as_read
zeros_are_one Call_variants.Settle path f buffer inv = refl
zeros_are_one (Call_variants.Remaining id) path f buffer inv = refl
zeros_are_one (Call_variants.MeanInFlight e until) path f buffer inv = simp as_read
zeros_are_one (Call_variants.Rate id) path f buffer inv = refl
zeros_are_one (Call_variants.Bottleneck id) path f buffer inv = refl
zeros_are_one (Call_variants.Edge e) path f buffer inv = refl
zeros_are_one (Call_variants.Contains id) path f buffer inv = refl
zeros_are_one Call_variants.Rounds path f buffer inv = refl
