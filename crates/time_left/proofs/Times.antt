-- The time to done of a sound transfer is no time where it is done, more than eps where it is not, and never where bytes are left at rate 0; and eps is above 0.
-- Assumes nothing.
use Prim.Native.Nat.{◌^◌, ◌<◌}
use native.Mathlib.Omega.{arith}
use mathlib.Core.Bool.{Bool, true, false, not, ◌&&◌, ◌||◌, cond}
use lib.Dec.{T}
use lib.Ieee.{Float, round, of_int, mul, lt, fits, of_bits, le}
use Rattle.doubles.specs.Doubles.{◌⊕◌, ◌⊗◌, ◌⊘◌, ◌≺◌, ◌≼◌, nought, whole, nearest, plain, Plain}
use Rattle.doubles.specs.Exact.{exact}
use Rattle.doubles.proofs.Tests.{by_test}
use Rattle.doubles.proofs.Ordered.{le→exact, lt→exact, exact→lt}
use Rattle.doubles.proofs.Monotone.{count_le, product_mono, product_under}
use Rattle.doubles.proofs.Chosen.{larger_plain, larger_exact}
use Rattle.doubles.proofs.Binary64.{whole_plain, over_nonneg}
use Rattle.doubles.proofs.Signs.{plain_nonneg, sum_nonneg}
use Rattle.doubles.proofs.Zeros.{nought_plain}
use Rattle.doubles.proofs.Above.{not_at_most, not_above_zero, sum_at_most}
use Rattle.rules.specs.declared.Delay.{Delay}
use Rattle.rules.specs.declared.Delay.TheVariants.{After, Never}
use Rattle.rules.specs.declared.Transfer.{Transfer}
use Rattle.rules.specs.declared.Flows.{Flows}
use Rattle.rules.specs.Tolerance.{B, eps}
use Rattle.rules.specs.Done.{done_eps, is_done, time_to_done}
use Rattle.rules.specs.Invariant.{ClockTime, SoundFloor, SoundTransfer, Invariant}
use Rattle.rules.proofs.Floors.{default_floor}
use Rattle.time_left.proofs.Stalled.{Stalled}

-- ---- eps
-- no floor is finer than the default, and that is above 0
floor_above : {x : Float} → SoundFloor x → exact nought < exact x
floor_above floor =
    let h = lt→exact nought_plain default_floor.plain (unfold lt round of_bits in tt) in
    let k = le→exact default_floor.plain floor.plain floor.no_finer in
    omega arith

-- a step of a double at 1, as eps takes it
step_plain : Plain (nearest 1 (2 ^ 52))
unfolding plain fits round
step_plain = record { is_plain = tt; is_held = tt }

-- at the latest clock
latest_plain : Plain (whole (2 ^ 40) ⊗ whole 4)
unfolding plain fits mul of_int
latest_plain = record { is_plain = tt; is_held = tt }

latest_step_plain : Plain (whole (2 ^ 40) ⊗ whole 4 ⊗ nearest 1 (2 ^ 52))
unfolding plain fits mul of_int round
latest_step_plain = record { is_plain = tt; is_held = tt }

step_itself : T (nearest 1 (2 ^ 52) ≼ nearest 1 (2 ^ 52))
unfolding le round
step_itself = tt

module _ {clock : Float} (c : ClockTime clock) where
  four_le : T (whole 4 ≼ whole 4)
  four_le = count_le _ 4 4 (omega arith) (omega arith)

  scaled_plain : Plain (clock ⊗ whole 4)
  scaled_plain = product_under c.plain (whole_plain 4 (omega arith)) (whole_plain (2 ^ 40) (omega arith)) (whole_plain 4 (omega arith)) c.bounded four_le latest_plain

  scaled_le : T (clock ⊗ whole 4 ≼ whole (2 ^ 40) ⊗ whole 4)
  scaled_le = product_mono c.plain (whole_plain 4 (omega arith)) (whole_plain (2 ^ 40) (omega arith)) (whole_plain 4 (omega arith)) c.bounded four_le

  steps_plain : Plain (clock ⊗ whole 4 ⊗ nearest 1 (2 ^ 52))
  steps_plain = product_under scaled_plain step_plain latest_plain step_plain scaled_le step_itself latest_step_plain

module _ {f : Flows} (inv : Invariant f) where
  pub eps_plain : Plain (done_eps f)
  unfolding done_eps eps
  eps_plain = larger_plain (steps_plain inv.clock) inv.tolerance.plain

  pub eps_above : T (nought ≺ done_eps f)
  unfolding done_eps eps
  eps_above =
      exact→lt nought_plain eps_plain
      (rw (larger_exact (steps_plain inv.clock) inv.tolerance.plain) (omega (arith, floor_above inv.tolerance)))

below_itself : T (nought ≺ nought) → ⊥
below_itself h = let k : exact nought < exact nought = lt→exact nought_plain nought_plain h in omega arith

-- what is above eps is not 0
pub not_nought : {eps : Float} → Plain eps → T (nought ≺ eps) → T (eps ≺ nought) → ⊥
not_nought e above below = let h = lt→exact nought_plain e above in let k = lt→exact e nought_plain below in omega arith

-- ---- one transfer

-- What a time to done is of a transfer.
pub data Time (eps : Float) (t : Transfer) : Delay → Type 0 where
  now : T (is_done eps t) → (Stalled t → ⊥) → Time eps t (After nought)
  later : {x : Float} → T (not (is_done eps t)) → (Stalled t → ⊥) → T (eps ≺ x) → Time eps t (After x)
  never : T (not (is_done eps t)) → Stalled t → Time eps t Never

module _ {f : Flows} {t : Transfer} {eps : Float} (s : SoundTransfer f t) (e : Plain eps) where
  B_plain : Plain B
  unfolding plain fits round
  B_plain = record { is_plain = tt; is_held = tt }

  few_flows : T (t.bytes_remaining ≼ B) → Stalled t → ⊥
  few_flows few stalled = let h = le→exact s.bytes B_plain few in let k = lt→exact B_plain s.bytes stalled.0 in omega arith

  moving_flows : T (nought ≺ t.rate) → Stalled t → ⊥
  moving_flows moves stalled = below_itself (rw stalled.1 at moves)

  done_flows : T (is_done eps t) → Stalled t → ⊥
  unfolding is_done
  done_flows done = go (t.latency_remaining ≼ eps) (t.bytes_remaining ≼ B) (nought ≺ t.rate) (t.bytes_remaining ⊘ t.rate ≼ eps) done few_flows moving_flows
    where
      go : (a b m d : Bool) → T (a && (b || m && d)) → (T b → Stalled t → ⊥) → (T m → Stalled t → ⊥) → Stalled t → ⊥
      go true true m d h few moving = few tt
      go true false true d h few moving = moving tt
      go true false false d h few moving = absurd h
      go false b m d h few moving = absurd h

  latency_later : T (not (is_done eps t)) → T (t.bytes_remaining ≼ B) → T (eps ≺ t.latency_remaining)
  unfolding is_done
  latency_later undone few = not_at_most e (plain_nonneg s.latency) (go (t.latency_remaining ≼ eps) (t.bytes_remaining ≼ B) (nought ≺ t.rate && t.bytes_remaining ⊘ t.rate ≼ eps) few undone)
    where
      go : (a b c : Bool) → T b → T (not (a && (b || c))) → T (not a)
      go true true c k h = h
      go true false c k h = absurd k
      go false b c k h = tt

  bytes_later : T (not (is_done eps t)) → T (nought ≺ t.rate) → T (eps ≺ t.latency_remaining ⊕ t.bytes_remaining ⊘ t.rate)
  unfolding is_done
  bytes_later undone moves =
      let quotient = over_nonneg s.bytes s.rate moves in
      not_at_most e (sum_nonneg (plain_nonneg s.latency) quotient)
      (by_test (t.latency_remaining ⊕ t.bytes_remaining ⊘ t.rate ≼ eps) (λ (b : Bool). T (not b)) (λ h.
      let parts = sum_at_most s.latency quotient e h in
      absurd (go (t.latency_remaining ≼ eps) (t.bytes_remaining ≼ B) (nought ≺ t.rate) (t.bytes_remaining ⊘ t.rate ≼ eps) parts.0 moves parts.1 undone)) (λ h. tt))
    where
      go : (a b m d : Bool) → T a → T m → T d → T (not (a && (b || m && d))) → ⊥
      go true true m d k l n h = h
      go true false true true k l n h = h
      go true false true false k l n h = n
      go true false false d k l n h = l
      go false b m d k l n h = k

  -- the time of one that is not done: by its rate where its bytes count
  abbrev by_rate : Delay
  by_rate = cond (nought ≺ t.rate) (After (t.latency_remaining ⊕ t.bytes_remaining ⊘ t.rate)) Never

  abbrev by_bytes : Delay
  by_bytes = cond (t.bytes_remaining ≼ B) (After t.latency_remaining) by_rate

  by_rate_is : T (not (is_done eps t)) → T (not (t.bytes_remaining ≼ B)) → Time eps t by_rate
  by_rate_is undone many =
      by_test (nought ≺ t.rate) (λ (b : Bool). Time eps t (cond b (After (t.latency_remaining ⊕ t.bytes_remaining ⊘ t.rate)) Never))
      (λ moves. later undone (moving_flows moves) (bytes_later undone moves))
      (λ still. never undone (not_at_most B_plain (plain_nonneg s.bytes) many, not_above_zero s.rate still))

  by_bytes_is : T (not (is_done eps t)) → Time eps t by_bytes
  by_bytes_is undone =
      by_test (t.bytes_remaining ≼ B) (λ (b : Bool). Time eps t (cond b (After t.latency_remaining) by_rate))
      (λ few. later undone (few_flows few) (latency_later undone few))
      (by_rate_is undone)

  pub time_is : Time eps t (time_to_done eps t)
  unfolding time_to_done
  time_is = by_test (is_done eps t) (λ (b : Bool). Time eps t (cond b (After nought) by_bytes)) (λ done. now done (done_flows done)) by_bytes_is
