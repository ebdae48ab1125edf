-- Times to done are no NaN and not below zero, the smallest of them neither, and so next_done is sound. Assumes nothing.
use mathlib.Core.Path.{◌≡◌, refl}
use mathlib.Core.Bool.{Bool, true, false, cond}
use mathlib.Core.List.{List, [], ◌∷◌, foldl}
use Prim.Native.Nat.{suc}
use lib.Ieee.{Float}
use Rattle.doubles.specs.Doubles.{◌≺◌, ◌≼◌, nought, Nonneg}
use Rattle.doubles.proofs.Binary64.{over_nonneg}
use Rattle.doubles.proofs.Signs.{plain_nonneg, sum_nonneg}
use Rattle.doubles.proofs.Zeros.{nought_plain}
use Rattle.rules.specs.declared.Delay.{Delay}
use Rattle.rules.specs.declared.Delay.TheVariants.{After, Never}
use Rattle.rules.specs.declared.Transfer.{Transfer}
use Rattle.rules.specs.declared.Flows.{Flows}
use Rattle.rules.specs.Lists.{Each}
use Rattle.rules.specs.Tolerance.{B, eps}
use Rattle.rules.specs.Records.{free}
use Rattle.rules.specs.Done.{done_eps, is_done, time_to_done, sooner}
use Rattle.rules.specs.Clock.{soonest, ahead}
use Rattle.rules.specs.Invariant.{SoundNext, at, nobody, SoundTransfer, SoundSlot, Invariant}
use Rattle.rules.proofs.Conds.{by_test}

-- ---- delays
-- A delay, where there is one, is no NaN and not below zero; it may be infinite.
pub data SoundDelay : Delay → Type 0 where
  after : {x : Float} → Nonneg x → SoundDelay (After x)
  never : SoundDelay Never

pub time_sound : {f : Flows} {t : Transfer} (eps : Float) → SoundTransfer f t → SoundDelay (time_to_done eps t)
unfolding time_to_done
time_sound {f} {t} eps s =
    by_test SoundDelay (is_done eps t) (λ _. after (plain_nonneg nought_plain))
    (by_test SoundDelay (t.bytes_remaining ≼ B) (λ _. after (plain_nonneg s.latency))
    (by_test SoundDelay (nought ≺ t.rate) (λ h. after (sum_nonneg (plain_nonneg s.latency) (over_nonneg s.bytes s.rate h))) never))

pub sooner_sound : {a b : Delay} → SoundDelay a → SoundDelay b → SoundDelay (sooner a b)
unfolding sooner
sooner_sound never q = q
sooner_sound (after p) never = after p
sooner_sound (after {x = x} p) (after {x = y} q) = by_test SoundDelay (y ≺ x) (λ _. after q) (after p)

soonest_from : (f : Flows) (eps : Float) (slots : List Transfer) (d : Delay) → Each (SoundSlot f) free slots → SoundDelay d → SoundDelay (foldl (λ d t. cond t.taken (sooner d (time_to_done eps t)) d) d slots)
soonest_from f eps [] d each p = p
soonest_from f eps (t ∷ slots) d each p =
    soonest_from f eps slots (cond t.taken (sooner d (time_to_done eps t)) d) (λ i. each (suc i)) (go t.taken refl)
  where
    go : (b : Bool) → t.taken ≡ b → SoundDelay (cond b (sooner d (time_to_done eps t)) d)
    go true e = sooner_sound p (time_sound eps ((each 0).held e))
    go false e = p

pub soonest_sound : {f : Flows} (eps : Float) (slots : List Transfer) → Each (SoundSlot f) free slots → SoundDelay (soonest eps slots)
unfolding soonest
soonest_sound {f} eps slots each = soonest_from f eps slots Never each never

-- ---- next_done
pub ahead_sound : {now : Float} {d : Delay} → Nonneg now → SoundDelay d → SoundNext (ahead now d)
unfolding ahead
ahead_sound n (after p) = at (sum_nonneg n p)
ahead_sound n never = nobody

-- ---- of a simulator
module _ {f : Flows} (inv : Invariant f) where
  -- slots that are sound in it, as a filling leaves them
  pub next_sound : (slots : List Transfer) → Each (SoundSlot f) free slots → SoundNext (ahead f.clock.now (soonest (done_eps f) slots))
  next_sound slots each = ahead_sound (plain_nonneg inv.clock.plain) (soonest_sound (done_eps f) slots each)
