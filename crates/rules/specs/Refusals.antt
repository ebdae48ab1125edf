-- The numbers that a call can answer in place of its work, and their causes. (01, Numbers) Definitions only.
use Rattle.std.specs.Prelude.{ℕ, ◌+◌, ◌^◌, Bool, true, false, not, ◌&&◌, ◌||◌, cond, List, [], ◌∷◌, ltb, leb, length, Float}
use Rattle.doubles.specs.Doubles.{◌≺◌, ◌≼◌, nought, whole, is_finite, read_zero}
use Rattle.rules.specs.declared.Cap.{Cap}
use Rattle.rules.specs.declared.Cap.TheVariants.{AtMost, Uncapped}
use Rattle.rules.specs.declared.Answer.{Answer}
use Rattle.rules.specs.declared.Answer.TheVariants.{Refused}
use Rattle.rules.specs.declared.Outcome.{Outcome}
use Rattle.rules.specs.declared.Flows.{Flows}
use Rattle.rules.specs.Tolerance.{F, max_floor}
use Rattle.rules.specs.Records.{max_path, max_slots, num_in_flight}

-- ---- refusing

infix 68 ◌when◌
-- A number of the table, and whether it applies. (01, Numbers)
pub data Cause : Type 0 where
  ◌when◌ : ℕ → Bool → Cause

-- The lowest number that applies is answered, the causes standing by ascending number; where none does, the work is done. (01, Numbers)
unfoldable pub refusing : {A : Type 0} → List Cause → (ℕ → A) → A → A
refusing [] refused work = work
refusing ((n when applies) ∷ causes) refused work = let later = refusing causes refused work in cond applies (refused n) later

-- Whether the causes of a list stand by ascending number. (01, Numbers)
unfoldable pub ascending : List Cause → Bool
ascending [] = true
ascending ((m when a) ∷ []) = true
ascending ((m when a) ∷ (n when b) ∷ causes) = ltb m n && ascending ((n when b) ∷ causes)

-- A simulator with an answer.
abbrev pub answering : Answer → Flows → Outcome
answering answer f = record { answer = answer; flows = f }

-- A refusal leaves the simulator as it was. (01, Numbers)
abbrev pub refused : Flows → ℕ → Outcome
refused f n = answering (Refused n) f

-- An outcome together with what the lent buffer then holds. (01, Clock)
pub record Lent : Type 0 where
  pub outcome : Outcome
  pub buffer : List ℕ

-- An outcome with a buffer. (01, Clock)
abbrev pub lent : Outcome → List ℕ → Lent
lent outcome buffer = record { outcome = outcome; buffer = buffer }

-- A refusal leaves the buffer as it was, too. (01, Numbers)
abbrev pub refused_lent : Flows → List ℕ → ℕ → Lent
refused_lent f buffer n = lent (refused f n) buffer

-- ---- the causes

-- 1: NaN or infinite. (01, Numbers)
unfoldable pub not_finite : Float → Bool
not_finite x = not (is_finite x)

-- 1: NaN, infinite or below zero. (01, Numbers)
unfoldable pub not_an_amount : Float → Bool
not_an_amount x = not (is_finite x) || x ≺ nought

-- 1: no clock time, which lies from 0 to 2^40 seconds. (01, Numbers)
unfoldable pub not_a_time : Float → Bool
not_a_time x = not_an_amount x || whole (2 ^ 40) ≺ x

-- 1: a cap that is no amount. (01, Numbers)
unfoldable pub not_a_cap : Cap → Bool
not_a_cap (AtMost c) = not_an_amount c
not_a_cap Uncapped = false

-- 1: no floor, which lies from a millionth of a millionth to a thousandth of a second, both included. (02, P5)
unfoldable pub not_a_floor : Float → Bool
not_a_floor x = not (F ≼ x && x ≼ max_floor)

-- 3: a number that no edge has. (01, Numbers)
unfoldable pub no_such_edge : Flows → ℕ → Bool
no_such_edge f e = leb f.num_edges e

-- 4: more edges than a path may have. (01, Numbers)
unfoldable pub too_long : List ℕ → Bool
too_long path = ltb max_path (length path)

-- 7: no room for one more transfer beside those in flight and uncollected. (01, Numbers)
unfoldable pub is_full : Flows → Bool
is_full f = leb max_slots (num_in_flight f + f.num_completed)

-- 8: a list of so many numbers in a buffer that is shorter. (01, Numbers)
abbrev pub short_buffer : ℕ → List ℕ → List Cause
short_buffer n buffer = 8 when ltb (length buffer) n ∷ []

-- ---- arguments as read

-- A cap whose negative zero is read as zero. (01, Numbers)
unfoldable pub read_cap : Cap → Cap
read_cap (AtMost c) = AtMost (read_zero c)
read_cap Uncapped = Uncapped
