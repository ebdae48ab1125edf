-- Being done, and the time until then. (01, Tolerance) Definitions only.
use Rattle.std.specs.Prelude.{Bool, ◌&&◌, ◌||◌, cond, Float}
use Rattle.doubles.specs.Doubles.{◌⊕◌, ◌⊘◌, ◌≺◌, ◌≼◌, nought}
use Rattle.rules.specs.declared.Delay.{Delay}
use Rattle.rules.specs.declared.Delay.TheVariants.{After, Never}
use Rattle.rules.specs.declared.Transfer.{Transfer}
use Rattle.rules.specs.declared.Flows.{Flows}
use Rattle.rules.specs.Tolerance.{B, eps}

-- The seconds that count as none at a simulator's clock. (01, Tolerance)
unfoldable pub done_eps : Flows → Float
done_eps f = eps f.tolerance f.clock.now

-- A transfer is done: its latency is paid within eps, and so are its bytes, for they count as none or would be gone within eps. (01, Tolerance)
unfoldable pub is_done : Float → Transfer → Bool
is_done eps t = t.latency_remaining ≼ eps && (t.bytes_remaining ≼ B || nought ≺ t.rate && t.bytes_remaining ⊘ t.rate ≼ eps)

-- The time until a transfer is done at its rate: no time if it is, else its latency, with the time for its bytes where they count. (01, Tolerance)
unfoldable pub time_to_done : Float → Transfer → Delay
time_to_done eps t =
    cond (is_done eps t) (After nought)
    (cond (t.bytes_remaining ≼ B) (After t.latency_remaining)
    (cond (nought ≺ t.rate) (After (t.latency_remaining ⊕ t.bytes_remaining ⊘ t.rate))
    Never))

-- The earlier of two delays; the first at equality. (01, Clock)
unfoldable pub sooner : Delay → Delay → Delay
sooner Never d = d
sooner (After a) Never = After a
sooner (After a) (After b) = cond (b ≺ a) (After b) (After a)
