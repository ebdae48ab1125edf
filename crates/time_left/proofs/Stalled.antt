-- What it is for a transfer to stall. Assumes nothing.
use mathlib.Core.Path.{◌≡◌}
use lib.Dec.{T}
use Rattle.doubles.specs.Doubles.{◌≺◌, nought}
use Rattle.rules.specs.declared.Transfer.{Transfer}
use Rattle.rules.specs.Tolerance.{B}

-- Bytes are left, and none flow.
abbrev pub Stalled : Transfer → Type 0
Stalled t = T (B ≺ t.bytes_remaining) × (t.rate ≡ nought)
