-- What a page holds once text has been put on it. Definitions only.
use Rattle.std.specs.Prelude.{ℕ, Bool, false, cond, List, length, Float}
use Rattle.std.proofs.Math.Seq.{paste}
use Rattle.std.specs.Float.Ieee.{lt, neg}
use Rattle.doubles.specs.Doubles.{of_bits}

-- The text stands from a place on, and all around it stays.
unfoldable pub with_text : List ℕ → ℕ → List ℕ → List ℕ
with_text page at text = paste page at text (length text)

-- Strictly between -2^53 and 2^53.
unfoldable pub is_readable : Float → Bool
is_readable x = cond (lt x (of_bits 0x4340_0000_0000_0000)) (lt (neg (of_bits 0x4340_0000_0000_0000)) x) false
