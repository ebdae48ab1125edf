-- What counts as nothing left: B bytes, and eps seconds at a clock time. (01, Tolerance) Definitions only.
use Rattle.std.specs.Prelude.{◌^◌, Float}
use Rattle.doubles.specs.Doubles.{◌⊗◌, larger, nearest, whole}
use Rattle.rules.specs.declared.Tolerance.{Tolerance}

-- Bytes left that count as none: the double nearest a millionth. (01, Tolerance)
abbrev pub B : Float
B = nearest 1 1000000

-- Seconds that count as none at any clock where no other floor was given: the double nearest a millionth of a millionth. No floor is finer. (01, Tolerance; 02, P5)
abbrev pub F : Float
F = nearest 1 1000000000000

-- The coarsest floor there is: the double nearest a thousandth. (02, P5)
abbrev pub max_floor : Float
max_floor = nearest 1 1000

-- The tolerance of a simulator that was given none. (01, Tolerance)
abbrev pub default_tolerance : Tolerance
default_tolerance = record { floor = F }

-- Seconds that count as none at a clock time: the clock times four over 2^52, and never less than the floor. (01, Tolerance)
unfoldable pub eps : Tolerance → Float → Float
eps tolerance clock = larger (clock ⊗ whole 4 ⊗ nearest 1 (2 ^ 52)) tolerance.floor
