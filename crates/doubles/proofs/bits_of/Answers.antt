-- `doubles::bits_of` meets its contract: what equals itself is no NaN and has bits of its own, and what differs from itself is the NaN. Assumes nothing.
use Rattle.std.proofs.Common.{◌≡◌, true, not, T, refl}
use lib.Ieee.{Float, nan, inf, fin, binary64, eq, ne, is_nan, to_bits}
use lib.Ieee.Compare.{differs_from_itself}
use Rattle.doubles.specs.Doubles.{bits_of}
use Rattle.doubles.proofs.Tests.{passed, failed}
use Rattle.doubles.proofs.bits_of.Goals as goal

own_bits : (x : Float) → eq x x ≡ true → T (not (is_nan x)) × (to_bits binary64 x ≡ bits_of x)
unfolding eq is_nan bits_of
own_bits nan h = absurd (passed h)
own_bits (inf s) h = (tt, refl)
own_bits (fin s m e) h = (tt, refl)

pub float_to_bits-result : goal.float_to_bits-result
float_to_bits-result c = (own_bits c.args.x c.if-x.true).0

pub returns-then-x : goal.returns-then-x
returns-then-x c = (own_bits c.args.x c.if-x.true).1

pub returns-else-x : goal.returns-else-x
unfolding bits_of ne
returns-else-x c = rw (differs_from_itself c.args.x (failed c.if-x.false))
