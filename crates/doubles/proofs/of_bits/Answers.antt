-- `doubles::of_bits` meets its contract: a pattern is a NaN's exactly where, its sign taken off, it is above the infinity's. Assumes nothing.
use Rattle.std.proofs.Common.{◌≡◌, ◌%◌, true, sym, refl, ◌∙◌, arith, le-ltb, lt-ltb}
use lib.Ieee.{Float, nan, inf, fin, binary64, is_nan, of_bits, div}
use lib.Ieee.Bits.{nan_bits_is, nan_bits_above}
use Rattle.doubles.proofs.Tests.{passed}
use Rattle.doubles.proofs.of_bits.Goals as goal

nan_is : (x : Float) → is_nan x ≡ true → nan ≡ x
unfolding is_nan
nan_is nan h = refl
nan_is (inf s) h = absurd (passed h)
nan_is (fin s m e) h = absurd (passed h)

zeros_quotient : div binary64 (of_bits binary64 0) (of_bits binary64 0) ≡ nan
unfolding div of_bits
zeros_quotient = refl

pub float_from_bits-result : goal.float_from_bits-result
float_from_bits-result c = rw (nan_bits_above, le-ltb 0x7ff0_0000_0000_0000 (c.args.n % 0x8000_0000_0000_0000) (omega arith)) tt

pub returns-else-size-le9218868437227405312 : goal.returns-else-size-le9218868437227405312
returns-else-size-le9218868437227405312 c =
    zeros_quotient ∙ nan_is _ (sym (nan_bits_is binary64 c.args.n) ∙ nan_bits_above binary64 c.args.n ∙ lt-ltb _ _ c.if-size-le9218868437227405312.false)
