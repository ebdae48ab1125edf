-- Bit patterns lose nothing but a NaN's own bits: the bits written for a double are read back as that double, a pattern that is no NaN's is written back as itself,
-- and a pattern always spells a double. Assumes nothing.
use Rattle.std.proofs.Common.{◌≡◌, ℕ, ◌^◌, ◌<◌, not, T, refl, ◌∙◌, lit<}
use lib.Ieee.{Float, nan, inf, fin, binary64, is_nan, fits, of_bits as decoded, to_bits}
use lib.Ieee.Bits.{of_bits-to_bits, to_bits-of_bits, to_bits-lt, of_bits-fits}
use Rattle.doubles.specs.Doubles.{of_bits, bits_of}

pub of_bits_held : (n : ℕ) → T (fits binary64 (of_bits n))
of_bits_held n = of_bits-fits binary64 n

pub bits_read_back : (x : Float) → T (fits binary64 x) → of_bits (bits_of x) ≡ x
unfolding bits_of
bits_read_back nan t = unfold decoded in refl
bits_read_back (inf s) t = of_bits-to_bits binary64 (inf s) t
bits_read_back (fin s m e) t = of_bits-to_bits binary64 (fin s m e) t

own_bits : (x : Float) → T (not (is_nan x)) → bits_of x ≡ to_bits binary64 x
unfolding bits_of is_nan
own_bits nan t = absurd t
own_bits (inf s) t = refl
own_bits (fin s m e) t = refl

pub bits_written_back : (n : ℕ) → n < 2 ^ 64 → T (not (is_nan (of_bits n))) → bits_of (of_bits n) ≡ n
bits_written_back n h t = own_bits (of_bits n) t ∙ to_bits-of_bits binary64 n h t

pub bits_in_width : (x : Float) → T (fits binary64 x) → bits_of x < 2 ^ 64
unfolding bits_of
bits_in_width nan t = lit< tt
bits_in_width (inf s) t = to_bits-lt binary64 (inf s) t
bits_in_width (fin s m e) t = to_bits-lt binary64 (fin s m e) t
