-- What is written is read back: sixteen hexadecimal digits spell the bits that they were made of, so a double that is put on a page is read from it as itself. Assumes nothing.
use mathlib.Core.Path.{◌≡◌, refl, ap, ◌∙◌}
use Prim.Native.Nat.{ℕ, zero, suc, ◌+◌, ◌*◌, ◌/◌, ◌%◌, ◌^◌, ◌≤◌, ◌<◌}
use native.Mathlib.Nat.{pow-suc, mod-lt, div-add-mod', div-lt_iff_lt-mul}
use native.Mathlib.Numerals.{add-one}
use native.Mathlib.Omega.{arith}
use mathlib.Core.Bool.{Bool, true, false, cond}
use mathlib.Core.List.{List, [], ◌∷◌, foldl, foldl-append}
use lib.Dec.{T, ltb}
use lib.ListN.{length, length-append}
use lib.Ieee.{Float, binary64, fits}
use borrow.Author.Tests.{ltb-true, ltb-false, lt-ltb, le-ltb, le-leb, lt-leb, eq-eqb}
use Rattle.io.specs.Digits.{hex_digit_ascii, last_digits}
use Rattle.doubles.specs.Doubles.{of_bits, bits_of}
use Rattle.doubles.proofs.Bits as bits
use Rattle.std.specs.Prelude.{Option, Some}
use Rattle.session_numbers.specs.Numbers.{digit, more, number_of}
use Rattle.session_numbers.specs.Reals.{bits_or, double_of}

-- A digit is read as what it was written for.
glyph_counts : (d : ℕ) → d < 16 → digit (hex_digit_ascii d) ≡ d
unfolding digit
glyph_counts d h = go (ltb d 10) refl
  where
    go : (b : Bool) → ltb d 10 ≡ b → digit (cond b (48 + d) (87 + d)) ≡ d
    go true e = let few : d < 10 = ltb-true d 10 e in rw (le-ltb (48 + d) 48 (omega arith), le-leb (48 + d) 57 (omega arith)) (omega arith)
    go false e =
        let many : 10 ≤ d = ltb-false d 10 e in
        rw (le-ltb (87 + d) 48 (omega arith), lt-leb (87 + d) 57 (omega arith), le-ltb (87 + d) 65 (omega arith), lt-leb (87 + d) 70 (omega arith), le-ltb (87 + d) 97 (omega arith), le-leb (87 + d) 102 (omega arith)) (omega arith)

-- One digit more behind the number before it.
one_more : (q d n : ℕ) → d < 16 → q * 16 + d ≡ n → n < 2 ^ 64 → more 16 (Some q) (hex_digit_ascii d) ≡ Some n
unfolding more
one_more q d n h e fits = rw (glyph_counts d h, lt-ltb d 16 h, e, lt-ltb n (2 ^ 64) fits)

-- So many digits spell the number, where they hold it.
spelled : (k n : ℕ) → n < 16 ^ k → n < 2 ^ 64 → foldl (more 16) (Some 0) (last_digits 16 k n) ≡ Some n
spelled zero n h fits = let none : 0 ≡ n = omega arith in ap Some none
spelled (suc k) n h fits =
    let front : n / 16 < 16 ^ k = (div-lt_iff_lt-mul {k = 16} {x = n} {y = 16 ^ k} (omega arith)).1 (rw pow-suc at h) in
    let whole : n / 16 * 16 + n % 16 ≡ n = div-add-mod' n 16 in
    foldl-append (more 16) (Some 0) (last_digits 16 k (n / 16)) (hex_digit_ascii (n % 16) ∷ [])
    ∙ ap (λ (m : Option ℕ). more 16 m (hex_digit_ascii (n % 16))) (spelled k (n / 16) front (omega arith))
    ∙ one_more (n / 16) (n % 16) n (mod-lt n (omega arith)) whole fits

length_digits : (k n : ℕ) → length (last_digits 16 k n) ≡ k
length_digits zero n = refl
length_digits (suc k) n = length-append (last_digits 16 k (n / 16)) (hex_digit_ascii (n % 16) ∷ []) ∙ rw (length_digits k (n / 16), add-one)

-- Where there are digits, all of them are read.
all_read : (word : List ℕ) → length word ≡ 16 → number_of 16 word ≡ foldl (more 16) (Some 0) word
unfolding number_of
all_read [] h = absurd (omega arith)
all_read (b ∷ word) h = refl

-- Sixteen digits that spell a number are a double's bits.
bits_of_word : (word : List ℕ) (n : ℕ) → length word ≡ 16 → foldl (more 16) (Some 0) word ≡ Some n → double_of word ≡ Some (of_bits n)
unfolding double_of bits_or
bits_of_word word n long reads = rw (eq-eqb (length word) 16 long, all_read word long, reads)

-- For every pattern of 64 bits.
pub bits_read_back : (n : ℕ) → n < 2 ^ 64 → double_of (last_digits 16 16 n) ≡ Some (of_bits n)
bits_read_back n h = bits_of_word (last_digits 16 16 n) n (length_digits 16 n) (spelled 16 n (omega arith) h)

-- So a double that was written is read as itself, a NaN too.
pub double_read_back : (x : Float) → T (fits binary64 x) → double_of (last_digits 16 16 (bits_of x)) ≡ Some x
double_read_back x t = bits_read_back (bits_of x) (bits.bits_in_width x t) ∙ ap Some (bits.bits_read_back x t)
