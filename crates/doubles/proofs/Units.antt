-- The exact value of a float that is plain and that its format holds: it agrees with the library's value, num / den, and it is a whole number of the format's
-- smallest values. Assumes nothing.
use Rattle.std.proofs.Common.{◌≡◌, ℕ, zero, suc, ◌+◌, ◌-◌, ◌*◌, ◌/◌, ◌%◌, ◌^◌, ◌<◌, ◌≤◌, Bool, true, false, ◌&&◌, T, eqb, ltb, leb, ℤ, pos, negsuc, sym, refl, ap, ◌∙◌, subst, true≢false, le_trans, le_of_eq, lt_of_lt_of_le, le_of_suc-le-suc, le-add_right, mul_assoc, mul_comm, mul-lt-mul_of_pos_right, lt_of_not-le, zero-mul, mul-one, mul_right_comm, not-le_of_lt, mul-div_cancel, arith, eqb→eq, ltb→lt, leb→le, pow_pos, pow_mono, pow-add}
use native.Mathlib.Nat.{eq_of_mul-eq-mul_right}
use lib.Pow.{pow-lt}
use lib.Ieee.{Float, nan, inf, fin, Format, prec, emax, low, up, down, fits, hid}
use lib.Ieee.Fits.{and_l, and_r}
use lib.Ieee.Exact.{HasValue}
use lib.Ieee.Scale.{overflow}
use lib.Ieee.Positive.{num, den, den_pos, value→cross}
use Rattle.doubles.specs.Doubles.{plain, PlainIn}
use Rattle.doubles.specs.Exact.{places, one, scaled, exact_in}

-- Twice what one rounding of a value up to c can move, in any format; for a double it is `step`.
unfoldable pub step_in : Format → ℕ → ℕ
step_in f c = c / hid f + hid f

-- ---- how many units make one
pub one_pos : (f : Format) → 0 < one f
unfolding one
one_pos f = pow_pos (places f)

pub one_split : (f : Format) → one f ≡ 2 ^ low f * hid f
unfolding one places
one_split f = pow-add 2 (low f) (prec f - 1)

-- ---- a plain float and a fraction that it equals
pub plain_of_value : (x : Float) (a c : ℕ) → HasValue x false a c → T (plain x)
unfolding plain
plain_of_value nan a c h = absurd h
plain_of_value (inf s) a c h = absurd h
plain_of_value (fin true m e) a c h = absurd (true≢false h.0)
plain_of_value (fin false m e) a c h = tt

value_of_cross : (x : Float) (a c : ℕ) → T (plain x) → num x * c ≡ a * den x → HasValue x false a c
unfolding plain
value_of_cross nan a c p h = absurd p
value_of_cross (inf s) a c p h = absurd p
value_of_cross (fin true m e) a c p h = absurd p
value_of_cross (fin false m e) a c p h = (refl, h)

-- ---- no exponent of the format reaches below the unit
no_more : (a b : ℕ) → 2 ^ a ≤ 2 ^ b → a ≤ b
no_more a b h = le_of_suc-le-suc (lt_of_not-le (λ (l : suc b ≤ a). not-le_of_lt (pow-lt l) h))

rejoin : (a b : ℕ) → b ≤ a → a - b + b ≡ a
rejoin a b h = omega arith

pub held_den : (f : Format) (x : Float) → T (fits f x) → den x ≤ 2 ^ low f
unfolding fits
held_den f nan t = pow_pos (low f)
held_den f (inf s) t = pow_pos (low f)
held_den f (fin s m (pos k)) t = pow_pos (low f)
held_den f (fin s zero (negsuc k)) t = le_trans (le_of_eq (sym (mul_comm 1 (2 ^ suc k) ∙ mul-one (2 ^ suc k)) ∙ eqb→eq (1 * 2 ^ suc k) 1 t)) (pow_pos (low f))
held_den f (fin s (suc m) (negsuc k)) t =
    let a : Bool = eqb (suc m % 2) 1 in
    let b : Bool = ltb (suc m) (2 ^ prec f) in
    let c : Bool = leb (2 ^ suc k) (2 ^ low f) in
    leb→le (2 ^ suc k) (2 ^ low f) (and_r (a && b) c (and_l (a && b && c) (ltb (suc m * 1) (2 ^ suc (emax f) * 2 ^ suc k)) t))

scaled_cross : (f : Format) (m : ℕ) (e : ℤ) → down e ≤ 2 ^ places f → scaled f m e * down e ≡ m * up e * one f
unfolding scaled one
scaled_cross f m (pos k) h = mul-one (m * 2 ^ (places f + k)) ∙ ap (λ (z : ℕ). m * z) (pow-add 2 (places f) k ∙ mul_comm (2 ^ places f) (2 ^ k)) ∙ sym (mul_assoc m (2 ^ k) (2 ^ places f))
scaled_cross f m (negsuc k) h =
    mul_assoc m (2 ^ (places f - suc k)) (2 ^ suc k)
    ∙ ap (λ (z : ℕ). m * z) (sym (pow-add 2 (places f - suc k) (suc k)) ∙ ap (λ (z : ℕ). 2 ^ z) (rejoin (places f) (suc k) (no_more (suc k) (places f) h)))
    ∙ ap (λ (z : ℕ). z * 2 ^ places f) (sym (mul-one m))

smallest_whole : (f : Format) → 2 ^ low f ≤ 2 ^ places f
unfolding places
smallest_whole f = pow_mono (le-add_right (low f) (prec f - 1))

-- a float that starts no lower than the format does: its exact value is its fraction times the units in one
deep_cross : (f : Format) (x : Float) → T (plain x) → den x ≤ 2 ^ low f → exact_in f x * den x ≡ num x * one f
unfolding plain exact_in
deep_cross f nan p d = absurd p
deep_cross f (inf s) p d = absurd p
deep_cross f (fin true m e) p d = absurd p
deep_cross f (fin false m e) p d = scaled_cross f m e (le_trans d (smallest_whole f))

-- and where that is g of the format's smallest values, it is g * hid units
pub exact_of_value : (f : Format) (x : Float) (g : ℕ) → den x ≤ 2 ^ low f → HasValue x false g (2 ^ low f) → exact_in f x ≡ g * hid f
exact_of_value f x g d v =
    eq_of_mul-eq-mul_right (den x) (den_pos x) (exact_in f x) (g * hid f)
    (deep_cross f x (plain_of_value x g (2 ^ low f) v) d
    ∙ ap (λ (z : ℕ). num x * z) (one_split f)
    ∙ sym (mul_assoc (num x) (2 ^ low f) (hid f))
    ∙ ap (λ (z : ℕ). z * hid f) (value→cross x g (2 ^ low f) v)
    ∙ mul_right_comm g (den x) (hid f))

-- ---- a value that the format holds is q * 2 ^ j of its smallest values, q having no more digits than the format keeps
abbrev pub Grid : Format → Float → Type 0
Grid f x = (q : ℕ) × (j : ℕ) × (q < 2 ^ prec f) × (q * 2 ^ j < overflow f) × (num x * 2 ^ low f ≡ q * 2 ^ j * den x)

grid_at : (f : Format) (m : ℕ) (e : ℤ) → m < 2 ^ prec f → down e ≤ 2 ^ low f → m * up e < 2 ^ suc (emax f) * down e → Grid f (fin false m e)
grid_at f m (pos k) a b c = (
  m,
  k + low f,
  a,
  subst (λ (x : ℕ). m * x < overflow f) (sym (pow-add 2 k (low f)))
      (lt_of_lt_of_le (subst (λ (x : ℕ). x < 2 ^ suc (emax f) * 1 * 2 ^ low f) (mul_assoc m (2 ^ k) (2 ^ low f)) (mul-lt-mul_of_pos_right c (pow_pos (low f))))
      (le_of_eq (ap (λ (x : ℕ). x * 2 ^ low f) (mul-one (2 ^ suc (emax f))) ∙ mul_comm (2 ^ suc (emax f)) (2 ^ low f) ∙ sym (pow-add 2 (low f) (suc (emax f)))))),
  mul_assoc m (2 ^ k) (2 ^ low f) ∙ ap (λ (x : ℕ). m * x) (sym (pow-add 2 k (low f))) ∙ sym (mul-one (m * 2 ^ (k + low f))),
)
grid_at f m (negsuc k) a b c =
    let l = low f in
    let d = suc k in
    let j = l - d in
    let p : 2 ^ j * 2 ^ d ≡ 2 ^ l = sym (pow-add 2 j d) ∙ ap (λ (x : ℕ). 2 ^ x) (rejoin l d (no_more d l b)) in (
      m,
      j,
      a,
      lt_of_lt_of_le (subst (λ (x : ℕ). x * 2 ^ j < 2 ^ suc (emax f) * 2 ^ d * 2 ^ j) (mul-one m) (mul-lt-mul_of_pos_right c (pow_pos j)))
          (le_of_eq (mul_assoc (2 ^ suc (emax f)) (2 ^ d) (2 ^ j) ∙ ap (λ (x : ℕ). 2 ^ suc (emax f) * x) (mul_comm (2 ^ d) (2 ^ j) ∙ p) ∙ mul_comm (2 ^ suc (emax f)) (2 ^ l) ∙ sym (pow-add 2 l (suc (emax f))))),
      ap (λ (x : ℕ). m * 1 * x) (sym p) ∙ ap (λ (x : ℕ). x * (2 ^ j * 2 ^ d)) (mul-one m) ∙ sym (mul_assoc m (2 ^ j) (2 ^ d)),
    )

grid_of : (f : Format) (x : Float) → T (plain x) → T (fits f x) → Grid f x
unfolding plain fits
grid_of f nan p t = absurd p
grid_of f (inf s) p t = absurd p
grid_of f (fin true m e) p t = absurd p
grid_of f (fin false zero e) p t = (
  0,
  0,
  pow_pos (prec f),
  subst (λ (x : ℕ). x < overflow f) (sym (zero-mul (2 ^ 0))) (pow_pos (low f + suc (emax f))),
  ap (λ (x : ℕ). x * 2 ^ low f) (zero-mul (up e)) ∙ zero-mul (2 ^ low f) ∙ sym (ap (λ (x : ℕ). x * down e) (zero-mul (2 ^ 0)) ∙ zero-mul (down e)),
)
grid_of f (fin false (suc m) e) p t =
    let a : Bool = eqb (suc m % 2) 1 in
    let b : Bool = ltb (suc m) (2 ^ prec f) in
    let c : Bool = leb (down e) (2 ^ low f) in
    let d : Bool = ltb (suc m * up e) (2 ^ suc (emax f) * down e) in
    grid_at f (suc m) e (ltb→lt (suc m) (2 ^ prec f) (and_r a b (and_l (a && b) c (and_l (a && b && c) d t))))
    (leb→le (down e) (2 ^ low f) (and_r (a && b) c (and_l (a && b && c) d t)))
    (ltb→lt (suc m * up e) (2 ^ suc (emax f) * down e) (and_r (a && b && c) d t))

-- ---- the laws
module _ {f : Format} {x : Float} (p : PlainIn f x) where
  -- x is the fraction exact / one: the definition agrees with the library's value
  pub exact_cross : exact_in f x * den x ≡ num x * one f
  exact_cross = deep_cross f x p.is_plain (held_den f x p.is_held)

  pub exact_value : HasValue x false (exact_in f x) (one f)
  exact_value = value_of_cross x (exact_in f x) (one f) p.is_plain (sym exact_cross)

  pub grid_value : (g : Grid f x) × HasValue x false (g.0 * 2 ^ g.1) (2 ^ low f) × (exact_in f x ≡ g.0 * 2 ^ g.1 * hid f)
  grid_value =
      let g = grid_of f x p.is_plain p.is_held in
      let v = value_of_cross x (g.0 * 2 ^ g.1) (2 ^ low f) p.is_plain g.4 in
      (g, v, exact_of_value f x (g.0 * 2 ^ g.1) (held_den f x p.is_held) v)

  -- it is a whole number of the format's smallest values
  pub exact_whole : exact_in f x / hid f * hid f ≡ exact_in f x
  exact_whole =
      let g = grid_value.0 in
      let e = grid_value.2 in
      ap (λ (z : ℕ). z / hid f * hid f) e ∙ ap (λ (z : ℕ). z * hid f) (mul-div_cancel (g.0 * 2 ^ g.1) (pow_pos (prec f - 1))) ∙ sym e
