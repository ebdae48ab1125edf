-- Exact values are in the order of the floats: at most where `le` says so, below where `lt` says so, and one of two floats is at most the other. Assumes nothing.
use Rattle.std.proofs.Common.{◌≡◌, ℕ, ◌*◌, ◌<◌, ◌≤◌, Bool, true, false, not, ◌&&◌, ◌||◌, T, eqb, ltb, ◌⊎◌, sym, ap, ◌∙◌, inl, inr, le_trans, le_of_eq, le_of_lt, mul-le-mul_right, mul_assoc, mul_comm, lt_of_mul-lt-mul_right, mul-lt-mul_of_pos_right, mul-pos, mul_right_comm, le_of_mul-le-mul_right, eqb→eq, ltb→lt, lt→ltb, T_not}
use lib.Ieee.{Float, nan, inf, fin, Format, up, down, le, lt}
use lib.Ieee.Fits.{and_l}
use lib.Ieee.Order.{le_of_values}
use lib.Ieee.Positive.{num, den, den_pos}
use Rattle.doubles.specs.Doubles.{plain, PlainIn}
use Rattle.doubles.specs.Exact.{one, exact_in}
use Rattle.doubles.proofs.Tests.{le_or_above}
use Rattle.doubles.proofs.Units.{one_pos, exact_cross, exact_value}

-- ---- the order of two plain floats, as one of fractions
or_split : (a b : Bool) → T (a || b) → T a ⊎ T b
or_split true b t = inl tt
or_split false b t = inr t

lt_or_eq : (a b : ℕ) → T (ltb a b || (eqb a b && true)) → a ≤ b
lt_or_eq a b t = elim (or_split (ltb a b) (eqb a b && true) t) [ inl u ↦ le_of_lt (ltb→lt a b u) | inr u ↦ le_of_eq (eqb→eq a b (and_l (eqb a b) true u)) ]

le→cross : (x y : Float) → T (plain x) → T (plain y) → T (le x y) → num x * den y ≤ num y * den x
unfolding plain le
le→cross nan y p q h = absurd p
le→cross (inf s) y p q h = absurd p
le→cross (fin true m e) y p q h = absurd p
le→cross (fin false m e) nan p q h = absurd q
le→cross (fin false m e) (inf t) p q h = absurd q
le→cross (fin false m e) (fin true n d) p q h = absurd q
le→cross (fin false m e) (fin false n d) p q h = lt_or_eq (m * up e * down d) (n * up d * down e) h

lt→cross : (x y : Float) → T (plain x) → T (plain y) → T (lt x y) → num x * den y < num y * den x
unfolding plain lt
lt→cross nan y p q h = absurd p
lt→cross (inf s) y p q h = absurd p
lt→cross (fin true m e) y p q h = absurd p
lt→cross (fin false m e) nan p q h = absurd q
lt→cross (fin false m e) (inf t) p q h = absurd q
lt→cross (fin false m e) (fin true n d) p q h = absurd q
lt→cross (fin false m e) (fin false n d) p q h = ltb→lt (m * up e * down d) (n * up d * down e) h

cross→lt : (x y : Float) → T (plain x) → T (plain y) → num x * den y < num y * den x → T (lt x y)
unfolding plain lt
cross→lt nan y p q h = absurd p
cross→lt (inf s) y p q h = absurd p
cross→lt (fin true m e) y p q h = absurd p
cross→lt (fin false m e) nan p q h = absurd q
cross→lt (fin false m e) (inf t) p q h = absurd q
cross→lt (fin false m e) (fin true n d) p q h = absurd q
cross→lt (fin false m e) (fin false n d) p q h = lt→ltb (m * up e * down d) (n * up d * down e) h

-- two fractions by a common denominator
shared_den : (X Y o nx dx ny dy : ℕ) → X * dx ≡ nx * o → Y * dy ≡ ny * o → (X * (dx * dy) ≡ nx * dy * o) × (Y * (dx * dy) ≡ ny * dx * o)
shared_den X Y o nx dx ny dy p q = (
  sym (mul_assoc X dx dy) ∙ ap (λ (z : ℕ). z * dy) p ∙ mul_right_comm nx o dy,
  ap (λ (z : ℕ). Y * z) (mul_comm dx dy) ∙ sym (mul_assoc Y dy dx) ∙ ap (λ (z : ℕ). z * dx) q ∙ mul_right_comm ny o dx,
)

module _ {f : Format} {x y : Float} (p : PlainIn f x) (q : PlainIn f y) where
  pub both_cross : (exact_in f x * (den x * den y) ≡ num x * den y * one f) × (exact_in f y * (den x * den y) ≡ num y * den x * one f)
  both_cross = shared_den (exact_in f x) (exact_in f y) (one f) (num x) (den x) (num y) (den y) (exact_cross p) (exact_cross q)

  pub exact→cross : exact_in f x ≤ exact_in f y → num x * den y ≤ num y * den x
  exact→cross h = le_of_mul-le-mul_right (le_trans (le_of_eq (sym both_cross.0)) (le_trans (mul-le-mul_right (den x * den y) h) (le_of_eq both_cross.1))) (one_pos f)

  pub exact→cross_lt : exact_in f x < exact_in f y → num x * den y < num y * den x
  exact→cross_lt h = lt_of_mul-lt-mul_right (one f) (rw (← both_cross.0) (rw (← both_cross.1) (mul-lt-mul_of_pos_right h (mul-pos (den_pos x) (den_pos y)))))

  -- ---- the laws
  pub le→exact : T (le x y) → exact_in f x ≤ exact_in f y
  le→exact h =
      le_of_mul-le-mul_right (le_trans (le_of_eq both_cross.0) (le_trans (mul-le-mul_right (one f) (le→cross x y p.is_plain q.is_plain h)) (le_of_eq (sym both_cross.1))))
      (mul-pos (den_pos x) (den_pos y))

  pub exact→le : exact_in f x ≤ exact_in f y → T (le x y)
  exact→le h =
      le_of_values x y (exact_in f x) (one f) (exact_in f y) (one f) (one_pos f) (one_pos f) (exact_value p) (exact_value q) (mul-le-mul_right (one f) h)

  pub lt→exact : T (lt x y) → exact_in f x < exact_in f y
  lt→exact h = lt_of_mul-lt-mul_right (den x * den y) (rw both_cross.0 (rw both_cross.1 (mul-lt-mul_of_pos_right (lt→cross x y p.is_plain q.is_plain h) (one_pos f))))

  pub exact→lt : exact_in f x < exact_in f y → T (lt x y)
  exact→lt h = cross→lt x y p.is_plain q.is_plain (exact→cross_lt h)

-- what is not below is at least
pub not_below : {f : Format} {x y : Float} → PlainIn f x → PlainIn f y → T (not (lt y x)) → T (le x y)
not_below {f} {x} {y} p q h = elim (le_or_above (exact_in f x) (exact_in f y)) [ inl l ↦ exact→le p q l | inr l ↦ absurd (T_not (lt y x) h (exact→lt q p l)) ]
