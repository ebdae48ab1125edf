-- One edge's account through a filling, in whole numbers alone: C is its capacity, k how often it is crossed in all, v twice the rounding of one step, S the sum of
-- the rates given so far, R what is left, l the load, j the crossings given so far. Every crossing keeps S + R within half a step of what it was, so in the end S is
-- C but for k half steps; and what is left per crossing never falls by more than a step for each crossing given. Nothing here is about floats. Assumes nothing.
use mathlib.Core.Path.{◌≡◌, sym, ap}
use mathlib.Core.Logic.{◌⊎◌, inl, inr}
use mathlib.Core.Bool.{Bool, true, false, not}
use Prim.Native.Nat.{ℕ, suc, ◌+◌, ◌-◌, ◌*◌, ◌≤◌, ◌<◌}
use native.Mathlib.Nat.{le_refl, le_trans, mul-le-mul_left, mul-le-mul_right, le_of_mul-le-mul_left, eq-zero-or-pos}
use native.Mathlib.Omega.{arith}
use lib.Dec.{T, leb, leb→le, nleb→lt}
use Rattle.doubles.proofs.Left.{Step}

-- ---- some crossings at one rate

-- m crossings at the rate Y take X to R
pub data Steps (v Y : ℕ) : ℕ → ℕ → ℕ → Type 0 where
  none : {X : ℕ} → Steps v Y 0 X X
  more : {m X R R' : ℕ} → Steps v Y m X R → Step v R Y R' → Steps v Y (suc m) X R'

pub steps_less : {v Y m X R : ℕ} → Steps v Y m X R → R ≤ X
steps_less (none {X = X}) = le_refl X
steps_less (more s t) = le_trans t.less (steps_less s)

-- Y times the load l is what is left, within half a step for each: not above it, and not below it
abbrev pub AtMostShare : ℕ → ℕ → ℕ → ℕ → Type 0
AtMostShare v R l Y = 2 * (Y * l) ≤ 2 * R + l * v

abbrev pub AtLeastShare : ℕ → ℕ → ℕ → ℕ → Type 0
AtLeastShare v R l Y = 2 * R ≤ 2 * (Y * l) + l * v

steps_down : {v Y m X R : ℕ} → Steps v Y m X R → 2 * X ≤ 2 * (m * Y) + 2 * R + m * v
steps_down none = omega arith
steps_down (more s t) = let h = steps_down s in let d = t.down in omega arith

-- n of l crossings take no more than there is
part : (n l Y X v : ℕ) → n ≤ l → AtMostShare v X l Y → 2 * (n * Y) ≤ 2 * X + n * v
part n l Y X v h k = go (leb v (2 * Y)) (leb→le v (2 * Y)) (nleb→lt v (2 * Y))
  where
    big : (w : ℕ) → 2 * Y ≡ w + v → 2 * (n * Y) ≤ 2 * X + n * v
    big w e =
        let a : n * w ≤ l * w = mul-le-mul_right w h in
        let b : n * (2 * Y) ≡ n * (w + v) = ap (λ (z : ℕ). n * z) e in
        let c : l * (2 * Y) ≡ l * (w + v) = ap (λ (z : ℕ). l * z) e in
        omega arith

    go : (b : Bool) → (T b → v ≤ 2 * Y) → (T (not b) → 2 * Y < v) → 2 * (n * Y) ≤ 2 * X + n * v
    go true a b = let above : v ≤ 2 * Y = a tt in big (2 * Y - v) (omega arith)
    go false a b = let below : 2 * Y < v = b tt in let c : n * (2 * Y) ≤ n * v = mul-le-mul_left n (omega arith) in omega arith

steps_up : {v Y m X R : ℕ} (l : ℕ) → Steps v Y m X R → m ≤ l → AtMostShare v X l Y → 2 * (m * Y) + 2 * R ≤ 2 * X + m * v
steps_up l none h k = omega arith
steps_up {v} {Y} {X = X} l (more {m = m} {R = R} {R' = R'} s t) h k =
    let i : 2 * (m * Y) + 2 * R ≤ 2 * X + m * v = steps_up l s (omega arith) k in
    go (leb Y R) (leb→le Y R) (nleb→lt Y R) i
  where
    go : (b : Bool) → (T b → Y ≤ R) → (T (not b) → R < Y) → 2 * (m * Y) + 2 * R ≤ 2 * X + m * v → 2 * (suc m * Y) + 2 * R' ≤ 2 * X + suc m * v
    go true a b i = let u : 2 * Y + 2 * R' ≤ 2 * R + v = t.up (a tt) in omega arith
    go false a b i =
        let over : R < Y = b tt in
        let z : R' ≡ 0 = t.out (omega arith) in
        let q : 2 * (suc m * Y) ≤ 2 * X + suc m * v = part (suc m) l Y X v h k in
        omega arith

-- ---- the account between rounds

pub record Good (v C k S R l j : ℕ) : Type 0 where
  pub count : l + j ≡ k
  pub above : 2 * (S + R) ≤ 2 * C + j * v
  pub below : 2 * C ≤ 2 * (S + R) + j * v
  pub under : R ≤ C

pub good_start : (v C k : ℕ) → Good v C k 0 C k 0
good_start v C k = record { count = omega arith; above = omega arith; below = omega arith; under = le_refl C }

-- a rate Y given to a crossing of the edge is no faster than what is left would now give, but for a step for each crossing since
abbrev pub Paced : ℕ → ℕ → ℕ → ℕ → ℕ → Type 0
Paced v R l j Y = 2 * (Y * l) ≤ 2 * R + l * (suc (2 * j) * v)

pub paced_new : (v R l j Y : ℕ) → AtMostShare v R l Y → Paced v R l j Y
paced_new v R l j Y h = let more : 0 ≤ l * (2 * j * v) = omega arith in omega arith

-- ---- a round: m of the l + m crossings are given the rate Y, which is at most the edge's share

module _ (v R R' l m Y : ℕ) (h : AtMostShare v R (l + m) Y) (s : Steps v Y m R R') where
  pub good_round : (C k S j : ℕ) → Good v C k S R (l + m) j → Good v C k (S + m * Y) R' l (j + m)
  good_round C k S j g =
      let up : 2 * (m * Y) + 2 * R' ≤ 2 * R + m * v = steps_up (l + m) s (omega arith) h in
      let down : 2 * R ≤ 2 * (m * Y) + 2 * R' + m * v = steps_down s in
      record { count = omega (arith, g.count); above = omega (arith, g.above); below = omega (arith, g.below); under = le_trans (steps_less s) g.under }

  -- what is left per crossing falls by m steps at the most
  share_kept : l * R ≤ (l + m) * R' + (l + m) * (m * v)
  share_kept =
      let a = mul-le-mul_left (l + m) (steps_down s) in
      let b = mul-le-mul_left m h in
      omega arith

  pub paced_round : (j Z : ℕ) → Paced v R (l + m) j Z → Paced v R' l (j + m) Z
  paced_round j Z p = go (eq-zero-or-pos l)
    where
      go : (l ≡ 0) ⊎ (0 < l) → Paced v R' l (j + m) Z
      go (inl z) = rw z (omega arith)
      go (inr some) =
          let a : l * (2 * (Z * (l + m))) ≤ l * (2 * R + (l + m) * (suc (2 * j) * v)) = mul-le-mul_left l p in
          let b = share_kept in
          let c : (l + m) * (2 * (Z * l)) ≤ (l + m) * (2 * R' + 2 * (m * v) + l * (suc (2 * j) * v)) = omega arith in
          let d : 2 * (Z * l) ≤ 2 * R' + 2 * (m * v) + l * (suc (2 * j) * v) = le_of_mul-le-mul_left c (omega arith) in
          let e : 1 * (m * v) ≤ l * (m * v) = mul-le-mul_right (m * v) some in
          omega arith

-- ---- what the account says

-- the rates add up to no more than the capacity and the slack
pub good_sum : (v C k S R l j : ℕ) → Good v C k S R l j → S ≤ C + suc k * v
good_sum v C k S R l j g =
    let given : j * v ≤ k * v = mul-le-mul_right v (omega (arith, g.count)) in
    omega (arith, g.above)

-- The edge whose share the round gives to all of its load: it then carries its capacity but for k half steps,
pub good_full : (v C k S R l j Y : ℕ) → Good v C k S R l j → AtLeastShare v R l Y → 2 * C ≤ 2 * (S + l * Y) + k * v
good_full v C k S R l j Y g h =
    let all : k * v ≡ (l + j) * v = ap (λ (z : ℕ). z * v) (sym g.count) in
    omega (arith, g.below)

-- and nobody on it runs faster by more than k steps;
pub good_top : (v C k S R l j Y Z : ℕ) → Good v C k S R l j → 0 < l → AtLeastShare v R l Y → Paced v R l j Z → Z ≤ Y + k * v
good_top v C k S R l j Y Z g some h p =
    let a : l * (2 * Z) ≤ l * (2 * Y + (2 * j + 2) * v) = omega arith in
    let b : 2 * Z ≤ 2 * Y + (2 * j + 2) * v = le_of_mul-le-mul_left a some in
    let c : (j + 1) * v ≤ k * v = mul-le-mul_right v (omega (arith, g.count)) in
    omega arith

-- so its share is C / k but for the slack.
pub full_floor : (v C k S Y : ℕ) → 2 * C ≤ 2 * S + k * v → S ≤ k * (Y + k * v) → C ≤ k * (Y + suc k * v)
full_floor v C k S Y a b = omega arith
