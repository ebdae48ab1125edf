-- Numbers stored one behind the other into a buffer: what is stored so far, and what is left written behind it, make the whole list at the front. Assumes nothing.
use mathlib.Core.Path.{◌≡◌, refl, ap, ◌∙◌}
use mathlib.Core.List.{List, [], ◌∷◌, ◌++◌}
use Prim.Native.Nat.{ℕ, zero, suc, ◌+◌, ◌-◌, ◌<◌}
use native.Mathlib.Omega.{arith}
use native.Mathlib.Numerals.{add-one}
use lib.ListN.{length, take, drop, set, replicate, take-append-drop, length-set}
use lib.Seq.{take-suc-set, drop-set-lt, append_snoc}
use Rattle.rules.specs.Lists.{write_front}
use Rattle.rules.proofs.Steps.{drop_one}

module _ {A : Type 0} where
  -- a buffer whose first k places are final, with a list still to be written behind them
  abbrev pub written : ℕ → List A → List A → List A
  written k list out = take k out ++ write_front list (drop k out)

  pub written_none : (k : ℕ) (out : List A) → written k [] out ≡ out
  unfolding write_front
  written_none k out = take-append-drop k out

  pub written_one : (k : ℕ) (x : A) (list out : List A) → k < length out → written (k + 1) list (set out k x) ≡ written k (x ∷ list) out
  unfolding write_front
  written_one k x list out h =
      let below : k < suc k = omega arith in
      rw (drop_one out k x h, add-one, take-suc-set out k x h, drop-set-lt (suc k) out k x below, append_snoc) refl

  pub written_two : (k : ℕ) (x y : A) (list out : List A) → k + 1 < length out → written (k + 2) list (set (set out k x) (k + 1) y) ≡ written k (x ∷ y ∷ list) out
  written_two k x y list out h =
      let one : k + 2 ≡ k + 1 + 1 = omega arith in
      let long : k + 1 < length (set out k x) = simp length-set h in
      rw one (written_one (k + 1) y list (set out k x) long ∙ written_one k x (y ∷ list) out (omega arith))

  pub written_three : (k : ℕ) (x y z : A) (list out : List A) → k + 2 < length out → written (k + 3) list (set (set (set out k x) (k + 1) y) (k + 2) z) ≡ written k (x ∷ y ∷ z ∷ list) out
  written_three k x y z list out h =
      let one : k + 3 ≡ k + 2 + 1 = omega arith in
      let long : k + 2 < length (set (set out k x) (k + 1) y) = simp length-set h in
      rw one (written_one (k + 2) z list (set (set out k x) (k + 1) y) long ∙ written_two k x y (z ∷ list) out (omega arith))

  drop_replicate : (n m : ℕ) (x : A) → drop n (replicate m x) ≡ replicate (m - n) x
  drop_replicate zero m x = let whole : m - 0 ≡ m = omega arith in rw whole refl
  drop_replicate (suc n) zero x = let none : 0 - suc n ≡ 0 = omega arith in rw none refl
  drop_replicate (suc n) (suc m) x = let fewer : suc m - suc n ≡ m - n = omega arith in rw fewer (drop_replicate n m x)

  -- written into a table of blanks
  pub written_blank : (m : ℕ) (x : A) (list : List A) → write_front list (replicate m x) ≡ list ++ replicate (m - length list) x
  unfolding write_front
  written_blank m x list = ap (λ (r : List A). list ++ r) (drop_replicate (length list) m x)
