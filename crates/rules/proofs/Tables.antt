-- A table filled from another, place by place: what is filled is the front of the other put through f. Assumes nothing.
use mathlib.Core.Path.{◌≡◌, refl, sym, ◌∙◌}
use mathlib.Core.List.{List, map}
use Prim.Native.Nat.{ℕ, ◌+◌, ◌≤◌, ◌<◌}
use native.Mathlib.Numerals.{add-one}
use lib.ListN.{length, take, set, get_or, length-map, get_or-map}
use lib.Seq.{take-suc, take-suc-set, take_all}

module _ {A B : Type 0} (f : A → B) (xs : List A) (out : List B) (i : ℕ) where
  pub map_take : (d : A) → i < length xs → i < length out → take i out ≡ take i (map f xs) → take (i + 1) (set out i (f (get_or xs i d))) ≡ take (i + 1) (map f xs)
  map_take d h h' same =
      let long : i < length (map f xs) = rw (length-map xs f) h in
      rw (add-one, take-suc-set out i (f (get_or xs i d)) h', take-suc (map f xs) i (f d) long, get_or-map f xs i d, same) refl

  pub map_filled : length xs ≤ i → length out ≤ i → take i out ≡ take i (map f xs) → out ≡ map f xs
  map_filled h h' same = sym (take_all i out h') ∙ same ∙ take_all i (map f xs) (rw (length-map xs f) h)
