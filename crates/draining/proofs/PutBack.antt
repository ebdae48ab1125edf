-- Bytes credited to sums that are kept apart, and put back into the edges at the end, are bytes credited to the edges: an edge keeps its other fields, and its sum
-- takes the same additions in the same order. Assumes nothing.
use mathlib.Core.Path.{◌≡◌, refl, sym, ap, ◌∙◌}
use mathlib.Core.Bool.{Bool, true, false, cond}
use mathlib.Core.List.{List, [], ◌∷◌, map, foldl}
use Prim.Native.Nat.{ℕ, zero, suc}
use native.Mathlib.Omega.{arith}
use lib.ListN.{length, get_or, length-map}
use lib.Ieee.{Float}
use Rattle.doubles.specs.Doubles.{◌⊕◌, nought}
use Rattle.rules.specs.declared.Edge.{Edge}
use Rattle.rules.specs.declared.Transfer.{Transfer}
use Rattle.rules.specs.Lists.{map_from, update, at_each_crossing}
use Rattle.rules.specs.Records.{own_path}
use Rattle.rules.specs.Clock.{moves, bytes_flowing, gain_moved, deliver}
use Rattle.paths.proofs.PerEdge.{length_update, length_crossing}
use Rattle.draining.specs.Credits.{credited, with_moved}
use Rattle.draining.proofs.Shifted.{map_from_shift}

-- the sums in the edges' places
abbrev pub put_back : List Float → List Edge → List Edge
put_back moved edges = map_from 0 (λ e edge. with_moved (get_or moved e nought) edge) edges

put_cons : (m : Float) (ms : List Float) (x : Edge) (xs : List Edge) → put_back (m ∷ ms) (x ∷ xs) ≡ with_moved m x ∷ put_back ms xs
unfolding map_from
put_cons m ms x xs = ap (λ (r : List Edge). with_moved m x ∷ r) (map_from_shift 0 (λ e edge. with_moved (get_or (m ∷ ms) e nought) edge) xs)

put_own : (xs : List Edge) → put_back (map (λ e. e.bytes_moved) xs) xs ≡ xs
unfolding map_from with_moved
put_own [] = refl
put_own (x ∷ xs) = put_cons x.bytes_moved (map (λ e. e.bytes_moved) xs) x xs ∙ ap (λ (r : List Edge). x ∷ r) (put_own xs)

put_update : (k : ℕ) (a : Float) (ms : List Float) (xs : List Edge) → length ms ≡ length xs → put_back (update k (λ m. m ⊕ a) ms) xs ≡ update k (gain_moved a) (put_back ms xs)
unfolding update map_from gain_moved with_moved
put_update k a [] [] h = refl
put_update k a [] (x ∷ xs) h = absurd (omega arith)
put_update k a (m ∷ ms) [] h = refl
put_update zero a (m ∷ ms) (x ∷ xs) h = put_cons (m ⊕ a) ms x xs ∙ ap (update zero (gain_moved a)) (sym (put_cons m ms x xs))
put_update (suc k) a (m ∷ ms) (x ∷ xs) h =
    put_cons m (update k (λ y. y ⊕ a) ms) x xs
    ∙ ap (λ (r : List Edge). with_moved m x ∷ r) (put_update k a ms xs (omega arith))
    ∙ ap (update (suc k) (gain_moved a)) (sym (put_cons m ms x xs))

put_crossings : (path : List ℕ) (a : Float) (ms : List Float) (xs : List Edge) → length ms ≡ length xs → put_back (at_each_crossing path (λ m. m ⊕ a) ms) xs ≡ at_each_crossing path (gain_moved a) (put_back ms xs)
unfolding at_each_crossing
put_crossings [] a ms xs h = refl
put_crossings (k ∷ path) a ms xs h =
    put_crossings path a (update k (λ m. m ⊕ a) ms) xs (length_update k (λ m. m ⊕ a) ms ∙ h)
    ∙ ap (at_each_crossing path (gain_moved a)) (put_update k a ms xs h)

pub length_credited : (until : Float) (ms : List Float) (t : Transfer) → length (credited until ms t) ≡ length ms
unfolding credited
length_credited until ms t = go (moves until t)
  where
    go : (b : Bool) → length (cond b (at_each_crossing (own_path t) (λ m. m ⊕ bytes_flowing until t) ms) ms) ≡ length ms
    go true = length_crossing (own_path t) (λ m. m ⊕ bytes_flowing until t) ms
    go false = refl

put_one : (until : Float) (ms : List Float) (xs : List Edge) (t : Transfer) → length ms ≡ length xs → put_back (credited until ms t) xs ≡ deliver own_path until (put_back ms xs) t
unfolding credited deliver
put_one until ms xs t h = go (moves until t)
  where
    go : (b : Bool)
        → put_back (cond b (at_each_crossing (own_path t) (λ m. m ⊕ bytes_flowing until t) ms) ms) xs
        ≡ cond b (at_each_crossing (own_path t) (gain_moved (bytes_flowing until t)) (put_back ms xs)) (put_back ms xs)
    go true = put_crossings (own_path t) (bytes_flowing until t) ms xs h
    go false = refl

put_all : (until : Float) (slots : List Transfer) (ms : List Float) (xs : List Edge) → length ms ≡ length xs → put_back (foldl (credited until) ms slots) xs ≡ foldl (deliver own_path until) (put_back ms xs) slots
put_all until [] ms xs h = refl
put_all until (t ∷ slots) ms xs h =
    put_all until slots (credited until ms t) xs (length_credited until ms t ∙ h) ∙ ap (λ (r : List Edge). foldl (deliver own_path until) r slots) (put_one until ms xs t h)

-- THE LAW
pub delivered_apart : (until : Float) (slots : List Transfer) (edges : List Edge) → put_back (foldl (credited until) (map (λ e. e.bytes_moved) edges) slots) edges ≡ foldl (deliver own_path until) edges slots
delivered_apart until slots edges =
    put_all until slots (map (λ e. e.bytes_moved) edges) edges (length-map edges (λ e. e.bytes_moved)) ∙ ap (λ (r : List Edge). foldl (deliver own_path until) r slots) (put_own edges)
