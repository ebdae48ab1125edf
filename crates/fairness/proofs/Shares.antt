-- The smallest share is one of the edges' with load, where there is such an edge, and is not above any. Assumes nothing.
use mathlib.Core.Path.{◌≡◌, refl, sym, ◌∙◌}
use mathlib.Core.Bool.{Bool, true, false, cond, true≢false}
use mathlib.Core.List.{List, [], ◌∷◌, foldl}
use Prim.Native.Nat.{ℕ, zero, suc, ◌+◌, ◌≤◌, ◌<◌}
use native.Mathlib.Nat.{le_refl, le_of_lt}
use native.Mathlib.Omega.{arith}
use borrow.Author.Tests.{ltb-true, lt-ltb}
use lib.Dec.{ltb}
use lib.ListN.{length, get_or}
use lib.Ieee.{Float}
use Rattle.doubles.specs.Doubles.{◌≺◌, nought, Plain}
use Rattle.doubles.specs.Exact.{exact}
use Rattle.doubles.proofs.Tests.{passed, failed}
use Rattle.doubles.proofs.Ordered.{lt→exact, le→exact, not_below}
use Rattle.rules.specs.declared.Share.{Share}
use Rattle.rules.specs.Filling.{share, shares, tighter_share, blank_share, smallest_share}

-- ---- of two

-- a fact of both is one of the tighter
tighter_has : (P : Share → Type 0) (x y : Share) → P x → P y → P (tighter_share x y)
unfolding tighter_share
tighter_has P x y p q = go (y.share ≺ x.share)
  where
    go : (b : Bool) → P (cond b y x)
    go true = q
    go false = p

tighter_least : (x y : Share) → Plain x.share → Plain y.share → (exact (tighter_share x y).share ≤ exact x.share) × (exact (tighter_share x y).share ≤ exact y.share)
unfolding tighter_share
tighter_least x y p q = go (y.share ≺ x.share) refl
  where
    go : (b : Bool) → (y.share ≺ x.share) ≡ b → (exact (cond b y x).share ≤ exact x.share) × (exact (cond b y x).share ≤ exact y.share)
    go true e = (le_of_lt (lt→exact q p (passed e)), le_refl (exact y.share))
    go false e = (le_refl (exact x.share), le→exact p q (not_below p q (failed e)))

-- ---- of all

module _ (load : ℕ → ℕ) where
  -- the fact P of the share of each edge with load, the first edge being number n
  abbrev OfEach : (Share → Type 0) → ℕ → List Float → Type 0
  OfEach P n residual = (j : ℕ) → j < length residual → 0 < load (n + j) → P (share (n + j) (get_or residual j nought) (load (n + j)))

  -- the first being number 0
  abbrev OfAll : (Share → Type 0) → List Float → Type 0
  OfAll P residual = (e : ℕ) → e < length residual → 0 < load e → P (share e (get_or residual e nought) (load e))

  module _ (P : Share → Type 0) where
    of_first : (n : ℕ) (r : Float) (residual : List Float) → OfEach P n (r ∷ residual) → 0 < load n → P (share n r (load n))
    of_first n r residual each l = let z : n + 0 ≡ n = omega arith in rw z at (each 0 (omega arith) (rw z l))

    of_rest : (n : ℕ) (r : Float) (residual : List Float) → OfEach P n (r ∷ residual) → OfEach P (suc n) residual
    of_rest n r residual each j h l = let z : n + suc j ≡ suc n + j = omega arith in rw z at (each (suc j) (omega arith) (rw z l))

    of_all : (residual : List Float) → OfAll P residual → OfEach P 0 residual
    of_all residual all j h l = let z : 0 + j ≡ j = omega arith in rw z (all j h (rw z at l))

    -- it is one of the folded too
    fold_has : (n : ℕ) (residual : List Float) → OfEach P n residual → (b : Share) → P b → P (foldl tighter_share b (shares load n residual))
    unfolding shares
    fold_has n [] each b p = p
    fold_has n (r ∷ residual) each b p = go (ltb 0 (load n)) refl (fold_has (suc n) residual (of_rest n r residual each))
      where
        rest : List Share
        rest = shares load (suc n) residual

        go : (c : Bool) → ltb 0 (load n) ≡ c → ((b : Share) → P b → P (foldl tighter_share b rest)) → P (foldl tighter_share b (cond c (share n r (load n) ∷ rest) rest))
        go true e rec = rec (tighter_share b (share n r (load n))) (tighter_has P b (share n r (load n)) p (of_first n r residual each (ltb-true 0 (load n) e)))
        go false e rec = rec b p

    -- and of the first, where an edge has load
    first_has : (n : ℕ) (residual : List Float) → OfEach P n residual → (j : ℕ) → j < length residual → 0 < load (n + j) → P (get_or (shares load n residual) 0 blank_share)
    unfolding shares
    first_has n [] each j h l = absurd (omega arith)
    first_has n (r ∷ residual) each j h l = go (ltb 0 (load n)) refl (first_has (suc n) residual (of_rest n r residual each)) j h l
      where
        rest : List Share
        rest = shares load (suc n) residual

        go : (c : Bool) → ltb 0 (load n) ≡ c → ((j : ℕ) → j < length residual → 0 < load (suc n + j) → P (get_or rest 0 blank_share)) → (j : ℕ) → j < length (r ∷ residual) → 0 < load (n + j) → P (get_or (cond c (share n r (load n) ∷ rest) rest) 0 blank_share)
        go true e rec j h l = of_first n r residual each (ltb-true 0 (load n) e)
        go false e rec zero h l = let z : n + 0 ≡ n = omega arith in absurd (true≢false (sym (lt-ltb 0 (load n) (rw z at l)) ∙ e))
        go false e rec (suc j) h l = let z : n + suc j ≡ suc n + j = omega arith in rec j (omega arith) (rw z at l)

    pub smallest_has : (residual : List Float) → OfAll P residual → (e : ℕ) → e < length residual → 0 < load e → P (smallest_share (shares load 0 residual))
    unfolding smallest_share
    smallest_has residual all e h l =
        let z : 0 + e ≡ e = omega arith in
        let each = of_all residual all in
        fold_has 0 residual each (get_or (shares load 0 residual) 0 blank_share) (first_has 0 residual each e h (rw z l))

  abbrev PlainShare : Share → Type 0
  PlainShare s = Plain s.share

  -- w is not above b, nor above the share of any edge with load
  abbrev Below : Share → Share → ℕ → List Float → Type 0
  Below w b n residual = (exact w.share ≤ exact b.share) × OfEach (λ s. exact w.share ≤ exact s.share) n residual

  fold_least : (n : ℕ) (residual : List Float) → OfEach PlainShare n residual → (b : Share) → PlainShare b → Below (foldl tighter_share b (shares load n residual)) b n residual
  unfolding shares
  fold_least n [] each b p = (le_refl (exact b.share), λ j h l. absurd (omega arith))
  fold_least n (r ∷ residual) each b p = go (ltb 0 (load n)) refl (fold_least (suc n) residual (of_rest PlainShare n r residual each))
    where
      here : Share
      here = share n r (load n)

      rest : List Share
      rest = shares load (suc n) residual

      at : (w : Share) → (0 < load n → exact w.share ≤ exact here.share) → OfEach (λ s. exact w.share ≤ exact s.share) (suc n) residual → OfEach (λ s. exact w.share ≤ exact s.share) n (r ∷ residual)
      at w own later zero h l = let z : n + 0 ≡ n = omega arith in rw z (own (rw z at l))
      at w own later (suc j) h l = let z : n + suc j ≡ suc n + j = omega arith in rw z (later j (omega arith) (rw z at l))

      go : (c : Bool) → ltb 0 (load n) ≡ c → ((b : Share) → PlainShare b → Below (foldl tighter_share b rest) b (suc n) residual) → Below (foldl tighter_share b (cond c (here ∷ rest) rest)) b n (r ∷ residual)
      go true e rec =
          let plain = of_first PlainShare n r residual each (ltb-true 0 (load n) e) in
          let t = tighter_least b here p plain in
          let q = rec (tighter_share b here) (tighter_has PlainShare b here p plain) in
          (omega (arith, q.0, t.0), at (foldl tighter_share (tighter_share b here) rest) (λ l. omega (arith, q.0, t.1)) q.1)
      go false e rec =
          let q = rec b p in
          (q.0, at (foldl tighter_share b rest) (λ l. absurd (true≢false (sym (lt-ltb 0 (load n) l) ∙ e))) q.1)

  pub smallest_least : (residual : List Float) → OfAll PlainShare residual → OfAll (λ s. exact (smallest_share (shares load 0 residual)).share ≤ exact s.share) residual
  unfolding smallest_share
  smallest_least residual all e h l =
      let z : 0 + e ≡ e = omega arith in
      let each = of_all PlainShare residual all in
      let first = first_has PlainShare 0 residual each e h (rw z l) in
      rw z at ((fold_least 0 residual each (get_or (shares load 0 residual) 0 blank_share) first).1 e h (rw z l))
