-- The search for the smallest share: it begins at the lowest edge with load, and one edge on an edge without load is passed over, one with load is held against the best. Assumes nothing.
use mathlib.Core.Path.{◌≡◌, refl, sym, ap, ◌∙◌}
use mathlib.Core.Bool.{Bool, true, false, cond}
use mathlib.Core.List.{List, ◌∷◌, foldl}
use mathlib.Core.Logic.{inl, inr}
use Prim.Native.Nat.{ℕ, zero, suc, ◌+◌, ◌≤◌, ◌<◌}
use native.Mathlib.Numerals.{add-one}
use borrow.Author.Tests.{ltb-true, ltb-false, lt-ltb, le-ltb}
use native.Mathlib.Omega.{arith}
use lib.Dec.{ltb}
use lib.Ieee.{Float, nan}
use lib.ListN.{length, get_or, drop}
use Rattle.std.specs.List.{position_or_len}
use Rattle.std.proofs.lemmas.List.Sums.{fails_before_first, passes_at_first}
use Rattle.doubles.proofs.Tests.{le_or_above}
use Rattle.rules.specs.declared.Share.{Share}
use Rattle.rules.specs.Filling.{share, shares, tighter_share, blank_share}
use Rattle.rules.proofs.Steps.{drop_one}
use Rattle.rounds.specs.Standing.{Loaded, shares_by}
use Rattle.rounds.proofs.Loading.{past_end}

-- ---- where the search begins

-- The first share from edge n on.
abbrev pub first_from : List ℕ → List Float → ℕ → Share
first_from table residual n = get_or (shares_by table n (drop n residual)) 0 blank_share

-- No edge before edge n has load.
abbrev pub NoneBefore : List ℕ → ℕ → Type 0
NoneBefore table n = (e : ℕ) → 0 < get_or table e 0 → n ≤ e

-- then n is in the table, where some edge has load
pub inside : (table : List ℕ) → Loaded table → (n : ℕ) → NoneBefore table n → n < length table
inside table l n none = go (ltb n (length table)) refl
  where
    go : (b : Bool) → ltb n (length table) ≡ b → n < length table
    go true q = ltb-true n (length table) q
    go false q = absurd (omega (arith, l.loaded, none l.edge l.loaded, past_end table l.edge (omega (arith, ltb-false n (length table) q, none l.edge l.loaded))))

-- as of the first that has load itself
none_before_first : (table : List ℕ) → NoneBefore table (position_or_len (ltb 0) table)
none_before_first table e l = elim (le_or_above (position_or_len (ltb 0) table) e) [
  | inl h ↦ h
  | inr h ↦ absurd (omega (arith, l, ltb-false 0 _ (fails_before_first (ltb 0) table e 0 h)))
]

pub first_inside : (table : List ℕ) → Loaded table → position_or_len (ltb 0) table < length table
first_inside table l = inside table l _ (none_before_first table)

-- ---- one edge on

module _ (table : List ℕ) (residual : List Float) (e : ℕ) (d : Float) (h : e < length residual) where
  -- the shares from edge e on, told by those behind it
  shares_one : shares_by table e (drop e residual) ≡ cond (ltb 0 (get_or table e 0)) (share e (get_or residual e d) (get_or table e 0) ∷ shares_by table (e + 1) (drop (e + 1) residual)) (shares_by table (e + 1) (drop (e + 1) residual))
  unfolding shares
  shares_one = ap (shares_by table e) (drop_one residual e d h) ∙ rw add-one refl

  pub best_one : (best : Share) → foldl tighter_share best (shares_by table e (drop e residual)) ≡ foldl tighter_share (cond (ltb 0 (get_or table e 0)) (tighter_share best (share e (get_or residual e d) (get_or table e 0))) best) (shares_by table (e + 1) (drop (e + 1) residual))
  best_one best = ap (foldl tighter_share best) shares_one ∙ go (ltb 0 (get_or table e 0))
    where
      rest : List Share
      rest = shares_by table (e + 1) (drop (e + 1) residual)

      go : (b : Bool) → foldl tighter_share best (cond b (share e (get_or residual e d) (get_or table e 0) ∷ rest) rest) ≡ foldl tighter_share (cond b (tighter_share best (share e (get_or residual e d) (get_or table e 0))) best) rest
      go true = refl
      go false = refl

  first_by : (b : Bool) → ltb 0 (get_or table e 0) ≡ b → first_from table residual e ≡ get_or (cond b (share e (get_or residual e d) (get_or table e 0) ∷ shares_by table (e + 1) (drop (e + 1) residual)) (shares_by table (e + 1) (drop (e + 1) residual))) 0 blank_share
  first_by b q = ap (λ (s : List Share). get_or s 0 blank_share) shares_one ∙ rw q refl

  pub first_passed : get_or table e 0 ≡ 0 → first_from table residual e ≡ first_from table residual (e + 1)
  first_passed none = first_by false (le-ltb 0 (get_or table e 0) (omega arith))

  pub first_found : 0 < get_or table e 0 → first_from table residual e ≡ share e (get_or residual e d) (get_or table e 0)
  first_found some = first_by true (lt-ltb 0 (get_or table e 0) some)

-- ---- the first with load

unloaded : (table : List ℕ) (n : ℕ) → NoneBefore table (suc n) → get_or table n 0 ≡ 0
unloaded table n none = elim (le_or_above (get_or table n 0) 0) [ inl h ↦ omega arith | inr h ↦ absurd (omega (arith, none n h)) ]

-- where none before edge n has load, the first share is that from edge n on
first_reached : (table : List ℕ) (residual : List Float) (n : ℕ) → n ≤ length residual → NoneBefore table n → first_from table residual 0 ≡ first_from table residual n
first_reached table residual zero h none = refl
first_reached table residual (suc n) h none =
    first_reached table residual n (omega arith) (λ e l. omega (arith, none e l))
    ∙ first_passed table residual n nan (omega arith) (unloaded table n none)
    ∙ rw add-one refl

pub first_share_is : (table : List ℕ) (residual : List Float) (d : Float) → length table ≡ length residual → Loaded table
    → (let first = position_or_len (ltb 0) table in share first (get_or residual first d) (get_or table first 0) ≡ first_from table residual 0)
first_share_is table residual d same l =
    let first = position_or_len (ltb 0) table in
    let known : first < length residual = omega (arith, first_inside table l) in
    sym (first_reached table residual first (omega arith) (none_before_first table) ∙ first_found table residual first d known (ltb-true 0 _ (passes_at_first (ltb 0) table 0 (first_inside table l))))
