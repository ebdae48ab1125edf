-- A path that passes the tests makes a sound route, and a table with room has a lowest free slot, where a transfer is placed. Assumes nothing.
use Prim.Native.Nat.{ℕ, zero, suc, ◌+◌, ◌-◌, ◌≤◌, ◌<◌}
use native.Mathlib.Omega.{arith}
use mathlib.Core.Path.{◌≡◌, refl, ap, ◌∙◌}
use mathlib.Core.Bool.{Bool, true, false, cond}
use mathlib.Core.List.{List, [], ◌∷◌}
use lib.Dec.{leb}
use borrow.Author.Tests.{leb-false}
use lib.ListN.{length, get_or, set, replicate, length-append, length-replicate, get_or-append}
use lib.Seq.{get_or-append-add}
use Rattle.rules.specs.declared.Transfer.{Transfer}
use Rattle.rules.specs.Lists.{count, any, Each}
use Rattle.rules.specs.Records.{max_path, free, route}
use Rattle.rules.specs.Submission.{placed}
use Rattle.rules.specs.Invariant.{SoundRoute}
use Rattle.rules.proofs.Each.{each_same}
use Rattle.keeps.proofs.Refusing.{neither}
use Rattle.rules.proofs.Counting.{one_if}

-- ---- the path

-- a path that names no missing edge names known ones
pub known_by : (n : ℕ) (path : List ℕ) → any (λ e. leb n e) path ≡ false → (k : ℕ) → k < length path → get_or path k 0 < n
unfolding any
known_by n [] h k l = absurd (omega arith)
known_by n (e ∷ path) h zero l = leb-false n e (neither (leb n e) (any (λ e. leb n e) path) h).0
known_by n (e ∷ path) h (suc k) l = known_by n path (neither (leb n e) (any (λ e. leb n e) path) h).1 k (omega arith)

pub route_sound : (n : ℕ) (path : List ℕ) → length path ≤ max_path → any (λ e. leb n e) path ≡ false → SoundRoute n (route path)
unfolding route
route_sound n path short known = record {
  places = length-append path (replicate (max_path - length path) 0) ∙ rw (length-replicate {A = ℕ} (max_path - length path) 0) (omega arith);
  short = short;
  known = λ k l. rw (get_or-append path (replicate (max_path - length path) 0) 0 k l) (known_by n path known k l);
  blank = λ k l.
      let z : k ≡ length path + (k - length path) = omega arith in
      rw (z, get_or-append-add path (replicate (max_path - length path) 0) (k - length path) 0) (each_same (λ (m : ℕ). m ≡ 0) 0 (max_path - length path) 0 refl refl (k - length path));
}

-- ---- the lowest free slot

pub record Placed (t : Transfer) (slots : List Transfer) : Type 0 where
  pub slot : ℕ
  pub inside : slot < length slots
  pub was_free : (get_or slots slot free).taken ≡ false
  pub is : placed t slots ≡ set slots slot t

pub placed_somewhere : (t : Transfer) (slots : List Transfer) → count (λ x. x.taken) slots < length slots → Placed t slots
unfolding count placed
placed_somewhere t [] h = absurd (omega arith)
placed_somewhere t (x ∷ slots) h = go x.taken refl (placed_somewhere t slots)
  where
    choice : (b : Bool) → x.taken ≡ b → placed t (x ∷ slots) ≡ cond b (x ∷ placed t slots) (t ∷ slots)
    choice b e = ap (λ (c : Bool). cond c (x ∷ placed t slots) (t ∷ slots)) e

    go : (b : Bool) → x.taken ≡ b → (count (λ x. x.taken) slots < length slots → Placed t slots) → Placed t (x ∷ slots)
    go true e rest =
        let more : one_if true + count (λ x. x.taken) slots < suc (length slots) = rw e at h in
        let p = rest (omega arith) in
        record { slot = suc p.slot; inside = omega (arith, p.inside); was_free = p.was_free; is = choice true e ∙ ap (λ (l : List Transfer). x ∷ l) p.is }
    go false e rest = record { slot = 0; inside = omega arith; was_free = e; is = choice false e }

-- ---- a test that nobody passes

pub nobody_passes : {A : Type 0} (p : A → Bool) (xs : List A) (d : A) → p d ≡ false → any p xs ≡ false → Each (λ x. p x ≡ false) d xs
unfolding any
nobody_passes p [] d blank h i = blank
nobody_passes p (x ∷ xs) d blank h zero = (neither (p x) (any p xs) h).0
nobody_passes p (x ∷ xs) d blank h (suc i) = nobody_passes p xs d blank (neither (p x) (any p xs) h).1 i
