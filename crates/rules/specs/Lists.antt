-- The few words on lists that the rules are written with. Definitions only.
-- The words of the logic that every file uses:
--   `cond b x y` is x where b is true and y where it is false. `let` binds a branch that recurses, since a `let` is computed only when it is read.
--   `T b` is the statement that the test b is true. `a ≡ b` is the statement that two things are equal; `eqb`, `ltb`, `leb` are tests of numbers: =, <, ≤.
--   `get_or xs i d` is element i of a list, the first being number 0, and d past its end. `x ∷ xs` is a list by its first element and the rest; `xs ++ ys` is one behind the other.
--   `t.rate` is the field `rate` of t. `record { .. }` is a struct by all its fields. `λ x. ..` is the function of x.
--   `unfoldable` marks a definition that proofs open by name, `abbrev` one that is always open: a reader can take both as "is defined as".
use Rattle.std.specs.Prelude.{ℕ, zero, suc, ◌+◌, Bool, true, false, ◌&&◌, ◌||◌, cond, List, [], ◌∷◌, ◌++◌, eqb, length, get_or, drop}

module _ {A : Type 0} where
  -- How many elements pass the test.
  unfoldable pub count : (A → Bool) → List A → ℕ
  count p [] = 0
  count p (x ∷ xs) = cond (p x) 1 0 + count p xs

  -- The elements that pass the test, in their order.
  unfoldable pub those : (A → Bool) → List A → List A
  those p [] = []
  those p (x ∷ xs) = let rest = those p xs in cond (p x) (x ∷ rest) rest

  -- Whether some element passes the test.
  unfoldable pub any : (A → Bool) → List A → Bool
  any p [] = false
  any p (x ∷ xs) = p x || any p xs

  -- Whether every element passes the test.
  unfoldable pub all : (A → Bool) → List A → Bool
  all p [] = true
  all p (x ∷ xs) = p x && all p xs

  -- The list with its element n put through f.
  unfoldable pub update : ℕ → (A → A) → List A → List A
  update n f [] = []
  update zero f (x ∷ xs) = f x ∷ xs
  update (suc n) f (x ∷ xs) = x ∷ update n f xs

  -- The elements that a path names, put through f in the path's order, once for each crossing. (01, Clock)
  unfoldable pub at_each_crossing : List ℕ → (A → A) → List A → List A
  at_each_crossing [] f xs = xs
  at_each_crossing (e ∷ path) f xs = at_each_crossing path f (update e f xs)

  -- x put through f as often as n says.
  unfoldable pub times : ℕ → (A → A) → A → A
  times zero f x = x
  times (suc n) f x = f (times n f x)

  -- A lent buffer with `written` at its front; the later places keep what they held. (01, Clock)
  unfoldable pub write_front : List A → List A → List A
  write_front written buffer = written ++ drop (length written) buffer

  -- The fact P of every element, and of the blank that is read past the end.
  abbrev pub Each : (A → Type 0) → A → List A → Type 0
  Each P blank xs = (i : ℕ) → P (get_or xs i blank)

module _ {A B : Type 0} where
  -- Each element put through f together with its number, the first being number n.
  unfoldable pub map_from : ℕ → (ℕ → A → B) → List A → List B
  map_from n f [] = []
  map_from n f (x ∷ xs) = f n x ∷ map_from (suc n) f xs

-- The sum of some numbers.
unfoldable pub sum : List ℕ → ℕ
sum [] = 0
sum (n ∷ ns) = n + sum ns

-- How often a path crosses edge e, repeats counted. (01, Filling)
unfoldable pub crossings : ℕ → List ℕ → ℕ
crossings e path = count (eqb e) path
