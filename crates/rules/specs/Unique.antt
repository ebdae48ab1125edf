-- A contract decides its function: any two outcomes that it allows, from the same arguments, are equal. (01, How far each contract reaches) Statement only.
use Rattle.std.specs.Prelude.{ℕ, List, ◌≡◌}
use contract.Lifetimes.{Lfts}
use borrow.Fn.Kinds.{Out, Dens, ParamKind, ResultKind, res_t, ended_of}
use denote.Triple.Clauses.{AtExit}

-- A function with n lifetimes, parameters of the kinds `ps` and a result of the kind r, whose contract ensures `Post`.
module _ (n : ℕ) (ps : List (ParamKind n)) (r : ResultKind n) (Post : Out n ps r) where
  -- Any two results are equal.
  abbrev pub Decided : Type 0
  Decided =
      (κs : Lfts n) (a : Dens κs ps) (z z' : (res_t r κs).Denot) (e e' : AtExit (ended_of n ps r) κs) →
      Post κs a z e → Post κs a z' e' → z ≡ z'

  -- And so is what the lent buffer, which `left` reads, then holds.
  abbrev pub DecidedWith : ((κs : Lfts n) → AtExit (ended_of n ps r) κs → List ℕ) → Type 0
  DecidedWith left =
      (κs : Lfts n) (a : Dens κs ps) (z z' : (res_t r κs).Denot) (e e' : AtExit (ended_of n ps r) κs) →
      Post κs a z e → Post κs a z' e' → (z ≡ z') × (left κs e ≡ left κs e')
