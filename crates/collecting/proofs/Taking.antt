-- What a take gives, by how much waits and how long the buffer is. Assumes nothing.
use mathlib.Core.Path.{◌≡◌, refl, sym, ◌∙◌}
use mathlib.Core.List.{List, [], ◌∷◌}
use Prim.Native.Nat.{ℕ, suc, ◌≤◌, ◌<◌}
use native.Mathlib.Omega.{arith}
use borrow.Author.Tests.{lt-ltb, le-ltb}
use lib.ListN.{length, length-map}
use Rattle.rules.specs.declared.Owner.{Owner}
use Rattle.rules.specs.declared.Answer.TheVariants.{Listed, Nothing}
use Rattle.rules.specs.declared.Flows.{Flows}
use Rattle.rules.specs.Lists.{count, those, write_front}
use Rattle.rules.specs.Records.{waiting}
use Rattle.rules.specs.Refusals.{refusing, answering, lent, refused_lent}
use Rattle.rules.specs.Queue.{belongs, ids_for, collected, taking, take_completed}
use Rattle.collecting.proofs.Chosen.{length_those}

pub length_ids : (owner : Owner) (f : Flows) → length (ids_for owner f) ≡ count (belongs owner) (waiting f)
unfolding ids_for
length_ids owner f = length-map (those (belongs owner) (waiting f)) (λ c. c.id) ∙ length_those (belongs owner) (waiting f)

taking_nothing : (ids : List ℕ) (owner : Owner) (f : Flows) (buffer : List ℕ) → length ids ≡ 0 → taking ids owner f buffer ≡ lent (answering Nothing f) buffer
unfolding taking
taking_nothing [] owner f buffer h = refl
taking_nothing (id ∷ ids) owner f buffer h = absurd (omega arith)

taking_short : (ids : List ℕ) (owner : Owner) (f : Flows) (buffer : List ℕ) → 0 < length ids → length buffer < length ids → taking ids owner f buffer ≡ refused_lent f buffer 8
unfolding taking refusing
taking_short [] owner f buffer h l = absurd (omega arith)
taking_short (id ∷ ids) owner f buffer h l = rw (lt-ltb (length buffer) (suc (length ids)) l) refl

taking_all : (ids : List ℕ) (owner : Owner) (f : Flows) (buffer : List ℕ) → 0 < length ids → length ids ≤ length buffer → taking ids owner f buffer ≡ lent (answering (Listed (length ids)) (collected owner f)) (write_front ids buffer)
unfolding taking refusing
taking_all [] owner f buffer h l = absurd (omega arith)
taking_all (id ∷ ids) owner f buffer h l = rw (le-ltb (length buffer) (suc (length ids)) l) refl

module _ (owner : Owner) (f : Flows) (buffer : List ℕ) (n : ℕ) (e : n ≡ count (belongs owner) (waiting f)) where
  pub take_nothing : n ≡ 0 → take_completed owner f buffer ≡ lent (answering Nothing f) buffer
  unfolding take_completed
  take_nothing h = taking_nothing (ids_for owner f) owner f buffer (omega (arith, length_ids owner f))

  pub take_short : 0 < n → length buffer < n → take_completed owner f buffer ≡ refused_lent f buffer 8
  unfolding take_completed
  take_short h l = let long = length_ids owner f in taking_short (ids_for owner f) owner f buffer (omega arith) (omega arith)

  pub take_all : 0 < n → n ≤ length buffer → take_completed owner f buffer ≡ lent (answering (Listed n) (collected owner f)) (write_front (ids_for owner f) buffer)
  unfolding take_completed
  take_all h l =
      let long : length (ids_for owner f) ≡ n = length_ids owner f ∙ sym e in
      rw (← long) (taking_all (ids_for owner f) owner f buffer (omega arith) (omega arith))
