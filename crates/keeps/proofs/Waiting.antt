-- An ascending queue of at most 256 with blanks behind it is a sound table, and a sound table holds one; so queues may be put in each other's place. Assumes nothing.
use Prim.Native.Nat.{ℕ, zero, suc, ◌+◌, ◌-◌, ◌≤◌, ◌<◌}
use native.Mathlib.Omega.{arith}
use mathlib.Core.Path.{◌≡◌, refl, ◌∙◌}
use mathlib.Core.Bool.{Bool, true, not}
use mathlib.Core.List.{List, [], ◌∷◌, ◌++◌}
use lib.ListN.{length, get_or, take, replicate, length-append, length-replicate, get_or-append}
use lib.Seq.{length-take-le, get_or-take, get_or-append-add}
use Rattle.rules.specs.declared.Owner.{Owner}
use Rattle.rules.specs.declared.Completion.{Completion}
use Rattle.rules.specs.declared.Flows.{Flows}
use Rattle.rules.specs.Lists.{those}
use Rattle.rules.specs.Records.{max_slots, blank_completion, waiting, before, with_waiting}
use Rattle.rules.specs.Queue.{belongs, collected}
use Rattle.rules.specs.Invariant.{Invariant}
use Rattle.rules.proofs.Each.{each_same}
use Rattle.keeps.proofs.Parts.{QueueSound, parts, joined}
use Rattle.keeps.proofs.Drained.{slot_in}
use Rattle.keeps.proofs.Ascending.{After, Ascending, ascending_those, those_length}

-- ---- places and the order

-- The order told by places.
abbrev Ordered : List Completion → Type 0
Ordered queue = (i j : ℕ) → i < j → j < length queue → before (get_or queue i blank_completion) (get_or queue j blank_completion) ≡ true

after_by_place : (c : Completion) (queue : List Completion) → ((j : ℕ) → j < length queue → before c (get_or queue j blank_completion) ≡ true) → After c queue
after_by_place c [] h = tt
after_by_place c (d ∷ queue) h = (h 0 (omega arith), after_by_place c queue (λ j l. h (suc j) (omega arith)))

ascending_by_place : (queue : List Completion) → Ordered queue → Ascending queue
ascending_by_place [] h = tt
ascending_by_place (c ∷ queue) h = (after_by_place c queue (λ j l. h 0 (suc j) (omega arith) (omega arith)), ascending_by_place queue (λ i j l m. h (suc i) (suc j) (omega arith) (omega arith)))

after_at : (c : Completion) (queue : List Completion) → After c queue → (j : ℕ) → j < length queue → before c (get_or queue j blank_completion) ≡ true
after_at c [] a j l = absurd (omega arith)
after_at c (d ∷ queue) a zero l = a.0
after_at c (d ∷ queue) a (suc j) l = after_at c queue a.1 j (omega arith)

ordered : (queue : List Completion) → Ascending queue → Ordered queue
ordered [] a i j l m = absurd (omega arith)
ordered (c ∷ queue) a i zero l m = absurd (omega arith)
ordered (c ∷ queue) a zero (suc j) l m = after_at c queue a.0 j (omega arith)
ordered (c ∷ queue) a (suc i) (suc j) l m = ordered queue a.1 i j (omega arith) (omega arith)

-- ---- tables

module _ {table : List Completion} {n : ℕ} (sound : QueueSound table n) (few : n ≤ max_slots) where
  pub waiting_length : length (take n table) ≡ n
  waiting_length = length-take-le n table (omega (arith, sound.places, few))

  pub waiting_ascends : Ascending (take n table)
  waiting_ascends = ascending_by_place (take n table) (λ i j l m.
      let j_in : j < n = omega (arith, m, waiting_length) in
      let i_in : i < n = omega arith in
      rw (get_or-take n table i blank_completion i_in, get_or-take n table j blank_completion j_in) (sound.ordered i j l j_in))

-- A queue with its blanks.
abbrev pub with_blanks : List Completion → List Completion
with_blanks queue = queue ++ replicate (max_slots - length queue) blank_completion

pub queue_sound : (queue : List Completion) → Ascending queue → length queue ≤ max_slots → QueueSound (with_blanks queue) (length queue)
queue_sound queue a few = record {
  places = length-append queue (replicate (max_slots - length queue) blank_completion) ∙ rw (length-replicate (max_slots - length queue) blank_completion) (omega arith);
  ordered = λ i j l m.
      rw (get_or-append queue (replicate (max_slots - length queue) blank_completion) blank_completion i (omega arith), get_or-append queue (replicate (max_slots - length queue) blank_completion) blank_completion j m)
      (ordered queue a i j l m);
  blank = λ i l.
      let z : i ≡ length queue + (i - length queue) = omega arith in
      rw (z, get_or-append-add queue (replicate (max_slots - length queue) blank_completion) (i - length queue) blank_completion)
      (each_same (λ (c : Completion). c ≡ blank_completion) blank_completion (max_slots - length queue) blank_completion refl refl (i - length queue));
}

-- ---- collecting

pub collected_keeps : (owner : Owner) (f : Flows) → Invariant f → Invariant (collected owner f)
unfolding collected with_waiting waiting
collected_keeps owner f inv =
    let p = parts inv in
    let fewer : Completion → Bool = λ c. not (belongs owner c) in
    let few : f.num_completed ≤ max_slots = omega (arith, p.totals.room) in
    let queue = those fewer (take f.num_completed f.completed) in
    let short : length queue ≤ f.num_completed = omega (arith, those_length fewer (take f.num_completed f.completed), waiting_length p.queue few) in
    joined (record {
      tolerance = p.tolerance;
      clock = p.clock;
      edges = p.edges;
      queue = queue_sound queue (ascending_those fewer (take f.num_completed f.completed) (waiting_ascends p.queue few)) (omega arith);
      crowd = p.crowd;
      slots = λ i. slot_in f (collected owner f) (omega arith) refl (p.slots i);
      totals = record { room = omega (arith, p.totals.room); reached = p.totals.reached; bound = p.totals.bound; balanced = p.totals.balanced };
      rates = p.rates;
    })
