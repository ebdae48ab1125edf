-- An advance that lists frees exactly those that are done and counts each under its owner's kind, as the list has a listener note. Assumes nothing.
use mathlib.Core.Path.{◌≡◌, refl, sym, ap, ◌∙◌}
use mathlib.Core.Bool.{Bool, true, false, not, ◌&&◌, cond, and-false}
use mathlib.Core.List.{List, [], ◌∷◌, map, foldl}
use Prim.Native.Nat.{ℕ, ◌+◌, ◌≤◌}
use native.Mathlib.Omega.{arith}
use lib.Dec.{eqb, ltb}
use lib.ListN.{get_or}
use Rattle.rules.specs.declared.Owner.{Owner}
use Rattle.rules.specs.declared.Transfer.{Transfer}
use Rattle.rules.specs.declared.Completion.{Completion}
use Rattle.rules.specs.declared.Tally.{Tally}
use Rattle.rules.specs.declared.Flows.{Flows}
use Rattle.rules.specs.Lists.{count, those, any}
use Rattle.rules.specs.Records.{free, owner_kind, has_id, tally_of, with_in_flight, with_waiting, with_clock, made_stale}
use Rattle.rules.specs.Done.{done_eps, is_done}
use Rattle.rules.specs.Queue.{queued}
use Rattle.rules.specs.Advance.{done_now, by_id, done_list, count_completed, completed_one, completed}
use Rattle.rules.specs.Tallies.{Entry, Ledger, number_of, kind_of, has_entry}
use Rattle.rules.proofs.Counting.{count_map, count_same, count_those, count_same_at, count_split, count_some, any_some, any_none}
use Rattle.rules.proofs.Crossings.{eqb_swap}
use Rattle.rules.proofs.Folds.{fold_keeps, fold_counts}
use Rattle.histories.proofs.Agreement.{Agrees, in_slot, entry, entry_of}
use Rattle.histories.proofs.Counters.{counts, counts_nothing, slots_on_tally}
use Rattle.histories.proofs.Slots.{count_freed, has_own_id}
use Rattle.histories.proofs.Listed.{note_all, listed_in, note_all_submitted, note_all_completed, note_all_cancelled, note_all_in_flight}

-- ---- who is listed

count_by_id : (q : Completion → Bool) (list : List Completion) (c : Completion) → count q (by_id list c) ≡ cond (q c) 1 0 + count q list
unfolding count by_id
count_by_id q [] c = refl
count_by_id q (d ∷ list) c = go (ltb c.id d.id) (count_by_id q list c)
  where
    go : (b : Bool) → count q (by_id list c) ≡ cond (q c) 1 0 + count q list → count q (cond b (c ∷ d ∷ list) (d ∷ by_id list c)) ≡ cond (q c) 1 0 + (cond (q d) 1 0 + count q list)
    go true rest = refl
    go false rest = omega (arith, rest)

-- A transfer as it is listed.
abbrev told : Transfer → Completion
told t = record { owner = t.owner; id = t.id }

module _ (d : Flows) where
  -- whatever is asked, as many of the list pass as of those that are done
  count_done : (q : Completion → Bool) → count q (done_list d) ≡ count (λ t. done_now d t && q (told t)) d.in_flight
  unfolding done_list count
  count_done q =
      let done = those (done_now d) d.in_flight in
      let sum : count q (foldl by_id [] (map told done)) ≡ count q (map told done) + 0 = fold_counts by_id (count q) q (λ list c. count_by_id q list c) [] (map told done) in
      let same : count q (foldl by_id [] (map told done)) ≡ count q (map told done) = omega arith in
      same ∙ count_map q told done ∙ count_those (λ t. q (told t)) (done_now d) d.in_flight

  done_is_taken : (t : Transfer) (q : Bool) → (done_now d t && (t.taken && q)) ≡ (done_now d t && q)
  unfolding done_now
  done_is_taken t q = go t.taken (is_done (done_eps d) t)
    where
      go : (a b : Bool) → (a && b && (a && q)) ≡ (a && b && q)
      go true b = refl
      go false b = refl

  -- an entry's id is listed as often as slots with that id are done
  count_listed : (x : Entry) → count (λ e. has_entry e.id x) (map entry_of (done_list d)) ≡ count (λ t. done_now d t && has_id x.id t) d.in_flight
  unfolding has_entry has_id
  count_listed x =
      count_map (λ (e : Entry). has_entry e.id x) entry_of (done_list d)
      ∙ count_done (λ c. eqb x.id c.id)
      ∙ count_same _ _ d.in_flight (λ t. rw (eqb_swap x.id t.id) (sym (done_is_taken t (eqb t.id x.id))))

  -- ---- who is left

  left_where_none : (p : Entry → Bool) → done_list d ≡ [] → count (in_slot p) d.in_flight ≡ count (λ t. not (done_now d t) && in_slot p t) d.in_flight
  unfolding count
  left_where_none p none =
      let listed : count (λ c. p (entry_of c)) (done_list d) ≡ 0 = ap (count (λ c. p (entry_of c))) none in
      let same : count (λ t. done_now d t && in_slot p t) d.in_flight ≡ count (λ t. done_now d t && p (entry t)) d.in_flight = count_same _ _ d.in_flight (λ t. done_is_taken t (p (entry t))) in
      omega (arith, count_split (in_slot p) (done_now d) d.in_flight, same, count_done (λ c. p (entry_of c)), listed)

  abbrev emptied : Flows
  emptied = with_in_flight (map (λ t. cond (done_now d t) free t) d.in_flight) d

  left_in_flight : (p : Entry → Bool) → count (in_slot p) (completed d (done_list d)).in_flight ≡ count (λ t. not (done_now d t) && in_slot p t) d.in_flight
  unfolding completed made_stale with_clock with_in_flight completed_one queued with_waiting
  left_in_flight p = go (done_list d) refl
    where
      go : (list : List Completion) → done_list d ≡ list → count (in_slot p) (completed d list).in_flight ≡ count (λ t. not (done_now d t) && in_slot p t) d.in_flight
      go [] e = left_where_none p e
      go (c ∷ list) e =
          rw (fold_keeps completed_one (λ (f : Flows). f.in_flight) (λ f c. slots_on_tally c.owner count_completed (queued c f)) emptied (c ∷ list))
          (count_freed p (done_now d) d.in_flight)

  -- ---- the counters

  completed_counts : (owner : Owner) (list : List Completion) → (tally_of owner (completed d list).totals).completed ≡ count (λ c. kind_of owner (owner_kind c.owner)) list + (tally_of owner d.totals).completed
  unfolding completed made_stale with_clock with_in_flight completed_one queued with_waiting count_completed count
  completed_counts owner [] = omega arith
  completed_counts owner (c ∷ list) =
      fold_counts completed_one (λ f. (tally_of owner f.totals).completed) (λ c. kind_of owner (owner_kind c.owner))
      (λ f c. counts c.owner count_completed (queued c f) (λ y. y.completed) (λ y. refl) owner) emptied (c ∷ list)

  completed_counts_only : (counter : Tally → ℕ) → ((y : Tally) → counter (count_completed y) ≡ counter y) → (owner : Owner) (list : List Completion) → counter (tally_of owner (completed d list).totals) ≡ counter (tally_of owner d.totals)
  unfolding completed made_stale with_clock with_in_flight completed_one queued with_waiting
  completed_counts_only counter same owner [] = refl
  completed_counts_only counter same owner (c ∷ list) = fold_keeps completed_one (λ f. counter (tally_of owner f.totals)) (λ f c. counts_nothing c.owner count_completed (queued c f) counter same owner) emptied (c ∷ list)

  -- ---- agreement, where no two slots hold one id

  module _ (one : (id : ℕ) → count (has_id id) d.in_flight ≤ 1) where
    -- the id of a transfer in flight is listed exactly where that transfer is done
    listed_if_done : (i : ℕ) → (get_or d.in_flight i free).taken ≡ true → listed_in (map entry_of (done_list d)) (entry (get_or d.in_flight i free)) ≡ done_now d (get_or d.in_flight i free)
    unfolding listed_in done_now has_id
    listed_if_done i taken = go (get_or d.in_flight i free) refl taken (done_now d (get_or d.in_flight i free)) refl
      where
        go : (t : Transfer) → get_or d.in_flight i free ≡ t → t.taken ≡ true → (b : Bool) → done_now d t ≡ b → any (λ e. has_entry e.id (entry t)) (map entry_of (done_list d)) ≡ b
        go t here taken true done = any_some _ (map entry_of (done_list d)) (rw (count_listed (entry t)) (count_some (λ s. done_now d s && has_id t.id s) d.in_flight free refl i (rw (here, done) (has_own_id t taken))))
        go t here taken false undone =
            any_none _ (map entry_of (done_list d)) (
            omega (
              arith,
              count_listed (entry t),
              one t.id,
              count_split (has_id t.id) (done_now d) d.in_flight,
              count_some (λ s. not (done_now d s) && has_id t.id s) d.in_flight free refl i (rw (here, undone) (has_own_id t taken)),
            ))

    pub completed_agrees : {l : Ledger} → Agrees d l → Agrees (completed d (done_list d)) (note_all l (map entry_of (done_list d)))
    unfolding count_completed
    completed_agrees {l} a =
        let list = done_list d in
        record {
          submitted = λ o. completed_counts_only (λ y. y.submitted) (λ y. refl) o list ∙ a.submitted o ∙ ap (number_of o) (sym (note_all_submitted l (map entry_of list)));
          completed = λ o. rw (completed_counts o list, note_all_completed l (map entry_of list) o, a.completed o, count_map (λ (e : Entry). kind_of o e.kind) entry_of list) refl;
          cancelled = λ o. completed_counts_only (λ y. y.cancelled) (λ y. refl) o list ∙ a.cancelled o ∙ ap (number_of o) (sym (note_all_cancelled l (map entry_of list)));
          in_flight = λ p.
              note_all_in_flight p l (map entry_of list)
              ∙ a.in_flight (λ x. not (listed_in (map entry_of list) x) && p x)
              ∙ count_same_at _ _ d.in_flight free (λ i. go (get_or d.in_flight i free).taken _ _ (p (entry (get_or d.in_flight i free))) (listed_if_done i))
              ∙ sym (left_in_flight p);
        }
      where
        go : (a b c q : Bool) → (a ≡ true → b ≡ c) → (a && (not b && q)) ≡ (not c && (a && q))
        go true b c q same = rw (same refl) refl
        go false b c q same = sym (and-false (not c))
