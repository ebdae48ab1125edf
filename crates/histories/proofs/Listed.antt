-- A list of completions reads back from the buffer that it was written to, and whoever notes it takes those ids out and counts those kinds. Assumes nothing.
use mathlib.Core.Path.{◌≡◌, refl, ap, ◌∙◌}
use mathlib.Core.Bool.{Bool, true, false, not, ◌&&◌, ◌||◌}
use mathlib.Core.List.{List, [], ◌∷◌, ◌++◌, map, foldl}
use Prim.Native.Nat.{ℕ, ◌+◌}
use lib.ListN.{length}
use Rattle.rules.specs.declared.Owner.{Owner}
use Rattle.rules.specs.declared.Completion.{Completion}
use Rattle.rules.specs.Lists.{count, any, write_front}
use Rattle.rules.specs.Queue.{triples}
use Rattle.rules.specs.Tallies.{Entry, Ledger, number_of, kind_of, has_entry, without, note_completed, entries}
use Rattle.rules.proofs.Counting.{count_same, count_those}
use Rattle.rules.proofs.Folds.{fold_keeps, fold_counts}
use Rattle.histories.proofs.Agreement.{entry_of}

-- ---- reading back

entries_read : (list : List Completion) (rest : List ℕ) → entries (length list) (triples list ++ rest) ≡ map entry_of list
unfolding entries triples
entries_read [] rest = refl
entries_read (c ∷ list) rest = ap (λ (es : List Entry). entry_of c ∷ es) (entries_read list rest)

pub reads_back : (list : List Completion) (buffer : List ℕ) → entries (length list) (write_front (triples list) buffer) ≡ map entry_of list
unfolding write_front
reads_back list buffer = entries_read list _

-- ---- noting a list

abbrev pub note_all : Ledger → List Entry → Ledger
note_all l list = foldl (λ m e. note_completed e m) l list

-- Whether an entry's id is in a list.
unfoldable pub listed_in : List Entry → Entry → Bool
listed_in list x = any (λ e. has_entry e.id x) list

module _ (l : Ledger) (list : List Entry) where
  pub note_all_submitted : (note_all l list).submitted ≡ l.submitted
  unfolding note_completed
  note_all_submitted = fold_keeps (λ m e. note_completed e m) (λ m. m.submitted) (λ m e. refl) l list

  pub note_all_cancelled : (note_all l list).cancelled ≡ l.cancelled
  unfolding note_completed
  note_all_cancelled = fold_keeps (λ m e. note_completed e m) (λ m. m.cancelled) (λ m e. refl) l list

  pub note_all_completed : (owner : Owner) → number_of owner (note_all l list).completed ≡ count (λ e. kind_of owner e.kind) list + number_of owner l.completed
  unfolding note_completed count
  note_all_completed owner = fold_counts (λ m e. note_completed e m) (λ m. number_of owner m.completed) (λ e. kind_of owner e.kind) (λ m e. refl) l list

pub note_all_in_flight : (p : Entry → Bool) (l : Ledger) (list : List Entry) → count p (note_all l list).in_flight ≡ count (λ x. not (listed_in list x) && p x) l.in_flight
unfolding note_completed without listed_in any
note_all_in_flight p l [] = refl
note_all_in_flight p l (e ∷ list) =
    note_all_in_flight p (note_completed e l) list
    ∙ count_those (λ x. not (listed_in list x) && p x) (λ x. not (has_entry e.id x)) l.in_flight
    ∙ count_same _ _ l.in_flight (λ x. go (has_entry e.id x) (listed_in list x) (p x))
  where
    go : (a b c : Bool) → (not a && (not b && c)) ≡ (not (a || b) && c)
    go true b c = refl
    go false b c = refl
