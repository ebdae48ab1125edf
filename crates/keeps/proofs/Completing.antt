-- Those that are done leave their slots and are owed; each that is counted and queued is owed no more, and in the end nothing is. Assumes nothing.
use Prim.Native.Nat.{suc, ◌+◌, ◌≤◌}
use native.Mathlib.Omega.{arith}
use mathlib.Core.Path.{◌≡◌, refl}
use mathlib.Core.Bool.{Bool, true, false, ◌&&◌, cond}
use mathlib.Core.List.{List, [], ◌∷◌, map, foldl}
use lib.Dec.{ltb}
use lib.ListN.{length, take}
use Rattle.rules.specs.declared.Transfer.{Transfer}
use Rattle.rules.specs.declared.Completion.{Completion}
use Rattle.rules.specs.declared.Flows.{Flows}
use Rattle.rules.specs.Lists.{count, those}
use Rattle.rules.specs.Records.{max_slots, free, waiting, owner_kind, with_in_flight, with_waiting, with_totals}
use Rattle.rules.specs.Done.{done_eps, is_done}
use Rattle.rules.specs.Queue.{inserted, queued}
use Rattle.rules.specs.Advance.{done_now, by_id, done_list, count_completed, completed_one, completed}
use Rattle.rules.specs.Invariant.{SoundSlot, of_kind, Invariant}
use Rattle.rules.proofs.Counting.{count_map, one_if, count_same, count_those, count_cleared, count_everyone}
use Rattle.keeps.proofs.Parts.{parts}
use Rattle.keeps.proofs.Drained.{owed_by, Owing, Drained, drained_parts, made_stale_keeps, slot_in, free_slot}
use Rattle.keeps.proofs.Tally.{changed, changed_peak, on_tally_is, each_tally}
use Rattle.keeps.proofs.Slots.{other_slots, cleared, each_cleared, crowd_cleared}
use Rattle.keeps.proofs.Ascending.{ascending_inserted, inserted_length}
use Rattle.keeps.proofs.Waiting.{waiting_length, waiting_ascends, queue_sound}

-- ---- the list holds each that is done once

abbrev completion : Transfer → Completion
completion t = record { owner = t.owner; id = t.id }

module _ (q : Completion → Bool) where
  count_by_id : (list : List Completion) (c : Completion) → count q (by_id list c) ≡ one_if (q c) + count q list
  unfolding by_id count
  count_by_id [] c = refl
  count_by_id (d ∷ list) c = go (ltb c.id d.id) (count_by_id list c)
    where
      go : (b : Bool) → count q (by_id list c) ≡ one_if (q c) + count q list → count q (cond b (c ∷ d ∷ list) (d ∷ by_id list c)) ≡ one_if (q c) + (one_if (q d) + count q list)
      go true r = refl
      go false r = omega (arith, r)

  count_in_order : (list cs : List Completion) → count q (foldl by_id list cs) ≡ count q list + count q cs
  unfolding count
  count_in_order list [] = omega arith
  count_in_order list (c ∷ cs) = omega (arith, count_in_order (by_id list c) cs, count_by_id list c)

  count_done : (f : Flows) → count q (done_list f) ≡ count (λ t. done_now f t && q (completion t)) f.in_flight
  unfolding done_list count
  count_done f =
      let done = those (done_now f) f.in_flight in
      omega (arith, count_in_order [] (map completion done), count_map q completion done, count_those (λ t. q (completion t)) (done_now f) f.in_flight)

-- who is done is in flight
done_taken : (f : Flows) (q : Bool) (t : Transfer) → (done_now f t && q) ≡ (done_now f t && (t.taken && q))
unfolding done_now
done_taken f q t = go t.taken (is_done (done_eps f) t)
  where
    go : (b c : Bool) → (b && c && q) ≡ (b && c && (b && q))
    go true c = refl
    go false c = refl

-- ---- leaving

-- of those that pass a test, some stay and the others are listed
leaves : (d : Flows) (q : Completion → Bool) → count (λ t. t.taken && q (completion t)) (map (cleared (done_now d)) d.in_flight) + count q (done_list d) ≡ count (λ t. t.taken && q (completion t)) d.in_flight
leaves d q =
    let slots = d.in_flight in
    let test : Transfer → Bool = λ t. t.taken && q (completion t) in
    omega (arith, count_cleared test (done_now d) free refl slots, count_done q d, count_same (λ t. done_now d t && q (completion t)) (λ t. done_now d t && test t) slots (λ t. done_taken d (q (completion t)) t))

all_leave : (d : Flows) → count (λ t. t.taken) (map (cleared (done_now d)) d.in_flight) + length (done_list d) ≡ count (λ t. t.taken) d.in_flight
all_leave d = rw (plainly (map (cleared (done_now d)) d.in_flight), plainly d.in_flight, ← count_everyone (done_list d)) (leaves d (λ c. true))
  where
    plainly : (slots : List Transfer) → count (λ t. t.taken) slots ≡ count (λ t. t.taken && true) slots
    plainly slots = count_same (λ t. t.taken) (λ t. t.taken && true) slots (λ t. go t.taken)
      where
        go : (b : Bool) → b ≡ (b && true)
        go true = refl
        go false = refl

pub emptied_drained : (d : Flows) → Drained [] d → Drained (done_list d) (with_in_flight (map (cleared (done_now d)) d.in_flight) d)
unfolding with_in_flight with_totals count of_kind
emptied_drained d was =
    let slots = d.in_flight in
    let done = done_now d in
    other_slots was (map (cleared done) slots) d.totals
    (crowd_cleared done slots was.crowd was.each)
    (each_cleared done (SoundSlot d) slots (free_slot d) was.each)
    (record {
      room = omega (arith, was.totals.room, all_leave d);
      reached = omega (arith, was.totals.reached, all_leave d);
      bound = was.totals.bound;
      balanced = λ o. record {
        accounted = omega (arith, (was.totals.balanced o).accounted, leaves d (owed_by (owner_kind o)));
        fits = (was.totals.balanced o).fits;
        bytes = (was.totals.balanced o).bytes;
      };
    })

-- ---- being queued

pub one_queued : (owed : List Completion) (c : Completion) (f : Flows) → Drained (c ∷ owed) f → Drained owed (completed_one f c)
unfolding completed_one queued with_waiting with_totals waiting count count_completed
one_queued owed c f was =
    let few : f.num_completed ≤ max_slots = omega (arith, was.totals.room) in
    let queue = inserted c (take f.num_completed f.completed) in
    let longer : length queue ≤ suc f.num_completed = omega (arith, inserted_length c (take f.num_completed f.completed), waiting_length was.queue few) in
    rw (on_tally_is count_completed c.owner (queued c f)) (record {
      tolerance = was.tolerance;
      clock = was.clock;
      edges = was.edges;
      queue = queue_sound queue (ascending_inserted c (take f.num_completed f.completed) (waiting_ascends was.queue few)) (omega (arith, was.totals.room));
      crowd = was.crowd;
      each = λ i. slot_in f (with_totals (changed c.owner count_completed f.totals) (queued c f)) (omega arith) refl (was.each i);
      at_clock = was.at_clock;
      totals = record {
        room = omega (arith, was.totals.room);
        reached = omega (arith, was.totals.reached, changed_peak count_completed c.owner f.totals);
        bound = omega (arith, was.totals.bound, changed_peak count_completed c.owner f.totals);
        balanced = each_tally count_completed (Owing owed f.in_flight) c.owner f.totals
            (λ o e. let was_o = was.totals.balanced o in let counted = rw e at was_o.accounted in record { accounted = omega (arith, counted); fits = was_o.fits; bytes = was_o.bytes })
            (λ o e. let was_o = was.totals.balanced o in let counted = rw e at was_o.accounted in record { accounted = omega (arith, counted); fits = was_o.fits; bytes = was_o.bytes });
      };
    })

all_queued : (list : List Completion) (f : Flows) → Drained list f → Drained [] (foldl completed_one f list)
all_queued [] f was = was
all_queued (c ∷ list) f was = all_queued list (completed_one f c) (one_queued list c f was)

pub completed_keeps : (d : Flows) → Invariant d → d.clock.last_drain ≡ d.clock.now → Invariant (completed d (done_list d))
unfolding completed
completed_keeps d inv at = go (done_list d) (emptied_drained d (drained_parts (parts inv) at))
  where
    go : (list : List Completion) → Drained list (with_in_flight (map (cleared (done_now d)) d.in_flight) d) → Invariant (completed d list)
    go [] was = inv
    go (c ∷ list) was = made_stale_keeps (all_queued (c ∷ list) (with_in_flight (map (cleared (done_now d)) d.in_flight) d) was)
