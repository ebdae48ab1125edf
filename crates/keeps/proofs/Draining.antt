-- A drain to a time leaves every transfer sound and standing at that time, the edges sound with what was moved and the load that passed, and all else as it was.
-- Assumes nothing.
use Prim.Native.Nat.{ℕ, zero, suc}
use native.Mathlib.Omega.{arith}
use mathlib.Core.Path.{◌≡◌, refl, sym, ap, ◌∙◌}
use mathlib.Core.Bool.{cond}
use mathlib.Core.List.{List, [], ◌∷◌, map, foldl}
use lib.Dec.{T}
use lib.Ieee.{Float}
use Rattle.doubles.specs.Doubles.{◌⊖◌, ◌≺◌, ◌≼◌}
use Rattle.rules.specs.declared.Edge.{Edge}
use Rattle.rules.specs.declared.Transfer.{Transfer}
use Rattle.rules.specs.declared.Flows.{Flows}
use Rattle.rules.specs.Lists.{Each, update, at_each_crossing}
use Rattle.rules.specs.Records.{free, own_path, with_edges, with_in_flight, with_clock, drain_noted}
use Rattle.rules.specs.Clock.{ensure_rates, moves, bytes_flowing, drained, gain_moved, deliver, pass_time, drain_slots, drain_to, settled, drained_to_clock}
use Rattle.rules.specs.Invariant.{ClockTime, SoundSlot, Invariant}
use Rattle.rules.proofs.Conds.{by_test}
use Rattle.doubles.proofs.Monotone.{plain_le_trans}
use Rattle.keeps.proofs.Stalls.{elapsed}
use Rattle.keeps.proofs.OneDrained.{Same, drained_same}
use Rattle.keeps.proofs.SlotsDrained.{slots_kept}
use Rattle.keeps.proofs.EdgesDrained.{length_delivered, delivered_sound, delivered_away}
use Rattle.keeps.proofs.Arguments.{le_itself}
use Rattle.keeps.proofs.Parts.{EdgesSound, parts}
use Rattle.keeps.proofs.Crowd.{who, Alike, same_crowd}
use Rattle.keeps.proofs.Drained.{drained_parts}
use Rattle.keeps.proofs.Reached.{Reached}
use Rattle.keeps.proofs.Passing.{retimed, retimed_keeps, busied, busied_sound, busied_capacity, pass_time_is}
use Rattle.keeps.proofs.Refreshing.{Refreshed, as_it_was, ensure_rates_refreshes}

-- ---- no capacity moves

map_update : {A B : Type 0} (c : A → B) (f : A → A) → ((x : A) → c (f x) ≡ c x) → (e : ℕ) (xs : List A) → map c (update e f xs) ≡ map c xs
unfolding update
map_update c f same e [] = refl
map_update c f same zero (x ∷ xs) = rw (same x) refl
map_update c f same (suc e) (x ∷ xs) = rw (map_update c f same e xs) refl

map_crossing : {A B : Type 0} (c : A → B) (f : A → A) → ((x : A) → c (f x) ≡ c x) → (path : List ℕ) (xs : List A) → map c (at_each_crossing path f xs) ≡ map c xs
unfolding at_each_crossing
map_crossing c f same [] xs = refl
map_crossing c f same (e ∷ path) xs = map_crossing c f same path (update e f xs) ∙ map_update c f same e xs

pub delivered_capacity : (until : Float) (edges : List Edge) (slots : List Transfer) → map (λ e. e.capacity) (foldl (deliver own_path until) edges slots) ≡ map (λ e. e.capacity) edges
unfolding deliver gain_moved
delivered_capacity until edges [] = refl
delivered_capacity until edges (t ∷ slots) =
    delivered_capacity until (deliver own_path until edges t) slots
    ∙ by_test (λ (after : List Edge). map (λ e. e.capacity) after ≡ map (λ e. e.capacity) edges) (moves until t)
    (λ moving. map_crossing (λ e. e.capacity) (gain_moved (bytes_flowing until t)) (λ e. refl) (own_path t) edges) refl

-- ---- who is in flight stays

same_who : (t u : Transfer) → Same t u → who u ≡ who t
same_who t u s = rw (s.taken, s.id, s.owner, s.path) refl

-- what a drain leaves of each transfer it leaves of all
pub each_drained : {A : Type 0} (g : Transfer → A) (until : Float) → ((t : Transfer) → g (drained until t) ≡ g t) → (slots : List Transfer) → map g (map (drained until) slots) ≡ map g slots
each_drained g until same [] = refl
each_drained g until same (t ∷ slots) = rw (each_drained g until same slots, same t) refl

-- ---- slots drained, then time passed

module _ (until : Float) (g : Flows) (time : ClockTime until) (later : T (g.clock.now ≼ until)) (inv : Invariant g) where
  abbrev slots : List Transfer
  slots = map (drained until) g.in_flight

  abbrev credited : List Edge
  credited = foldl (deliver own_path until) g.edges g.in_flight

  abbrev edges : List Edge
  edges = busied (until ⊖ g.clock.now) slots credited

  abbrev after : Flows
  after = retimed edges slots until until g

  alike : Alike g.in_flight slots
  alike = record { same = each_drained who until (λ t. same_who t (drained until t) (drained_same until t)) g.in_flight }

  -- the last drain was no later than now, and so than that time
  since : T (g.clock.last_drain ≼ until)
  since = plain_le_trans inv.last_drain inv.clock.plain time.plain inv.drained_by_now later

  each : Each (SoundSlot after) free slots
  each = slots_kept {f = g} after until g.in_flight inv.last_drain time.plain since (omega arith) refl inv.slots

  credited_sound : EdgesSound credited g.num_edges
  credited_sound = record {
    places = length_delivered until g.edges g.in_flight ∙ inv.edge_places;
    few = inv.few_edges;
    sound = delivered_sound {f = g} inv.last_drain time.plain since g.edges g.in_flight inv.slots inv.edges;
    blank = λ e past. delivered_away {f = g} e past until g.edges g.in_flight inv.slots ∙ inv.edges_blank e past;
  }

  after_keeps : Invariant after
  after_keeps =
      retimed_keeps inv edges slots until until time time.plain (le_itself time.plain) (λ e. refl)
      (busied_sound after (until ⊖ g.clock.now) slots credited each (same_crowd alike (parts inv).crowd).path_room (elapsed inv.clock.plain time later) credited_sound)
      alike
      each

  after_is : pass_time until (drain_slots until g) ≡ after
  unfolding drain_slots drain_noted with_in_flight with_edges with_clock
  after_is = pass_time_is until (drain_slots until g)

  after_reached : Reached until g after
  after_reached = record {
    drained = drained_parts (parts after_keeps) refl;
    now = refl;
    alike = alike;
    edges = refl;
    capacities = busied_capacity (until ⊖ g.clock.now) slots credited ∙ delivered_capacity until g.edges g.in_flight;
    waiting = refl;
    totals = refl;
  }

-- ---- the drain

module _ (until : Float) (f : Flows) (time : ClockTime until) (later : T (f.clock.now ≼ until)) (inv : Invariant f) where
  -- what a refreshed simulator reaches, the simulator reaches
  through : {g h : Flows} → Refreshed f g → Reached until g h → Reached until f h
  through r s = record {
    drained = s.drained;
    now = s.now;
    alike = record { same = s.alike.same ∙ r.alike.same };
    edges = s.edges ∙ r.number;
    capacities = s.capacities ∙ ap (λ (edges : List Edge). map (λ e. e.capacity) edges) r.edges;
    waiting = s.waiting ∙ r.waiting;
    totals = s.totals ∙ r.totals;
  }

  -- with rates up to date first where the time is past the clock
  refreshed : Refreshed f (cond (f.clock.now ≺ until) (ensure_rates f) f)
  refreshed = by_test (Refreshed f) (f.clock.now ≺ until) (λ past. ensure_rates_refreshes inv) (as_it_was inv)

  pub drain_to_both : Invariant (drain_to until f) × Reached until f (drain_to until f)
  unfolding drain_to
  drain_to_both =
      let g = cond (f.clock.now ≺ until) (ensure_rates f) f in
      let still : T (g.clock.now ≼ until) = rw refreshed.now later in (
        rw (after_is until g time still refreshed.sound) (after_keeps until g time still refreshed.sound),
        rw (after_is until g time still refreshed.sound) (through refreshed (after_reached until g time still refreshed.sound)),
      )

module _ {until : Float} {f : Flows} (inv : Invariant f) (time : ClockTime until) (later : T (f.clock.now ≼ until)) where
  pub drain_to_keeps : Invariant (drain_to until f)
  drain_to_keeps = (drain_to_both until f time later inv).0

  pub drain_to_reaches : Reached until f (drain_to until f)
  drain_to_reaches = (drain_to_both until f time later inv).1

  -- with rates up to date there the last drain is still that of the clock
  pub settled_at_clock : (settled until f).clock.last_drain ≡ (settled until f).clock.now
  settled_at_clock = let r = ensure_rates_refreshes drain_to_keeps in r.drain ∙ drain_to_reaches.drained.at_clock ∙ sym r.now

-- ---- to the clock itself

module _ {f : Flows} (inv : Invariant f) where
  pub drained_to_clock_keeps : Invariant (drained_to_clock f)
  unfolding drained_to_clock
  drained_to_clock_keeps = drain_to_keeps inv inv.clock (le_itself inv.clock.plain)

  pub drained_to_clock_reaches : Reached f.clock.now f (drained_to_clock f)
  unfolding drained_to_clock
  drained_to_clock_reaches = drain_to_reaches inv inv.clock (le_itself inv.clock.plain)
