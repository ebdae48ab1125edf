-- Time passes: load integrals grow within their range, edges that are not there stay blank, and nothing else moves but the clock. Assumes nothing.
use Prim.Native.Nat.{ℕ, zero, suc, ◌≤◌}
use native.Mathlib.Omega.{arith}
use mathlib.Core.Path.{◌≡◌, refl, sym, ◌∙◌}
use mathlib.Core.Bool.{Bool, true, false, cond, true≢false}
use mathlib.Core.List.{List, [], ◌∷◌, map}
use lib.Dec.{T}
use lib.ListN.{length}
use lib.Ieee.{Float}
use Rattle.doubles.specs.Doubles.{◌⊖◌, ◌≺◌, ◌≼◌, nought, Plain}
use Rattle.rules.specs.declared.Edge.{Edge}
use Rattle.rules.specs.declared.Transfer.{Transfer}
use Rattle.rules.specs.declared.Flows.{Flows}
use Rattle.rules.specs.Lists.{sum, Each, map_from}
use Rattle.rules.specs.Records.{free, own_path, with_edges, with_clock, at_time}
use Rattle.rules.specs.Clock.{crossings_by, counts_in_loads, gain_busy, pass_time}
use Rattle.rules.specs.Invariant.{ClockTime, SoundSlot, Invariant}
use Rattle.rules.proofs.Steps.{length_map_from}
use Rattle.rules.proofs.Conds.{by_test}
use Rattle.doubles.proofs.Monotone.{plain_le_trans}
use Rattle.keeps.proofs.Stalls.{elapsed}
use Rattle.crossings.proofs.Loads.{few_loads}
use Rattle.keeps.proofs.EdgesDrained.{loads_away, busy_sound, busy_away}
use Rattle.keeps.proofs.Parts.{EdgesSound, parts, joined}
use Rattle.keeps.proofs.Crowd.{Alike, same_crowd, same_totals, same_rates}
use Rattle.keeps.proofs.Drained.{slot_in}

-- ---- another time

-- The simulator with other edges, other amounts in its slots, last drained at some time, and the clock at another.
abbrev pub retimed : List Edge → List Transfer → Float → Float → Flows → Flows
retimed edges slots D T f = record {
  edges = edges;
  num_edges = f.num_edges;
  in_flight = slots;
  completed = f.completed;
  num_completed = f.num_completed;
  edge_load = f.edge_load;
  clock = record { now = T; last_drain = D; rates_dirty = f.clock.rates_dirty; next_done_at = f.clock.next_done_at; rounds = f.clock.rounds };
  totals = f.totals;
  tolerance = f.tolerance;
}

pub retimed_keeps : {f : Flows} → Invariant f → (edges : List Edge) (slots : List Transfer) (drain until : Float) → ClockTime until → Plain drain → T (drain ≼ until) → (f.clock.rates_dirty ≡ true → drain ≡ until)
    → EdgesSound edges f.num_edges → Alike f.in_flight slots → Each (SoundSlot (retimed edges slots drain until f)) free slots → Invariant (retimed edges slots drain until f)
retimed_keeps {f} inv edges slots drain until time plain by_now stale sound alike each =
    let p = parts inv in
    joined (record {
      tolerance = p.tolerance;
      clock = record { time = time; drain = plain; by_now = by_now; stale = stale; next = p.clock.next; rounds = p.clock.rounds };
      edges = sound;
      queue = p.queue;
      crowd = same_crowd alike p.crowd;
      slots = each;
      totals = same_totals alike p.totals;
      rates = same_rates alike (retimed edges slots drain until f).clock edges (sound.places ∙ sym p.edges.places) refl refl p.rates;
    })

-- ---- the edges

-- The edges after some seconds, with these in flight.
abbrev pub busied : Float → List Transfer → List Edge → List Edge
busied dt slots edges = cond (nought ≺ dt) (map_from 0 (λ e edge. gain_busy dt (crossings_by counts_in_loads own_path slots e) edge) edges) edges

pub busied_sound : (f : Flows) (dt : Float) (slots : List Transfer) (edges : List Edge) → Each (SoundSlot f) free slots → sum (map (λ t. length (own_path t)) slots) ≤ 2048 → ClockTime dt
    → EdgesSound edges f.num_edges → EdgesSound (busied dt slots edges) f.num_edges
busied_sound f dt slots edges each room time sound = by_test (λ (after : List Edge). EdgesSound after f.num_edges) (nought ≺ dt) (λ passed. record {
  places = length_map_from 0 (λ e edge. gain_busy dt (crossings_by counts_in_loads own_path slots e) edge) edges ∙ sound.places;
  few = sound.few;
  sound = busy_sound dt (crossings_by counts_in_loads own_path slots) edges (λ e. omega (arith, few_loads counts_in_loads slots e, room)) time sound.sound;
  blank = λ e past. busy_away dt (crossings_by counts_in_loads own_path slots) edges e (loads_away {f = f} e past slots each) ∙ sound.blank e past;
}) sound

-- no capacity moves
busy_capacity : (dt : Float) (load : ℕ → ℕ) (n : ℕ) (edges : List Edge) → map (λ e. e.capacity) (map_from n (λ e edge. gain_busy dt (load e) edge) edges) ≡ map (λ e. e.capacity) edges
unfolding map_from
busy_capacity dt load n [] = refl
busy_capacity dt load n (x ∷ edges) = rw (busy_capacity dt load (suc n) edges, own (load n)) refl
  where
    own : (k : ℕ) → (gain_busy dt k x).capacity ≡ x.capacity
    own zero = unfold gain_busy in refl
    own (suc k) = unfold gain_busy in refl

pub busied_capacity : (dt : Float) (slots : List Transfer) (edges : List Edge) → map (λ e. e.capacity) (busied dt slots edges) ≡ map (λ e. e.capacity) edges
busied_capacity dt slots edges =
    by_test (λ (after : List Edge). map (λ e. e.capacity) after ≡ map (λ e. e.capacity) edges) (nought ≺ dt) (λ passed. busy_capacity dt (crossings_by counts_in_loads own_path slots) 0 edges) refl

-- ---- the call

pub pass_time_is : (until : Float) (f : Flows) → pass_time until f ≡ retimed (busied (until ⊖ f.clock.now) f.in_flight f.edges) f.in_flight f.clock.last_drain until f
unfolding pass_time at_time with_clock with_edges
pass_time_is until f = go (nought ≺ until ⊖ f.clock.now)
  where
    busy : List Edge
    busy = map_from 0 (λ e edge. gain_busy (until ⊖ f.clock.now) (crossings_by counts_in_loads own_path f.in_flight e) edge) f.edges

    go : (b : Bool) → at_time until (cond b (with_edges busy f.num_edges f) f) ≡ retimed (cond b busy f.edges) f.in_flight f.clock.last_drain until f
    go true = refl
    go false = refl

-- no transfer is drained, so rates must not be stale
pub pass_time_keeps : {until : Float} {f : Flows} → Invariant f → ClockTime until → T (f.clock.now ≼ until) → f.clock.rates_dirty ≡ false → Invariant (pass_time until f)
pass_time_keeps {until} {f} inv time later fresh =
    let p = parts inv in
    let edges = busied (until ⊖ f.clock.now) f.in_flight f.edges in
    let g = retimed edges f.in_flight f.clock.last_drain until f in
    rw (pass_time_is until f) (retimed_keeps inv edges f.in_flight f.clock.last_drain until time
    p.clock.drain
    (plain_le_trans p.clock.drain p.clock.time.plain time.plain p.clock.by_now later)
    (λ e. absurd (true≢false (sym e ∙ fresh)))
    (busied_sound f (until ⊖ f.clock.now) f.in_flight f.edges p.slots p.crowd.path_room (elapsed p.clock.time.plain time later) p.edges)
    (record { same = refl })
    (λ i. slot_in f g (omega arith) refl (p.slots i)))
