-- Bringing rates up to date gives every transfer a sound rate and changes nothing else of it; then the load table is right, next_done is sound and the rounds were few.
-- Assumes nothing.
use Prim.Native.Nat.{ℕ}
use native.Mathlib.Omega.{arith}
use mathlib.Core.Path.{◌≡◌, refl, sym, ◌∙◌, subst}
use mathlib.Core.Bool.{true, false, true≢false}
use mathlib.Core.List.{map}
use lib.ListN.{get_or, length-map, get_or-map}
use lib.Seq.{ext_get_or}
use lib.Ieee.{Float}
use Rattle.rules.specs.declared.Limit.{Limit}
use Rattle.rules.specs.declared.Limit.TheVariants.{Nowhere}
use Rattle.rules.specs.declared.Transfer.{Transfer}
use Rattle.rules.specs.declared.Flows.{Flows}
use Rattle.rules.specs.Lists.{Each}
use Rattle.rules.specs.Records.{free, path_of, with_in_flight, with_edge_load, with_clock}
use Rattle.rules.specs.Filling.{takes_part, with_rate, recompute_rates}
use Rattle.rules.specs.Clock.{edge_loads, with_rates, ensure_rates}
use Rattle.rules.specs.Fair.{rated}
use Rattle.rules.specs.Invariant.{SoundTransfer, SoundSlot, Invariant}
use Rattle.fairness.proofs.Rates.{SoundRate, rated_length, rated_keeps, rated_stays, rates_plain, few_rounds, rounds_in_slots}
use Rattle.rules.proofs.Conds.{by_test}
use Rattle.keeps.proofs.Waits.{next_sound}
use Rattle.keeps.proofs.Parts.{parts, joined}
use Rattle.keeps.proofs.Crowd.{who, Alike, same_taken, same_crowd, same_totals, same_loads}
use Rattle.keeps.proofs.Drained.{slot_in}

-- A simulator with rates brought up to date, beside what it was.
pub record Refreshed (f g : Flows) : Type 0 where
  pub sound : Invariant g
  pub now : g.clock.now ≡ f.clock.now
  pub alike : Alike f.in_flight g.in_flight
  pub drain : g.clock.last_drain ≡ f.clock.last_drain
  pub edges : g.edges ≡ f.edges
  pub number : g.num_edges ≡ f.num_edges
  pub waiting : g.num_completed ≡ f.num_completed
  pub totals : g.totals ≡ f.totals

rate_sound : {f : Flows} {t : Transfer} (rate : Float) (limit : Limit) → SoundTransfer f t → SoundRate (with_rate rate limit t) → SoundTransfer f (with_rate rate limit t)
unfolding with_rate
rate_sound rate limit s r = record {
  path = s.path;
  latency = s.latency;
  bytes = s.bytes;
  bytes_bound = s.bytes_bound;
  cap = s.cap;
  rate = r.rate;
  rate_finite = r.rate_finite;
  updated = s.updated;
}

module _ (f : Flows) (inv : Invariant f) where
  abbrev before_at : ℕ → Transfer
  before_at i = get_or f.in_flight i free

  abbrev after_at : ℕ → Transfer
  after_at i = get_or (rated f) i free

  rated_alike : Alike f.in_flight (rated f)
  unfolding with_rate
  rated_alike = record {
    same = ext_get_or (who free) (map who (rated f)) (map who f.in_flight) (length-map (rated f) who ∙ rated_length f inv ∙ sym (length-map f.in_flight who)) (λ i l.
        get_or-map who (rated f) i free ∙ rated_keeps f inv who (λ rate limit t. refl) i ∙ sym (get_or-map who f.in_flight i free));
  }

  -- the transfer with its new rate and limit
  rated_is : (i : ℕ) → after_at i ≡ with_rate (after_at i).rate (after_at i).limit (before_at i)
  unfolding with_rate
  rated_is i = rated_keeps f inv (with_rate (after_at i).rate (after_at i).limit) (λ rate limit t. refl) i

  free_rests : (t : Transfer) → t ≡ free → takes_part t ≡ false
  unfolding takes_part
  free_rests t e = rw e refl

  free_again : (t : Transfer) → t ≡ free → with_rate t.rate Nowhere t ≡ free
  unfolding with_rate
  free_again t e = rw e refl

  rated_each : Each (SoundSlot f) free (rated f)
  rated_each i = record {
    held = λ e.
        let taken : (before_at i).taken ≡ true = sym (same_taken rated_alike i) ∙ e in
        let rate : SoundRate (with_rate (after_at i).rate (after_at i).limit (before_at i)) = subst SoundRate (rated_is i) (rates_plain f inv i taken) in
        subst (SoundTransfer f) (sym (rated_is i)) (rate_sound (after_at i).rate (after_at i).limit ((inv.slots i).held taken) rate);
    blank = λ e.
        let blank : before_at i ≡ free = (inv.slots i).blank (sym (same_taken rated_alike i) ∙ e) in
        rated_stays f inv i (free_rests (before_at i) blank) ∙ free_again (before_at i) blank;
  }

  with_rates_keeps : Invariant (with_rates (recompute_rates (path_of f) f.edges f.in_flight) f)
  unfolding with_rates with_in_flight with_edge_load with_clock edge_loads
  with_rates_keeps =
      let p = parts inv in
      let g = with_rates (recompute_rates (path_of f) f.edges f.in_flight) f in
      joined (record {
        tolerance = p.tolerance;
        clock = record { time = p.clock.time; drain = p.clock.drain; by_now = p.clock.by_now; stale = λ e. absurd (true≢false (sym e)); next = next_sound inv (rated f) rated_each; rounds = rounds_in_slots f inv };
        edges = p.edges;
        queue = p.queue;
        crowd = same_crowd rated_alike p.crowd;
        slots = λ i. slot_in f g (omega arith) refl (rated_each i);
        totals = same_totals rated_alike p.totals;
        rates = record { right = λ e. sym (same_loads rated_alike f.edges f.edges f.num_edges refl); few = λ e. few_rounds f inv };
      })

pub as_it_was : {f : Flows} → Invariant f → Refreshed f f
as_it_was inv = record { sound = inv; now = refl; drain = refl; alike = record { same = refl }; edges = refl; number = refl; waiting = refl; totals = refl }

pub ensure_rates_refreshes : {f : Flows} → Invariant f → Refreshed f (ensure_rates f)
unfolding ensure_rates with_rates with_in_flight with_edge_load with_clock
ensure_rates_refreshes {f} inv = by_test (Refreshed f) f.clock.rates_dirty
    (λ stale. record { sound = with_rates_keeps f inv; now = refl; drain = refl; alike = rated_alike f inv; edges = refl; number = refl; waiting = refl; totals = refl })
    (as_it_was inv)

pub ensure_rates_keeps : {f : Flows} → Invariant f → Invariant (ensure_rates f)
ensure_rates_keeps inv = (ensure_rates_refreshes inv).sound
