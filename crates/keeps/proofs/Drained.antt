-- A simulator that has been drained to its clock: all facts of the invariant but those on rates, which going stale gives up. Every call that changes edges, slots or
-- tallies does so between a drain and going stale, so what it keeps is stated of this. Assumes nothing.
use Prim.Native.Nat.{ℕ, ◌+◌, ◌^◌, ◌≤◌, ◌<◌}
use native.Mathlib.Omega.{arith}
use mathlib.Core.Path.{◌≡◌, refl, sym, ◌∙◌}
use mathlib.Core.Bool.{Bool, true≢false}
use mathlib.Core.List.{List, []}
use lib.Dec.{eqb}
use lib.ListN.{length}
use Rattle.rules.specs.declared.Owner.{Owner}
use Rattle.rules.specs.declared.Transfer.{Transfer}
use Rattle.rules.specs.declared.Completion.{Completion}
use Rattle.rules.specs.declared.Tally.{Tally}
use Rattle.rules.specs.declared.Totals.{Totals}
use Rattle.rules.specs.declared.Flows.{Flows}
use Rattle.rules.specs.Lists.{count, Each}
use Rattle.rules.specs.Records.{max_slots, free, owner_kind, tally_of, with_clock, made_stale}
use Rattle.rules.specs.Invariant.{Summed, SoundFloor, SoundTransfer, SoundSlot, of_kind, Invariant}
use Rattle.rules.proofs.Routes.{route_more}
use Rattle.keeps.proofs.Parts.{ClockSound, EdgesSound, QueueSound, CrowdSound, TotalsSound, Parts, joined}

-- Whether a completion's owner is of that kind.
abbrev pub owed_by : ℕ → Completion → Bool
owed_by k c = eqb (owner_kind c.owner) k

-- A tally of an owner's kind while the completions `owed` have left their slots and are yet to be counted.
pub record Owing (owed : List Completion) (slots : List Transfer) (owner : Owner) (y : Tally) : Type 0 where
  pub accounted : y.submitted ≡ count (of_kind (owner_kind owner)) slots + y.completed + y.cancelled + count (owed_by (owner_kind owner)) owed
  pub fits : y.submitted < 2 ^ 64
  pub bytes : Summed y.bytes_submitted

-- All that is counted, meanwhile.
pub record AllOwing (owed : List Completion) (slots : List Transfer) (n : ℕ) (totals : Totals) : Type 0 where
  pub room : count (λ t. t.taken) slots + n + length owed ≤ max_slots
  pub reached : count (λ t. t.taken) slots ≤ totals.peak_in_flight
  pub bound : totals.peak_in_flight ≤ max_slots
  pub balanced : (owner : Owner) → Owing owed slots owner (tally_of owner totals)

pub record Drained (owed : List Completion) (f : Flows) : Type 0 where
  pub tolerance : SoundFloor f.tolerance.floor
  pub clock : ClockSound f.clock
  pub edges : EdgesSound f.edges f.num_edges
  pub queue : QueueSound f.completed f.num_completed
  pub crowd : CrowdSound f.in_flight
  pub each : Each (SoundSlot f) free f.in_flight
  pub at_clock : f.clock.last_drain ≡ f.clock.now
  pub totals : AllOwing owed f.in_flight f.num_completed f.totals

-- ---- nothing owed

module _ {slots : List Transfer} {n : ℕ} {totals : Totals} where
  pub owing_nothing : TotalsSound slots n totals → AllOwing [] slots n totals
  unfolding count
  owing_nothing t = record {
    room = omega (arith, t.room);
    reached = t.reached;
    bound = t.bound;
    balanced = λ owner. record { accounted = omega (arith, (t.balanced owner).accounted); fits = (t.balanced owner).fits; bytes = (t.balanced owner).bytes };
  }

  pub nothing_owing : AllOwing [] slots n totals → TotalsSound slots n totals
  unfolding count
  nothing_owing t = record {
    room = omega (arith, t.room);
    reached = t.reached;
    bound = t.bound;
    balanced = λ owner. record { accounted = omega (arith, (t.balanced owner).accounted); fits = (t.balanced owner).fits; bytes = (t.balanced owner).bytes };
  }

pub drained_parts : {f : Flows} → Parts f → f.clock.last_drain ≡ f.clock.now → Drained [] f
drained_parts p at = record {
  tolerance = p.tolerance;
  clock = p.clock;
  edges = p.edges;
  queue = p.queue;
  crowd = p.crowd;
  each = p.slots;
  at_clock = at;
  totals = owing_nothing p.totals;
}

-- ---- a transfer in another simulator

module _ (f g : Flows) (more : f.num_edges ≤ g.num_edges) {t : Transfer} where
  pub sound_in : g.clock.last_drain ≡ f.clock.last_drain → SoundTransfer f t → SoundTransfer g t
  sound_in same s = record {
    path = route_more more s.path;
    latency = s.latency;
    bytes = s.bytes;
    bytes_bound = s.bytes_bound;
    cap = s.cap;
    rate = s.rate;
    rate_finite = s.rate_finite;
    updated = s.updated ∙ sym same;
  }

  pub slot_in : g.clock.last_drain ≡ f.clock.last_drain → SoundSlot f t → SoundSlot g t
  slot_in same s = record { held = λ e. sound_in same (s.held e); blank = s.blank }

-- a free slot is sound in any
pub free_slot : (f : Flows) → SoundSlot f free
free_slot f = record { held = λ e. absurd (true≢false (sym e)); blank = λ e. refl }

-- ---- going stale

pub made_stale_keeps : {f : Flows} → Drained [] f → Invariant (made_stale f)
unfolding made_stale with_clock
made_stale_keeps {f} d =
    let g = made_stale f in
    joined (record {
      tolerance = d.tolerance;
      clock = record { time = d.clock.time; drain = d.clock.drain; by_now = d.clock.by_now; stale = λ e. d.at_clock; next = d.clock.next; rounds = d.clock.rounds };
      edges = d.edges;
      queue = d.queue;
      crowd = d.crowd;
      slots = λ i. slot_in f g (omega arith) refl (d.each i);
      totals = nothing_owing d.totals;
      rates = record { right = λ e. absurd (true≢false e); few = λ e. absurd (true≢false e) };
    })
