-- The fresh simulator keeps the invariant, and so does one that differs from it in totals that balance and in its floor. Assumes nothing.
use mathlib.Core.Path.{◌≡◌, refl}
use mathlib.Core.Bool.{true, false, not, ◌&&◌, cond}
use Prim.Native.Nat.{ℕ, ◌≤◌}
use native.Mathlib.Omega.{arith}
use lib.Dec.{T}
use lib.ListN.{get_or, replicate}
use lib.Ieee.{Float, binary64, fits}
use lib.Ieee.Fits.{and_l, and_r}
use Rattle.doubles.specs.Doubles.{◌≼◌, nought, Plain}
use Rattle.doubles.proofs.Tests.{by_test}
use Rattle.rules.specs.declared.Owner.{Owner}
use Rattle.rules.specs.declared.Owner.TheVariants.{Worker, Handoff, Write}
use Rattle.rules.specs.declared.Edge.{Edge}
use Rattle.rules.specs.declared.Transfer.{Transfer}
use Rattle.rules.specs.declared.Completion.{Completion}
use Rattle.rules.specs.declared.Totals.{Totals}
use Rattle.rules.specs.declared.Answer.TheVariants.{Done}
use Rattle.rules.specs.declared.Flows.{Flows}
use Rattle.rules.specs.Tolerance.{F, max_floor}
use Rattle.rules.specs.Records.{max_slots, fresh, free, blank_edge, blank_completion, tally_of, with_totals, with_tolerance}
use Rattle.rules.specs.Refusals.{refusing, answering, refused, not_a_floor}
use Rattle.rules.specs.Floors.{with_floor}
use Rattle.rules.specs.Invariant.{Invariant, Summed, SoundFloor, SoundEdge, SoundSlot, Balanced, nobody}
use Rattle.rules.specs.Promises.{NewHasDefault}
use Rattle.rules.proofs.Everything.{everything}
use Rattle.rules.proofs.Each.{each_same}
use Rattle.rules.proofs.Floors.{sound_floor, default_floor}

-- ---- blanks are sound

pub nought_plain : Plain nought
unfolding everything
nought_plain = record { is_plain = tt; is_held = tt }

pub nought_summed : Summed nought
unfolding everything
nought_summed = record { plain = nought_plain; bounded = tt }

pub no_edge_sound : SoundEdge blank_edge
no_edge_sound = record { capacity = nought_plain; moved = nought_summed; busy = nought_summed }

-- no blank is taken, whatever the place
free_at : (i : ℕ) → get_or (replicate 256 free) i free ≡ free
free_at = each_same (λ (t : Transfer). t ≡ free) free 256 free refl refl

untaken : {X : Type 0} (i : ℕ) → (get_or (replicate 256 free) i free).taken ≡ true → X
untaken i e =
    let f : false ≡ true = rw (free_at i) at e in
    let z : ◌≡◌ {A = ℕ} 0 1 = cc in
    absurd (omega (arith, z))

free_sound : {f : Flows} → SoundSlot f free
free_sound = record { held = λ e. absurd (let z : ◌≡◌ {A = ℕ} 0 1 = cc in omega (arith, z)); blank = λ e. refl }

pub none_balanced : (owner : Owner) → Balanced fresh.in_flight owner (tally_of owner fresh.totals)
unfolding everything
none_balanced (Worker n) = record { accounted = refl; fits = omega arith; bytes = nought_summed }
none_balanced Handoff = record { accounted = refl; fits = omega arith; bytes = nought_summed }
none_balanced Write = record { accounted = refl; fits = omega arith; bytes = nought_summed }

-- with a floor of its own, or the default
pub counted_keeps : {floor : Float} → SoundFloor floor → (totals : Totals) → totals.peak_in_flight ≤ max_slots → ((owner : Owner) → Balanced fresh.in_flight owner (tally_of owner totals)) → Invariant (with_totals totals (with_tolerance (record { floor = floor }) fresh))
unfolding everything
counted_keeps {floor} sound totals peak balanced = record {
  edge_places = refl;
  slot_places = refl;
  queue_places = refl;
  clock = record { plain = nought_plain; bounded = tt };
  last_drain = nought_plain;
  drained_by_now = tt;
  stale_drained = λ e. absurd (let z : ◌≡◌ {A = ℕ} 0 1 = cc in omega (arith, z));
  next_done = nobody;
  tolerance = sound;
  few_edges = omega arith;
  edges = each_same SoundEdge blank_edge 64 blank_edge no_edge_sound no_edge_sound;
  edges_blank = λ e h. each_same (λ (x : Edge). x ≡ blank_edge) blank_edge 64 blank_edge refl refl e;
  slots = each_same (SoundSlot (with_totals totals (with_tolerance (record { floor = floor }) fresh))) free 256 free free_sound free_sound;
  ids_differ = λ i j a b e. untaken i a;
  path_room = omega arith;
  queue_ordered = record { ordered = λ i j a b. absurd (omega arith) };
  queue_blank = record { blank = λ i h. each_same (λ (x : Completion). x ≡ blank_completion) blank_completion 256 blank_completion refl refl i };
  room = omega arith;
  peak_reached = omega arith;
  peak_bound = peak;
  balanced = balanced;
  load_right = λ e. refl;
  few_rounds = λ e. omega arith;
  rounds_bound = omega arith;
}

pub fresh_keeps : Invariant fresh
unfolding with_totals with_tolerance
fresh_keeps = counted_keeps default_floor fresh.totals (omega arith) none_balanced

pub with_floor_keeps : (floor : Float) → T (fits binary64 floor) → Invariant (with_floor floor).flows
unfolding with_floor refusing not_a_floor with_totals with_tolerance
with_floor_keeps floor held =
    by_test (F ≼ floor && floor ≼ max_floor) (λ ok. Invariant (cond (not ok) (refused fresh 1) (answering Done (with_tolerance (record { floor = floor }) fresh))).flows)
    (λ ok. counted_keeps (sound_floor floor held (and_l (F ≼ floor) (floor ≼ max_floor) ok) (and_r (F ≼ floor) (floor ≼ max_floor) ok)) fresh.totals (omega arith) none_balanced)
    (λ no. fresh_keeps)

pub new_has_default : NewHasDefault
unfolding everything
new_has_default = refl
