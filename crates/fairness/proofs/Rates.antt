-- What a filling leaves of a simulator that keeps the invariant: it can be filled, rates stay numbers that are not negative, infinite only where a path is empty and there is
-- no cap, and the rounds are no more than the transfers with a path. Assumes nothing.
use mathlib.Core.Path.{◌≡◌, refl, sym, ap, ◌∙◌}
use mathlib.Core.Logic.{◌⊎◌, inl, inr}
use mathlib.Core.Bool.{Bool, true, false, ◌&&◌}
use mathlib.Core.List.{List, [], ◌∷◌}
use Prim.Native.Nat.{ℕ, ◌≤◌, ◌<◌}
use native.Mathlib.Nat.{le_trans}
use native.Mathlib.Omega.{arith}
use lib.Dec.{ltb}
use lib.ListN.{length, get_or, length-map, get_or-map}
use lib.Ieee.{Float, binary64}
use borrow.Author.Tests.{lt-ltb}
use Rattle.doubles.specs.Doubles.{Plain, Nonneg}
use Rattle.doubles.proofs.Tests.{passed}
use Rattle.doubles.proofs.Signs.{plain_nonneg, infinity_nonneg}
use Rattle.rules.specs.declared.Cap.{Cap}
use Rattle.rules.specs.declared.Cap.TheVariants.{AtMost, Uncapped}
use Rattle.rules.specs.declared.Limit.TheVariants.{Nowhere}
use Rattle.rules.specs.declared.Transfer.{Transfer}
use Rattle.rules.specs.declared.Seat.{Seat}
use Rattle.rules.specs.declared.Flows.{Flows}
use Rattle.rules.specs.Lists.{count}
use Rattle.rules.specs.Records.{max_slots, free, own_path, path_of}
use Rattle.rules.specs.Filling.{takes_part, with_rate, lone_rate, entered, seat, recompute_rates, no_seat, seat_at}
use Rattle.rules.specs.Fair.{in_demand, rated}
use Rattle.rules.specs.Invariant.{SoundCap, at_most, uncapped, SoundTransfer, Invariant}
use Rattle.rules.proofs.Counting.{count_most, count_all}
use Rattle.fairness.proofs.Reading.{Steady}
use Rattle.fairness.proofs.Start.{Enters, seat_enters, own_path_kept, takes_part_taken, own_path_length, sound_taken, paths_known}
use Rattle.fairness.proofs.Sums.{in_demand_both, in_demand_kept}
use Rattle.fairness.proofs.Begins.{enters_in_demand}
use Rattle.fairness.proofs.Filled.{Fillable, filled_length, filled_keeps, filled_stays, filled_rounds, filled_fair}

sound_cap : {cap : Cap} → SoundCap cap → (c : Float) → cap ≡ AtMost c → Plain c
sound_cap (at_most {c = d} p) c e = let z : d ≡ c = cc in rw z at p
sound_cap uncapped c e = let z : ◌≡◌ {A = ℕ} 0 1 = cc in absurd (omega arith)

-- a rate as the invariant wants it
pub record SoundRate (t : Transfer) : Type 0 where
  pub rate : Nonneg t.rate
  pub rate_finite : Plain t.rate ⊎ (t.path.len ≡ 0) × (t.rate_cap ≡ Uncapped)

plain_sound : {t : Transfer} → Plain t.rate → SoundRate t
plain_sound p = record { rate = plain_nonneg p; rate_finite = inl p }

-- the rate of who shares no edge
lone_sound : (t : Transfer) → SoundCap t.rate_cap → t.path.len ≡ 0 → SoundRate (with_rate (lone_rate t.rate_cap) Nowhere t)
unfolding with_rate lone_rate
lone_sound t sound none = go t.rate_cap refl sound
  where
    go : (cap : Cap) → t.rate_cap ≡ cap → SoundCap cap → SoundRate (with_rate (lone_rate cap) Nowhere t)
    go (AtMost c) e (at_most p) = plain_sound p
    go Uncapped e uncapped = record { rate = infinity_nonneg binary64; rate_finite = inr (none, e) }

taken_kept : Steady (λ (t : Transfer). t.taken)
unfolding with_rate
taken_kept rate limit t = refl

len_kept : Steady (λ (t : Transfer). t.path.len)
unfolding with_rate
len_kept rate limit t = refl

module _ (f : Flows) (inv : Invariant f) where
  abbrev slots : List Transfer
  slots = f.in_flight

  sound_part : (i : ℕ) → takes_part (get_or slots i free) ≡ true → SoundTransfer f (get_or slots i free)
  sound_part i takes = sound_taken f inv i (takes_part_taken (get_or slots i free) takes)

  pub fillable : Fillable (path_of f) f.edges f.in_flight
  fillable = record {
    path_kept = own_path_kept;
    known = paths_known f inv;
    plain_capacity = λ e. (inv.edges e).capacity;
    plain_caps = λ i takes. sound_cap (sound_part i takes).cap;
    room = omega (arith, inv.path_room);
  }

  -- ---- slots

  pub rated_length : length (rated f) ≡ length f.in_flight
  rated_length = length-map (recompute_rates (path_of f) f.edges f.in_flight).seats (λ (s : Seat). s.transfer) ∙ filled_length fillable

  rated_at : (i : ℕ) → get_or (rated f) i free ≡ (seat_at (recompute_rates (path_of f) f.edges f.in_flight) i).transfer
  rated_at i = get_or-map (λ (s : Seat). s.transfer) (recompute_rates (path_of f) f.edges f.in_flight).seats i no_seat

  -- a transfer keeps all but its rate and limit
  pub rated_keeps : {A : Type 0} (g : Transfer → A) → Steady g → (i : ℕ) → g (get_or (rated f) i free) ≡ g (get_or f.in_flight i free)
  rated_keeps g kept i = rw (rated_at i) (filled_keeps fillable g kept i)

  -- and who takes no part keeps its rate too
  pub rated_stays : (i : ℕ) → takes_part (get_or f.in_flight i free) ≡ false → get_or (rated f) i free ≡ with_rate (get_or f.in_flight i free).rate Nowhere (get_or f.in_flight i free)
  unfolding seat
  rated_stays i idle =
      let still : seat own_path (get_or slots i free) ≡ record { transfer = with_rate (get_or slots i free).rate Nowhere (get_or slots i free); unfrozen = false } = rw idle refl in
      rated_at i ∙ ap (λ (s : Seat). s.transfer) (filled_stays fillable i (rw still refl) ∙ still)

  -- ---- rates

  pub rates_plain : (i : ℕ) → (get_or f.in_flight i free).taken ≡ true → SoundRate (get_or (rated f) i free)
  unfolding seat entered with_rate
  rates_plain i taken = go (takes_part (get_or slots i free)) refl (own_path (get_or slots i free)) refl
    where
      go : (b : Bool) → takes_part (get_or slots i free) ≡ b → (p : List ℕ) → own_path (get_or slots i free) ≡ p → SoundRate (get_or (rated f) i free)
      go false idle p q = let sound = sound_taken f inv i taken in rw (rated_stays i idle) (record { rate = sound.rate; rate_finite = sound.rate_finite })
      go true takes [] q =
          let sound = sound_taken f inv i taken in
          let alone : seat own_path (get_or slots i free) ≡ record { transfer = with_rate (lone_rate (get_or slots i free).rate_cap) Nowhere (get_or slots i free); unfrozen = false } = rw (takes, q) refl in
          let none : (get_or slots i free).path.len ≡ 0 = sym (own_path_length f.num_edges (get_or slots i free) sound.path) ∙ ap length q in
          rw (rated_at i, filled_stays fillable i (rw alone refl), alone) (lone_sound (get_or slots i free) sound.cap none)
      go true takes (e ∷ p) q =
          let enters : Enters own_path (get_or slots i free) = seat_enters own_path (get_or slots i free) (rw (takes, q) refl) in
          plain_sound ((filled_fair fillable).a_number i (passed (rated_keeps (in_demand own_path) (in_demand_kept own_path f.edges own_path_kept) i ∙ enters_in_demand own_path own_path_kept f.edges (get_or slots i free) enters)))

  -- ---- rounds

  -- no more rounds than transfers in flight with a path
  pub few_rounds : (recompute_rates (path_of f) f.edges f.in_flight).rounds ≤ count (λ t. t.taken && ltb 0 t.path.len) (rated f)
  few_rounds = le_trans (filled_rounds fillable) (count_most (in_demand own_path) (λ (t : Transfer). t.taken && ltb 0 t.path.len) (rated f) free with_path)
    where
      with_path : (i : ℕ) → in_demand own_path (get_or (rated f) i free) ≡ true → ((get_or (rated f) i free).taken && ltb 0 (get_or (rated f) i free).path.len) ≡ true
      with_path i h =
          let t = get_or slots i free in
          let both = in_demand_both own_path f.edges t (sym (rated_keeps (in_demand own_path) (in_demand_kept own_path f.edges own_path_kept) i) ∙ h) in
          let some : 0 < t.path.len = omega (arith, both.1, own_path_length f.num_edges t (sound_part i both.0).path) in
          rw (rated_keeps (λ (t : Transfer). t.taken) taken_kept i, rated_keeps (λ (t : Transfer). t.path.len) len_kept i, takes_part_taken t both.0, lt-ltb 0 t.path.len some) refl

  pub rounds_in_slots : (recompute_rates (path_of f) f.edges f.in_flight).rounds ≤ max_slots
  rounds_in_slots = omega (arith, few_rounds, count_all (λ (t : Transfer). t.taken && ltb 0 t.path.len) (rated f), rated_length, inv.slot_places)
