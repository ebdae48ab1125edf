-- A whole filling: from a start that can be filled the rounds keep the accounts, leave who takes no part at its rate, and end with everybody of the demand settled. Assumes nothing.
use mathlib.Core.Path.{◌≡◌, refl, sym, ap, ◌∙◌}
use mathlib.Core.Bool.{Bool, true, false, true≢false}
use mathlib.Core.List.{List, map}
use Prim.Native.Nat.{ℕ, ◌^◌, ◌≤◌, ◌<◌}
use native.Mathlib.Nat.{le_refl, le_trans}
use native.Mathlib.Omega.{arith}
use lib.Dec.{T}
use lib.ListN.{length, get_or, length-map, get_or-map}
use lib.Ieee.{Float}
use lib.Ieee.Bits.{is_true}
use Rattle.doubles.specs.Doubles.{Plain}
use Rattle.rules.specs.declared.Cap.TheVariants.{AtMost}
use Rattle.rules.specs.declared.Edge.{Edge}
use Rattle.rules.specs.declared.Transfer.{Transfer}
use Rattle.rules.specs.declared.Seat.{Seat}
use Rattle.rules.specs.Lists.{count, sum}
use Rattle.rules.specs.Records.{free}
use Rattle.rules.specs.Filling.{takes_part, Filling, with_rate, seat, start, freeze, frozen_by, round, num_unfrozen, recompute_rates, no_seat, seat_at, verdict_of}
use Rattle.rules.specs.Fair.{in_demand, Fair, Explained, FrozenInRound}
use Rattle.fairness.specs.Ready.{Ready}
use Rattle.fairness.proofs.Reading.{Steady, KeepsPath}
use Rattle.rules.proofs.Counting.{count_kept, count_map, count_most, none_of_count}
use Rattle.fairness.proofs.Loads.{unfrozen_inside}
use Rattle.fairness.proofs.Choice.{load_of}
use Rattle.fairness.proofs.Rounds.{frozen_stays, freeze_keeps, round_seats, round_seat, round_keeps, rounds_bound, in_the_end}
use Rattle.fairness.proofs.InRound.{in_one_round}
use Rattle.fairness.proofs.Start.{seat_enters, seat_keeps, seat_nowhere, start_seat, start_ready}
use Rattle.fairness.proofs.Sums.{given, in_demand_kept}
use Rattle.fairness.proofs.Settled.{capacity_of, Sound, Fills}
use Rattle.fairness.proofs.Freezing.{fills_round}
use Rattle.fairness.proofs.Begins.{load_few, enters_in_demand, none_given, fills_start}
use Rattle.fairness.proofs.Ended.{fair}
use Rattle.fairness.proofs.Limited.{limited}

-- ---- what a filling starts from

-- capacities and caps are plain, paths run over edges that there are, and their entries together are no more than a double counts
pub record Fillable (path : Transfer → List ℕ) (edges : List Edge) (slots : List Transfer) : Type 0 where
  pub path_kept : KeepsPath path
  pub known : (i : ℕ) → takes_part (get_or slots i free) ≡ true → (k : ℕ) → k < length (path (get_or slots i free)) → get_or (path (get_or slots i free)) k 0 < length edges
  pub plain_capacity : (e : ℕ) → Plain (capacity_of edges e)
  pub plain_caps : (i : ℕ) → takes_part (get_or slots i free) ≡ true → (c : Float) → (get_or slots i free).rate_cap ≡ AtMost c → Plain c
  pub room : sum (map (λ t. length (path t)) slots) ≤ 2 ^ 53

module _ {path : Transfer → List ℕ} {edges : List Edge} {slots : List Transfer} (fillable : Fillable path edges slots) where
  abbrev begin : Filling
  begin = start path edges slots

  abbrev pub filled : Filling
  filled = recompute_rates path edges slots

  pub begin_ready : Ready path begin
  begin_ready = start_ready path edges slots fillable.known

  sound : Sound path edges (load_of path begin)
  unfolding start
  sound = record { path_kept = fillable.path_kept; plain_capacity = fillable.plain_capacity; few = λ e. le_trans (load_few path slots e) fillable.room }

  begin_fills : Fills path edges (load_of path begin) begin
  begin_fills = fills_start path fillable.path_kept edges slots fillable.plain_capacity fillable.plain_caps

  -- a round changes nobody's demand
  demand_kept : (f : Filling) → Ready path f → 0 < num_unfrozen f → count (in_demand path) (map (λ (s : Seat). s.transfer) f.seats) ≡ count (in_demand path) (map (λ (s : Seat). s.transfer) begin.seats)
      → count (in_demand path) (map (λ (s : Seat). s.transfer) (round path f).seats) ≡ count (in_demand path) (map (λ (s : Seat). s.transfer) begin.seats)
  unfolding round frozen_by
  demand_kept f ready some_left same =
      count_kept (in_demand path) (λ (s : Seat). s.transfer) (freeze path (verdict_of path f)) (λ i s. freeze_keeps path (in_demand path) (in_demand_kept path edges fillable.path_kept) (verdict_of path f) i s) 0 f.seats ∙ same

  -- what the start has and every round keeps the filling has
  pub through : (P : Filling → Type 0) → ((f : Filling) → Ready path f → 0 < num_unfrozen f → P f → P (round path f)) → P begin → P filled × (num_unfrozen filled ≡ 0)
  unfolding recompute_rates
  through P keep p = in_the_end path fillable.path_kept P keep (num_unfrozen begin) begin begin_ready p (le_refl (num_unfrozen begin))

  -- ---- seats

  pub filled_length : length filled.seats ≡ length slots
  unfolding start
  filled_length = (through (λ (f : Filling). length f.seats ≡ length slots) (λ f ready some_left same. round_seats path f ∙ same) (length-map slots (seat path))).0

  -- a transfer keeps all but its rate and limit
  pub filled_keeps : {A : Type 0} (g : Transfer → A) → Steady g → (i : ℕ) → g (seat_at filled i).transfer ≡ g (get_or slots i free)
  filled_keeps g kept = (through (λ (f : Filling). (i : ℕ) → g (seat_at f i).transfer ≡ g (get_or slots i free)) (λ f ready some_left same i. round_keeps path g kept f i ∙ same i) first).0
    where
      first : (i : ℕ) → g (seat_at begin i).transfer ≡ g (get_or slots i free)
      first i = rw (start_seat path edges slots i) (seat_keeps path g kept (get_or slots i free))

  -- who starts frozen keeps the rate it starts with
  pub filled_stays : (i : ℕ) → (seat path (get_or slots i free)).unfrozen ≡ false → seat_at filled i ≡ seat path (get_or slots i free)
  filled_stays = (through (λ (f : Filling). (i : ℕ) → (seat path (get_or slots i free)).unfrozen ≡ false → seat_at f i ≡ seat path (get_or slots i free)) keep (λ i u. start_seat path edges slots i)).0
    where
      keep : (f : Filling) → Ready path f → 0 < num_unfrozen f → ((i : ℕ) → (seat path (get_or slots i free)).unfrozen ≡ false → seat_at f i ≡ seat path (get_or slots i free))
          → (i : ℕ) → (seat path (get_or slots i free)).unfrozen ≡ false → seat_at (round path f) i ≡ seat path (get_or slots i free)
      keep f ready some_left same i u = round_seat path f i ∙ frozen_stays path (verdict_of path f) i (seat_at f i) (rw (same i u) u) ∙ same i u

  -- nobody is left
  pub filled_over : (i : ℕ) → (seat_at filled i).unfrozen ≡ false
  unfolding num_unfrozen
  filled_over i = go (seat_at filled i).unfrozen refl
    where
      go : (b : Bool) → (seat_at filled i).unfrozen ≡ b → b ≡ false
      go false u = refl
      go true u = absurd (true≢false (sym u ∙ none_of_count (λ (s : Seat). s.unfrozen) filled.seats no_seat (through (λ (f : Filling). Unit {0}) (λ f ready some_left p. tt) tt).1 i (unfrozen_inside filled.seats i u)))

  -- ---- the demand

  abbrev pub filled_transfers : List Transfer
  filled_transfers = map (λ (s : Seat). s.transfer) filled.seats

  filled_fills : Fills path edges (load_of path begin) filled
  filled_fills = (through (Fills path edges (load_of path begin)) (fills_round sound) begin_fills).0

  -- no more rounds than there are transfers of the demand
  pub filled_rounds : filled.rounds ≤ count (in_demand path) filled_transfers
  unfolding recompute_rates start num_unfrozen
  filled_rounds =
      let same = (through (λ (f : Filling). count (in_demand path) (map (λ (s : Seat). s.transfer) f.seats) ≡ count (in_demand path) (map (λ (s : Seat). s.transfer) begin.seats)) demand_kept refl).0 in
      let most = count_most (λ (s : Seat). s.unfrozen) (λ (s : Seat). in_demand path s.transfer) begin.seats no_seat begin_fills.demanding in
      omega (arith, count_map (in_demand path) (λ (s : Seat). s.transfer) begin.seats, rounds_bound path (num_unfrozen begin) begin)

  pub filled_fair : Fair path edges filled_transfers filled.rounds
  filled_fair = fair path edges (load_of path begin) filled filled_fills filled_over filled.rounds filled_rounds

  -- ---- why nobody is faster

  transfer_at : (i : ℕ) → get_or filled_transfers i free ≡ (seat_at filled i).transfer
  transfer_at i = get_or-map (λ (s : Seat). s.transfer) filled.seats i no_seat

  -- who isn't of the demand starts frozen
  idle : (i : ℕ) → in_demand path (seat_at filled i).transfer ≡ false → (seat path (get_or slots i free)).unfrozen ≡ false
  idle i h = go (seat path (get_or slots i free)).unfrozen refl
    where
      go : (b : Bool) → (seat path (get_or slots i free)).unfrozen ≡ b → b ≡ false
      go false u = refl
      go true u =
          let enters = enters_in_demand path fillable.path_kept edges (get_or slots i free) (seat_enters path (get_or slots i free) u) in
          absurd (true≢false (sym enters ∙ sym (filled_keeps (in_demand path) (in_demand_kept path edges fillable.path_kept) i) ∙ h))

  pub filled_explained : Explained path edges filled_transfers
  filled_explained = record {
    limited = limited path edges (load_of path begin) filled filled_fills filled_over;
    others = λ i h. let out = idle i (rw (transfer_at i) at h) in rw (transfer_at i, filled_stays i out) (seat_nowhere path (get_or slots i free) out);
  }

  -- who is of the demand starts unfrozen
  waits : (i : ℕ) → in_demand path (seat_at filled i).transfer ≡ true → (seat_at begin i).unfrozen ≡ true
  waits i h = go (seat_at begin i).unfrozen refl
    where
      go : (b : Bool) → (seat_at begin i).unfrozen ≡ b → b ≡ true
      go true u = refl
      go false u =
          let still : seat_at filled i ≡ seat_at begin i = filled_stays i (rw (sym (start_seat path edges slots i)) u) ∙ sym (start_seat path edges slots i) in
          let demanded : given path edges (seat_at begin i) ≡ true = rw (u, sym still) h in
          absurd (true≢false (sym demanded ∙ none_given path fillable.path_kept edges slots i))

  -- and so some round freezes it
  pub filled_in_round : (i : ℕ) → T (in_demand path (get_or filled_transfers i free)) → FrozenInRound path edges slots i
  unfolding recompute_rates with_rate
  filled_in_round i h =
      let r = in_one_round path (num_unfrozen begin) begin i (waits i (is_true (in_demand path (seat_at filled i).transfer) (rw (transfer_at i) at h))) (filled_over i) in
      record { before = r.before; froze = r.froze; rate = ap (λ (s : Seat). s.transfer.rate) r.left; limit = ap (λ (s : Seat). s.transfer.limit) r.left }
