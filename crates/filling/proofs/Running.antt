-- A filling under way, round by round: each round is the definition's, freezes somebody, and leaves as much to do as the definition has left. Assumes nothing.
use mathlib.Core.Path.{◌≡◌, refl, sym, ap, subst, ◌∙◌}
use mathlib.Core.Bool.{true, false}
use Prim.Native.Nat.{ℕ, suc, ◌+◌, ◌≤◌, ◌<◌}
use native.Mathlib.Omega.{arith}
use lib.ListN.{length, get_or}
use Rattle.rules.specs.declared.Route.{Route}
use Rattle.rules.specs.declared.Transfer.{Transfer}
use Rattle.rules.specs.declared.Seat.{Seat}
use Rattle.rules.specs.declared.Verdict.{Verdict}
use Rattle.rules.specs.Records.{own_path}
use Rattle.rules.specs.Filling.{Filling, with_rate, load, num_unfrozen, frozen_by, round, rounds_until, no_seat, seat_at, verdict_of}
use Rattle.rules.specs.Invariant.{SoundRoute}
use Rattle.fairness.specs.Ready.{Ready}
use Rattle.fairness.proofs.Loads.{some_load}
use Rattle.fairness.proofs.Reading.{Steady}
use Rattle.fairness.proofs.Start.{own_path_kept}
use Rattle.fairness.proofs.Rounds.{never_unfreezes, frozen_stays, round_seats, round_edges, round_seat, round_keeps, round_freezes, round_ready, one_round_on}
use Rattle.caps.specs.declared.CapOrder.{CapOrder}
use Rattle.rounds.specs.declared.Scratch.{Scratch}
use Rattle.rounds.specs.Standing.{filling, Loaded, Standing, Frozen, Coming}
use Rattle.caps.specs.Listed.{listed, Ordered, Passed}
use Rattle.filling.specs.Filled.{Begun}
use Rattle.caps.proofs.Ranked.{Since, next_is_smallest}

-- Where a filling stands that began with a scratch.
pub record Running (start : Scratch) (o : CapOrder) (f : Scratch) : Type 0 where
  pub standing : Standing f
  pub ready : Ready own_path (filling f)
  pub since : Since start.seats f.seats
  pub passed : Passed f.seats (listed o) f.cap_cursor
  pub few : f.rounds + f.unfrozen ≤ 256
  pub same : rounds_until own_path (num_unfrozen (filling f)) (filling f) ≡ rounds_until own_path (num_unfrozen (filling start)) (filling start)

module _ (start : Scratch) (o : CapOrder) (begun : Begun start) (ordered : Ordered start.seats o) where
  pub running_starts : Running start o start
  running_starts = record {
    standing = begun.standing;
    ready = begun.ready;
    since = record { long = refl; caps = λ i. refl; only = λ i u. u };
    passed = record { within = omega (arith, begun.none_passed); frozen = λ k h. absurd (omega (arith, begun.none_passed)) };
    few = omega (arith, begun.no_rounds, begun.few);
    same = refl;
  }

  module _ (f : Scratch) (running : Running start o f) where
    pub running_comes : Coming o f
    running_comes = record {
      table = ordered.table;
      passed = running.passed;
      ranked = next_is_smallest start.seats begun.caps (filling f) running.since (listed o) ordered.same ordered.rising;
    }

    module _ (some_left : 0 < f.unfrozen) where
      left_over : 0 < num_unfrozen (filling f)
      left_over = omega (arith, running.standing.counted)

      -- somebody is unfrozen, so the table has load somewhere
      pub running_loaded : Loaded f.load
      running_loaded =
          let l = some_load own_path (filling f) running.ready left_over in
          record { edge = l.edge; loaded = omega (arith, standing_load l.edge l.known, l.loaded) }
        where
          standing_load : (e : ℕ) → e < length f.residual → get_or f.load e 0 ≡ load own_path f.seats e
          standing_load e known = running.standing.loads.right e (omega (arith, running.standing.edges))

      module _ (v : Verdict) (cursor : ℕ) (is_verdict : v ≡ verdict_of own_path (filling f)) (passed : Passed f.seats (listed o) cursor) (r : Scratch) (frozen : Frozen f v cursor r) where
        is_round : filling r ≡ round own_path (filling f)
        unfolding round
        is_round = frozen.same ∙ ap (λ (w : Verdict). frozen_by own_path w (filling f)) is_verdict

        -- a seat after the round
        seat_is : (i : ℕ) → get_or r.seats i no_seat ≡ seat_at (round own_path (filling f)) i
        seat_is i = ap (λ (g : Filling). seat_at g i) is_round

        keeps : {A : Type 0} (g : Transfer → A) → Steady g → (i : ℕ) → g (get_or r.seats i no_seat).transfer ≡ g (get_or f.seats i no_seat).transfer
        keeps g kept i = ap (λ (s : Seat). g s.transfer) (seat_is i) ∙ round_keeps own_path g kept (filling f) i

        keeps_path : (i : ℕ) → (get_or r.seats i no_seat).transfer.path ≡ (get_or f.seats i no_seat).transfer.path
        unfolding with_rate
        keeps_path i = keeps (λ t. t.path) (λ rate limit t. refl) i

        keeps_cap : (i : ℕ) → (get_or r.seats i no_seat).transfer.rate_cap ≡ (get_or f.seats i no_seat).transfer.rate_cap
        unfolding with_rate
        keeps_cap i = keeps (λ t. t.rate_cap) (λ rate limit t. refl) i

        was_unfrozen : (i : ℕ) → (get_or r.seats i no_seat).unfrozen ≡ true → (get_or f.seats i no_seat).unfrozen ≡ true
        was_unfrozen i u = never_unfreezes own_path (verdict_of own_path (filling f)) i (seat_at (filling f) i) (ap (λ (s : Seat). s.unfrozen) (sym (seat_is i ∙ round_seat own_path (filling f) i)) ∙ u)

        stays_frozen : (i : ℕ) → (get_or f.seats i no_seat).unfrozen ≡ false → (get_or r.seats i no_seat).unfrozen ≡ false
        stays_frozen i u = ap (λ (s : Seat). s.unfrozen) (seat_is i ∙ round_seat own_path (filling f) i ∙ frozen_stays own_path (verdict_of own_path (filling f)) i (seat_at (filling f) i) u) ∙ u

        pub round_fewer : r.unfrozen < f.unfrozen
        round_fewer =
            omega (arith, frozen.counted, ap (num_unfrozen) is_round, running.standing.counted, round_freezes own_path (filling f) running.ready left_over)

        rounds_are : r.rounds ≡ suc f.rounds
        unfolding frozen_by
        rounds_are = ap (λ (g : Filling). g.rounds) frozen.same

        pub running_on : Running start o r
        running_on = record {
          standing = record {
            places = ap (λ (g : Filling). length g.seats) is_round ∙ round_seats own_path (filling f) ∙ running.standing.places;
            edges = ap (λ (g : Filling). length g.residual) is_round ∙ round_edges own_path (filling f) ∙ running.standing.edges;
            loads = frozen.loads;
            paths = λ i. subst (λ (p : Route). SoundRoute 64 p) (sym (keeps_path i)) (running.standing.paths i);
            counted = frozen.counted;
          };
          ready = subst (Ready own_path) (sym is_round) (round_ready own_path own_path_kept (filling f) running.ready);
          since = record {
            long = ap (λ (g : Filling). length g.seats) is_round ∙ round_seats own_path (filling f) ∙ running.since.long;
            caps = λ i. keeps_cap i ∙ running.since.caps i;
            only = λ i u. running.since.only i (was_unfrozen i u);
          };
          passed = rw frozen.passed (record { within = passed.within; frozen = λ k h. stays_frozen _ (passed.frozen k h) });
          few = omega (arith, running.few, round_fewer, rounds_are);
          same =
              ap (λ (g : Filling). rounds_until own_path (num_unfrozen g) g) is_round
              ∙ sym (one_round_on own_path own_path_kept (filling f) running.ready left_over)
              ∙ running.same;
        }
