-- Questions that only read may be left out of a run, for each hands on the simulator that it got; and a simulator that was settled is current, for it was drained to its clock and filled. Assumes
-- nothing.
use mathlib.Core.Path.{◌≡◌, refl, sym, ap, ◌∙◌}
use mathlib.Core.Bool.{Bool, true, false, ◌||◌, cond}
use mathlib.Core.List.{List, [], ◌∷◌}
use lib.Dec.{T}
use lib.Ieee.{Float}
use Rattle.doubles.specs.Doubles.{◌≺◌}
use Rattle.doubles.proofs.Above.{not_below_itself}
use Rattle.rules.specs.declared.Flows.{Flows}
use Rattle.rules.specs.declared.Said.{Said}
use Rattle.rules.specs.Lists.{those}
use Rattle.rules.specs.Records.{path_of, with_clock, drain_noted}
use Rattle.rules.specs.Filling.{recompute_rates}
use Rattle.rules.specs.Clock.{with_rates, ensure_rates, drain_slots, drain_to, drained_to_clock}
use Rattle.rules.specs.TimeLeft.{settle, behind, remaining}
use Rattle.rules.specs.Histories.{Left, Turn, after, run, journal}
use Rattle.rules.specs.Unmoved.{Touch, Reads, Works, Refreshes, touch, unmoved, only_reads}
use Rattle.rules.specs.Promises.{AsWithout, WatchedAsUnwatched, SplitInTwo}
use Rattle.keeps.proofs.Passing.{pass_time_is}
use Rattle.keeps.proofs.Unmoved.{refusals_move_nothing}

-- ---- a watched run

reads_moves_nothing : (h : Touch) (s : Said) → T (only_reads h) → T (unmoved h s)
unfolding only_reads unmoved
reads_moves_nothing Reads s r = tt
reads_moves_nothing Works s r = absurd r
reads_moves_nothing Refreshes s r = absurd r

-- a question that only reads hands on the simulator that it got
handed_on : (t : Turn) (f : Flows) → T (only_reads (touch t.call)) → (after t f).made.flows ≡ f
handed_on t f reads = refusals_move_nothing t f (reads_moves_nothing (touch t.call) (after t f).made.said reads)

module _ (kept : Turn → Bool) (others_read : (t : Turn) → T (kept t || only_reads (touch t.call))) where
  as_without : (f : Flows) (turns : List Turn) → AsWithout kept f turns
  unfolding those journal run
  as_without f [] = record { others = refl; flows = refl }
  as_without f (t ∷ turns) = go (kept t) refl (others_read t) (as_without (after t f).made.flows turns)
    where
      go : (b : Bool) → kept t ≡ b → T (b || only_reads (touch t.call)) → AsWithout kept (after t f).made.flows turns → AsWithout kept f (t ∷ turns)
      go true e reads rest = record { others = rw e (ap (λ (l : List (Turn × Left)). (t, after t f) ∷ l) rest.others); flows = rw e rest.flows }
      go false e reads rest =
          let same = handed_on t f reads in
          record {
            others = rw e (ap (λ (g : Flows). journal g (those kept turns)) (sym same) ∙ rest.others);
            flows = rw e (ap (λ (g : Flows). run g (those kept turns)) (sym same) ∙ rest.flows);
          }

pub watched_as_unwatched : WatchedAsUnwatched
watched_as_unwatched = as_without

-- ---- settled

-- A simulator that is up to date was drained when another was, and its clock stands where the other's does.
record UpToDate (f g : Flows) : Type 0 where
  pub fresh : g.clock.rates_dirty ≡ false
  pub now : g.clock.now ≡ f.clock.now
  pub drain : g.clock.last_drain ≡ f.clock.last_drain

up_to_date : (f : Flows) → UpToDate f (ensure_rates f)
unfolding ensure_rates with_rates with_clock
up_to_date f = go f.clock.rates_dirty refl
  where
    go : (b : Bool) → f.clock.rates_dirty ≡ b → UpToDate f (cond b (with_rates (recompute_rates (path_of f) f.edges f.in_flight) f) f)
    go true e = record { fresh = refl; now = refl; drain = refl }
    go false e = record { fresh = e; now = refl; drain = refl }

-- a drain leaves the clock where its last drain is
drained_both : (to : Float) (f : Flows) → ((drain_to to f).clock.last_drain ≡ to) × ((drain_to to f).clock.now ≡ to)
unfolding drain_to drain_slots drain_noted with_clock
drained_both to f = rw (pass_time_is to (drain_slots to (cond (f.clock.now ≺ to) (ensure_rates f) f))) (refl, refl)

pub split_in_two : SplitInTwo
unfolding settle drained_to_clock remaining behind
split_in_two = record {
  flows = λ id f. refl;
  answer = λ id f. refl;
  current = λ f.
      let u = up_to_date (drained_to_clock f) in
      let d = drained_both f.clock.now f in
      rw (u.fresh, u.now, u.drain, d.0, d.1, not_below_itself f.clock.now) refl;
}
