-- What an advance gives, by its tests: a refusal, a quiet advance, or the list; and whatever it is, the simulator in it is sound. Assumes nothing.
use Prim.Native.Nat.{ℕ}
use mathlib.Core.Path.{◌≡◌, refl, sym, subst}
use mathlib.Core.Bool.{true, false, not}
use mathlib.Core.List.{List}
use lib.Dec.{T}
use lib.Ieee.{Float, binary64, fits}
use lib.Ieee.Bits.{is_false}
use lib.Ieee.Fits.{and_l}
use Rattle.doubles.specs.Doubles.{◌≺◌, read_zero}
use Rattle.rules.specs.declared.Outcome.{Outcome}
use Rattle.rules.specs.declared.Answer.TheVariants.{Listed}
use Rattle.rules.specs.declared.Flows.{Flows}
use Rattle.rules.specs.Refusals.{refusing, answering, lent, refused_lent, not_a_time}
use Rattle.rules.specs.Clock.{pass_time, settled}
use Rattle.rules.specs.Advance.{later_than, quiet, done_list, list_done, advance}
use Rattle.rules.specs.Invariant.{Invariant}
use Rattle.keeps.proofs.Calls.{advance_keeps}

module _ (until : Float) (f : Flows) (buffer : List ℕ) where
  pub advance_no_time : not_a_time until ≡ true → advance until f buffer ≡ refused_lent f buffer 1
  unfolding advance refusing
  advance_no_time odd = rw odd refl

  module _ (time : not_a_time until ≡ false) where
    pub advance_early : (until ≺ f.clock.now) ≡ true → advance until f buffer ≡ refused_lent f buffer 2
    unfolding advance refusing
    advance_early early = rw (time, early) refl

    module _ (late : (until ≺ f.clock.now) ≡ false) where
      pub advance_still : quiet (read_zero until) f ≡ true → advance until f buffer ≡ lent (answering (Listed 0) (pass_time (read_zero until) f)) buffer
      unfolding advance refusing
      advance_still still = rw (time, late, still) refl

      pub advance_lists : quiet (read_zero until) f ≡ false → advance until f buffer ≡ list_done (settled (read_zero until) f) (done_list (settled (read_zero until) f)) f buffer
      unfolding advance refusing
      advance_lists loud = rw (time, late, loud) refl

  pub advance_sound : {r : Outcome} → T (fits binary64 until) → Invariant f → r ≡ (advance until f buffer).outcome → Invariant r.flows
  advance_sound typed inv e = rw e (advance_keeps until f buffer typed inv)

pub quiet_fresh : (until : Float) (f : Flows) → quiet until f ≡ true → f.clock.rates_dirty ≡ false
unfolding quiet
quiet_fresh until f still = is_false f.clock.rates_dirty (and_l (not f.clock.rates_dirty) (later_than until f.clock.next_done_at) (subst T (sym still) tt))
