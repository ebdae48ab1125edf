-- A counter that a change raises by one goes up by one for the kinds that it concerns, and every other counter, and every slot, stays. Assumes nothing.
use mathlib.Core.Path.{◌≡◌, refl}
use mathlib.Core.Bool.{cond}
use Prim.Native.Nat.{ℕ, ◌+◌}
use native.Mathlib.Omega.{arith}
use lib.Dec.{eqb}
use Rattle.rules.specs.declared.Owner.{Owner}
use Rattle.rules.specs.declared.Owner.TheVariants.{Worker, Handoff, Write}
use Rattle.rules.specs.declared.Tally.{Tally}
use Rattle.rules.specs.declared.Flows.{Flows}
use Rattle.rules.specs.Records.{owner_kind, tally_of, with_totals, on_tally}
use Rattle.rules.specs.Submission.{peak_taken}
use Rattle.rules.specs.Tallies.{kind_of}
use Rattle.keeps.proofs.Tally.{on_tally_is, each_tally}

module _ (whose : Owner) (change : Tally → Tally) (f : Flows) where
  pub slots_on_tally : (on_tally whose change f).in_flight ≡ f.in_flight
  unfolding with_totals
  slots_on_tally = rw (on_tally_is change whose f) refl

  module _ (counter : Tally → ℕ) where
    pub counts : ((y : Tally) → counter (change y) ≡ counter y + 1) → (owner : Owner) → counter (tally_of owner (on_tally whose change f).totals) ≡ cond (kind_of owner (owner_kind whose)) 1 0 + counter (tally_of owner f.totals)
    unfolding with_totals
    counts up owner =
        rw (on_tally_is change whose f)
        (each_tally change (λ o y. counter y ≡ cond (eqb (owner_kind whose) (owner_kind o)) 1 0 + counter (tally_of o f.totals)) whose f.totals
        (λ o e. rw e (omega (arith, up (tally_of o f.totals))))
        (λ o e. rw e (omega arith)) owner)

    pub counts_nothing : ((y : Tally) → counter (change y) ≡ counter y) → (owner : Owner) → counter (tally_of owner (on_tally whose change f).totals) ≡ counter (tally_of owner f.totals)
    unfolding with_totals
    counts_nothing same owner =
        rw (on_tally_is change whose f)
        (each_tally change (λ o y. counter y ≡ counter (tally_of o f.totals)) whose f.totals (λ o e. same (tally_of o f.totals)) (λ o e. refl) owner)

pub tally_at_peak : (owner : Owner) (f : Flows) → tally_of owner (peak_taken f).totals ≡ tally_of owner f.totals
unfolding tally_of peak_taken with_totals
tally_at_peak (Worker n) f = refl
tally_at_peak Handoff f = refl
tally_at_peak Write f = refl
