-- Demand 3, and why nobody is faster, for every filling of a simulator that keeps the invariant. Assumes nothing.
use mathlib.Core.Path.{◌≡◌}
use mathlib.Core.Logic.{◌⊎◌, inl, inr}
use mathlib.Core.List.{List}
use Prim.Native.Nat.{ℕ}
use lib.ListN.{get_or}
use Rattle.rules.specs.declared.Cap.TheVariants.{AtMost}
use Rattle.rules.specs.declared.Limit.{Limit}
use Rattle.rules.specs.declared.Limit.TheVariants.{AtEdge, AtCap, Nowhere}
use Rattle.rules.specs.declared.Edge.{Edge}
use Rattle.rules.specs.declared.Transfer.{Transfer}
use Rattle.rules.specs.Records.{free}
use Rattle.rules.specs.Fair.{Explains, Limits, Explained, NobodySlower}
use Rattle.rules.specs.Promises.{SoundFair, SoundExplained}
use Rattle.fairness.proofs.Filled.{filled_fair, filled_explained, filled_in_round}
use Rattle.fairness.proofs.Rates.{fillable}

pub fair_filling : SoundFair
fair_filling f inv = filled_fair (fillable f inv)

pub explained_filling : SoundExplained
explained_filling f inv = record { explained = filled_explained (fillable f inv); in_its_round = filled_in_round (fillable f inv) }

-- the request's own words: whichever the limit is, it is one of the two
pub nobody_slower : {path : Transfer → List ℕ} {edges : List Edge} {ts : List Transfer} → Explained path edges ts → NobodySlower path edges ts
nobody_slower {path} {edges} {ts} explained i h = by (get_or ts i free).limit (explained.limited i h)
  where
    by : (l : Limit) → Limits path edges ts i l → ((get_or ts i free).rate_cap ≡ AtMost (get_or ts i free).rate) ⊎ ((e : ℕ) × Explains path edges ts i e)
    by AtCap own = inl own
    by (AtEdge e) explains = inr (e, explains)
    by Nowhere none = absurd none
