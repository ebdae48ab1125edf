-- What a filling leaves as the limit of a transfer of the demand is so: its own cap, or the edge whose round froze it. Assumes nothing.
use mathlib.Core.Path.{◌≡◌}
use mathlib.Core.Logic.{inl, inr}
use mathlib.Core.Bool.{false}
use mathlib.Core.List.{List}
use Prim.Native.Nat.{ℕ}
use lib.Dec.{T}
use lib.ListN.{get_or}
use Rattle.rules.specs.declared.Edge.{Edge}
use Rattle.rules.specs.declared.Transfer.{Transfer}
use Rattle.rules.specs.Records.{free}
use Rattle.rules.specs.Filling.{Filling, seat_at}
use Rattle.rules.specs.Fair.{in_demand, Limits}
use Rattle.fairness.proofs.Settled.{Fills}
use Rattle.fairness.proofs.Ended.{ts, at_cap_or_bottleneck, carries, nobody_faster}

module _ (path : Transfer → List ℕ) (edges : List Edge) (K : ℕ → ℕ) (f : Filling) (fills : Fills path edges K f) (over : (i : ℕ) → (seat_at f i).unfrozen ≡ false) where
  abbrev given : List Transfer
  given = ts path edges K f fills over

  pub limited : (i : ℕ) → T (in_demand path (get_or given i free)) → Limits path edges given i (get_or given i free).limit
  limited i h =
      elim (at_cap_or_bottleneck path edges K f fills over i h) [
        | inl (at, own) ↦ rw at own
        | inr (b, known) ↦ rw b.named (record { crossed = b.crossed; carries = carries path edges K f fills over b known; nobody_faster = nobody_faster path edges K f fills over b known })
      ]
