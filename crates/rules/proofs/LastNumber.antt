-- Refusal 9 comes at the last number and not before, for each kind of owner: a simulator that has counted so far keeps the invariant, and the tables compute. Assumes nothing.
use Prim.Native.Nat.{ℕ, ◌^◌, ◌<◌}
use native.Mathlib.Omega.{arith}
use mathlib.Core.Path.{refl}
use Rattle.rules.specs.declared.Owner.{Owner}
use Rattle.rules.specs.declared.Owner.TheVariants.{Worker, Handoff, Write}
use Rattle.rules.specs.Records.{fresh, tally_of, with_totals, with_tolerance, on_tally}
use Rattle.rules.specs.Invariant.{Invariant, Balanced}
use Rattle.rules.specs.Cases.{submitted_before, LastNumber}
use Rattle.rules.proofs.Everything.{everything}
use Rattle.rules.proofs.Floors.{default_floor}
use Rattle.rules.proofs.Fresh.{nought_summed, none_balanced, counted_keeps}

-- what was counted is balanced by what was completed
balanced : (owner : Owner) (n : ℕ) → n < 2 ^ 64 → (y : Owner) → Balanced fresh.in_flight y (tally_of y (submitted_before owner n).totals)
unfolding everything
balanced (Worker m) n h (Worker k) = record { accounted = omega arith; fits = h; bytes = nought_summed }
balanced (Worker m) n h Handoff = none_balanced Handoff
balanced (Worker m) n h Write = none_balanced Write
balanced Handoff n h (Worker k) = none_balanced (Worker k)
balanced Handoff n h Handoff = record { accounted = omega arith; fits = h; bytes = nought_summed }
balanced Handoff n h Write = none_balanced Write
balanced Write n h (Worker k) = none_balanced (Worker k)
balanced Write n h Handoff = none_balanced Handoff
balanced Write n h Write = record { accounted = omega arith; fits = h; bytes = nought_summed }

keeps : (owner : Owner) (n : ℕ) → n < 2 ^ 64 → Invariant (submitted_before owner n)
unfolding on_tally with_totals with_tolerance
keeps (Worker m) n h = counted_keeps default_floor _ (omega arith) (balanced (Worker m) n h)
keeps Handoff n h = counted_keeps default_floor _ (omega arith) (balanced Handoff n h)
keeps Write n h = counted_keeps default_floor _ (omega arith) (balanced Write n h)

pub last_number : LastNumber
unfolding everything
last_number = record { sound = keeps; taken = refl }
