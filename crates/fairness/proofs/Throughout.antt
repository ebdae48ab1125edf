-- Through all the rounds of a filling, whoever is unfrozen has load on its path. Assumes nothing.
use mathlib.Core.Bool.{Bool, true, false, not, ◌||◌, cond}
use mathlib.Core.List.{List}
use Prim.Native.Nat.{ℕ, zero, suc}
use lib.Dec.{eqb}
use Rattle.rules.specs.declared.Transfer.{Transfer}
use Rattle.rules.specs.declared.Seat.{Seat}
use Rattle.rules.specs.declared.Flows.{Flows}
use Rattle.rules.specs.Records.{own_path}
use Rattle.rules.specs.Filling.{Filling, round, num_unfrozen, start, rounds_until, no_seat}
use Rattle.rules.specs.Invariant.{Invariant}
use Rattle.rules.specs.Promises.{load_on_path, LoadedThroughout}
use Rattle.rules.proofs.Each.{all_each}
use Rattle.fairness.specs.Ready.{Ready}
use Rattle.fairness.proofs.Reading.{KeepsPath}
use Rattle.fairness.proofs.Seen.{load_seen}
use Rattle.fairness.proofs.Rounds.{round_ready}
use Rattle.fairness.proofs.Start.{own_path_kept, filling_ready}

module _ (path : Transfer → List ℕ) where
  rounds_ready : KeepsPath path → (n : ℕ) (f : Filling) → Ready path f → Ready path (rounds_until path n f)
  unfolding rounds_until
  rounds_ready kept zero f ready = ready
  rounds_ready kept (suc n) f ready = go (eqb (num_unfrozen f) 0) (rounds_ready kept n (round path f) (round_ready path kept f ready))
    where
      go : (b : Bool) → Ready path (rounds_until path n (round path f)) → Ready path (cond b f (rounds_until path n (round path f)))
      go true rec = ready
      go false rec = rec

pub loaded_throughout : (f : Flows) → Invariant f → LoadedThroughout f
loaded_throughout f inv n =
    let g = rounds_until own_path n (start own_path f.edges f.in_flight) in
    let ready : Ready own_path g = rounds_ready own_path own_path_kept n (start own_path f.edges f.in_flight) (filling_ready f inv) in
    all_each (λ (s : Seat). not s.unfrozen || load_on_path own_path g s) no_seat g.seats (load_seen own_path g ready)
