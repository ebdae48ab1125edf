-- `loads_of` counts slot by slot: the slots left, counted on what is counted, make the whole, and there is room for the paths left. Assumes nothing.
use mathlib.Core.Path.{◌≡◌}
use mathlib.Core.Bool.{Bool}
use mathlib.Core.List.{foldl}
use lib.ListN.{drop}
use Rattle.rules.specs.declared.Transfer.{Transfer}
use Rattle.crossings.specs.Loads.{counted}
use Rattle.crossings.proofs.Loads.{Room}
use Rattle.crossings.proofs.loads_of.Given as goal

abbrev pub invariant-loop-t : goal.invariant-loop-t
invariant-loop-t g l =
    ((p : Transfer → Bool) → ((t : Transfer) (b : Bool) → goal.F-post g l.counts t b → b ≡ p t) → foldl (counted p) l.load (drop l.t-index l.in_flight) ≡ foldl (counted p) l.initial.load l.in_flight)
    × Room l.in_flight l.load l.t-index
