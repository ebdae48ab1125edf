-- `delivered` credits slot by slot sums that are kept apart, and puts them back. Assumes nothing.
use mathlib.Core.Path.{◌≡◌}
use mathlib.Core.List.{foldl}
use lib.ListN.{drop}
use Rattle.draining.specs.Credits.{credited}
use Rattle.draining.proofs.delivered.Given as goal

abbrev pub invariant-loop-t : goal.invariant-loop-t
invariant-loop-t l = foldl (credited l.until) l.moved (drop l.t-index l.in_flight) ≡ foldl (credited l.until) l.initial.moved l.in_flight
