-- `path_share` keeps the least share so far: the shares of the edges ahead, taken from it, make the least of all. Assumes nothing.
use lib.ListN.{drop}
use mathlib.Core.Path.{◌≡◌}
use Rattle.estimates.proofs.Shares.{least_by}
use Rattle.estimates.proofs.path_share.Given as goal

abbrev pub invariant-loop-hop : goal.invariant-loop-hop
invariant-loop-hop l = least_by l.flows.edges l.load l.share (drop l.hop-index l.path) ≡ least_by l.flows.edges l.load l.initial.share l.path
