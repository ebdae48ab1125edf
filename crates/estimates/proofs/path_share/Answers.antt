-- `path_share` keeps the least share so far: the shares of the edges ahead, taken from it, make the least of all. Assumes nothing.
use Prim.Native.Nat.{◌≤◌, ◌<◌}
use lib.Ieee.{of_bits}
use lib.ListN.{length, get_or, drop_of_length-le}
use native.Mathlib.Omega.{arith}
use Rattle.doubles.specs.Doubles.{smaller}
use Rattle.estimates.proofs.Shares.{share_by, least_share}
use Rattle.rules.proofs.Steps.{foldl_one, get_d_any}
use Rattle.rules.specs.Records.{blank_edge}
use Rattle.rules.specs.Filling.{takes_part}
use Rattle.crossings.proofs.Loads.{loads_bound}
use Rattle.rules.proofs.Routes.{all_room}
use Rattle.estimates.proofs.path_share.Goals as goal

pub new_share-requires : goal.new_share-requires
new_share-requires c = rw (c.wide-e.ensures, c.requires.right) (loads_bound takes_part c.args.flows.now.in_flight _ (c.requires.known.below c.loop-hop.hop-index (omega arith)) (all_room c.requires.sound))

pub loop-hop-preserved : goal.loop-hop-preserved
unfolding share_by
loop-hop-preserved c =
    let path = c.args.path.now in
    let edges = c.args.flows.now.edges in
    let e = get_or path c.loop-hop.hop-index 0 in
    let known : e < 64 = c.requires.known.below c.loop-hop.hop-index (omega arith) in
    let inside : e < length edges = omega arith in
    let ahead : c.loop-hop.hop-index < length path = omega arith in
    rw (c.smaller-share.ensures, c.new_share.ensures, c.wide-e.ensures, ← get_d_any edges e blank_edge, ← c.loop-hop.invariant, foldl_one path c.loop-hop.hop-index 0 ahead (λ least e. smaller least (share_by edges c.args.load.now e)) c.loop-hop.share)

pub returns : goal.returns
unfolding of_bits
returns c =
    let path = c.args.path.now in
    let over : length path ≤ c.loop-hop.hop-index = omega arith in
    rw (rw (drop_of_length-le path over) at c.loop-hop.invariant, c.requires.right, ← least_share c.args.flows.now path c.requires.known)
