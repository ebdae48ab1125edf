-- `delivered` credits slot by slot sums that are kept apart, and puts them back. Assumes nothing.
use mathlib.Core.Path.{◌≡◌, sym, ap, ◌∙◌}
use mathlib.Core.List.{List, foldl}
use native.Mathlib.Omega.{arith}
use Prim.Native.Nat.{◌≤◌}
use lib.Ieee.{Float}
use lib.ListN.{length, drop_of_length-le}
use Rattle.rules.proofs.Steps.{foldl_one}
use Rattle.rules.proofs.Routes.{route_at}
use Rattle.draining.specs.Credits.{credited}
use Rattle.draining.proofs.PutBack.{put_back, delivered_apart}
use Rattle.draining.proofs.delivered.Goals as goal

pub deliver-requires : goal.deliver-requires
deliver-requires c = route_at c.args.in_flight.now c.loop-t.t-index _ c.requires (omega arith)

pub loop-t-preserved : goal.loop-t-preserved
loop-t-preserved c = rw c.deliver.ensures (sym (foldl_one c.args.in_flight.now c.loop-t.t-index _ (omega arith) (credited c.args.until) c.loop-t.moved) ∙ c.loop-t.invariant)

pub returns : goal.returns
returns c =
    let over : length c.args.in_flight.now ≤ c.loop-t.t-index = omega arith in
    let sums : c.loop-t.moved ≡ foldl (credited c.args.until) c.bytes_moved-moved.result c.args.in_flight.now = rw (drop_of_length-le c.args.in_flight.now over) at c.loop-t.invariant in
    c.with_bytes_moved.ensures
    ∙ ap (λ (moved : List Float). put_back moved c.args.edges.now) (sums ∙ ap (λ (moved : List Float). foldl (credited c.args.until) moved c.args.in_flight.now) c.bytes_moved-moved.ensures)
    ∙ delivered_apart c.args.until c.args.in_flight.now c.args.edges.now
