-- `route_of` copies the path: what is copied and the zeros behind it fill the places. Assumes nothing.
use native.Mathlib.Omega.{arith}
use Prim.Native.Nat.{suc, ◌-◌, ◌+◌}
use native.Mathlib.Numerals.{add-one}
use lib.Seq.{take_all}
use Rattle.arguments.proofs.Copied.{copied_one}
use lib.ListN.{length}
use mathlib.Core.Path.{◌≡◌}
use Rattle.rules.specs.Records.{route}
use Rattle.arguments.proofs.route_of.Goals as goal

pub loop-i-preserved : goal.loop-i-preserved
loop-i-preserved c =
    let path = c.args.path.now in
    let i = c.loop-i.i in
    let left : 8 - i ≡ suc (8 - (i + 1)) = omega arith in
    rw (c.loop-i.invariant, c.wide.ensures, left, add-one i) (copied_one path i (8 - suc i) (omega arith))

pub returns : goal.returns
unfolding route
returns c =
    let path = c.args.path.now in
    let end : c.loop-i.i ≡ length path = omega arith in
    rw (c.loop-i.invariant, end, take_all (length path) path (omega arith))
