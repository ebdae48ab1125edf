-- `write_triples` stores three numbers an entry: those stored, and the triples left written behind them, make the list at the front. Assumes nothing.
use mathlib.Core.Path.{◌≡◌, refl, sym, ◌∙◌}
use Prim.Native.Nat.{◌+◌, ◌*◌, ◌<◌, ◌≤◌}
use native.Mathlib.Omega.{arith}
use lib.ListN.{length, drop_of_length-le}
use Rattle.rules.specs.Queue.{triples}
use Rattle.queue.proofs.Taken.{past_end}
use Rattle.rules.proofs.Fronts.{written_none, written_three}
use Rattle.rules.proofs.Steps.{drop_one}
use Rattle.advance.proofs.write_triples.Goals as goal

pub loop-i-preserved : goal.loop-i-preserved
unfolding triples
loop-i-preserved c =
    let one = drop_one c.args.list.now c.loop-i.i past_end c.loop-i-test.true in
    let room : 3 * c.loop-i.i + 2 < length c.loop-i.out = omega arith in
    let next : 3 * (c.loop-i.i + 1) ≡ 3 * c.loop-i.i + 3 = omega arith in
    rw (next, written_three, ← c.loop-i.invariant, one, ← c.owner_kind.ensures, ← c.owner_worker.ensures) refl

pub returns : goal.returns
unfolding triples
returns c =
    let over : length c.args.list.now ≤ c.loop-i.i = omega arith in
    sym (written_none (3 * c.loop-i.i) c.loop-i.out) ∙ (rw (drop_of_length-le c.args.list.now over) at c.loop-i.invariant)
