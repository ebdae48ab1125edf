-- `take_completed` goes by how much waits for the owner and how long the buffer is, as its definition does. Assumes nothing.
use mathlib.Core.Path.{refl}
use native.Mathlib.Omega.{arith}
use Rattle.rules.specs.Records.{waiting, with_waiting}
use Rattle.rules.specs.Queue.{ids_for, collected}
use Rattle.queue.specs.Tables.{table_of}
use Rattle.collecting.proofs.Kept.{with_sound}
use Rattle.collecting.proofs.Taking.{take_nothing, take_short, take_all}
use Rattle.collecting.proofs.take_completed.Goals as goal

pub returns-then-found-eq0 : goal.returns-then-found-eq0
unfolding waiting
returns-then-found-eq0 c =
    let e = take_nothing c.args.owner c.args.flows c.args.out.now c.num_waiting-found.result c.num_waiting-found.ensures (omega arith) in let both = with_sound c.args.owner c.args.flows c.args.out.now c.requires (rw e refl) (rw e refl) in record { exactly = both.0; buffer = both.1.0; sound = both.1.1 }

pub returns-then-out-found : goal.returns-then-out-found
unfolding waiting
returns-then-out-found c =
    let e = take_short c.args.owner c.args.flows c.args.out.now c.num_waiting-found.result c.num_waiting-found.ensures (omega arith) (omega arith) in let both = with_sound c.args.owner c.args.flows c.args.out.now c.requires (rw (c.refused.ensures, e) refl) (rw e refl) in record { exactly = both.0; buffer = both.1.0; sound = both.1.1 }

pub returns : goal.returns
unfolding waiting with_waiting collected ids_for table_of
returns c =
    let e = take_all c.args.owner c.args.flows c.args.out.now c.num_waiting-found.result c.num_waiting-found.ensures (omega arith) (omega arith) in let both = with_sound c.args.owner c.args.flows c.args.out.now c.requires (rw (e, c.without-count.ensures) refl) (rw e c.write_ids.ensures) in record { exactly = both.0; buffer = both.1.0; sound = both.1.1 }
