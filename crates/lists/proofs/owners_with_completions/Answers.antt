-- `owners_with_completions` goes by how many owners there are and how long the buffer is, as its definition does. Assumes nothing.
use mathlib.Core.Path.{refl}
use native.Mathlib.Omega.{arith}
use lib.ListN.{take}
use Rattle.rules.specs.Records.{waiting}
use Rattle.queue.proofs.Taken.{length_taken}
use Rattle.lists.proofs.Adjacent.{owners_few}
use Rattle.lists.proofs.Listing.{owners_short, owners_all}
use Rattle.lists.proofs.owners_with_completions.Goals as goal

pub overflow_mul-found : goal.overflow_mul-found
overflow_mul-found c =
    let long = length_taken c.args.flows.completed c.args.flows.num_completed (omega arith) in
    omega (arith, owners_few (take c.args.flows.num_completed c.args.flows.completed), c.num_owners-found.ensures)

pub returns-then-out-found : goal.returns-then-out-found
unfolding waiting
returns-then-out-found c =
    let e = owners_short c.args.flows c.args.out.now c.num_owners-found.result c.num_owners-found.ensures (omega arith) in record { answer = rw e refl; buffer = rw e refl }

pub returns : goal.returns
unfolding waiting
returns c =
    let e = owners_all c.args.flows c.args.out.now c.num_owners-found.result c.num_owners-found.ensures (omega arith) in record { answer = rw e refl; buffer = rw e c.write_owners.ensures }
