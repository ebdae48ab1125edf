-- `joined` places the transfer by one store; whether or not the peak is raised, it is then the larger of itself and the number in flight. Assumes nothing.
use native.Mathlib.Omega.{arith}
use mathlib.Core.Path.{◌≡◌}
use lib.ListN.{set}
use Rattle.rules.specs.Lists.{count}
use Rattle.rules.specs.Submission.{peak_taken}
use Rattle.rules.specs.Records.{num_in_flight, with_in_flight, with_totals}
use Rattle.slots.proofs.Lookups.{placed_is}
use Rattle.starting.proofs.joined.Goals as goal

pub free_slot-i-requires : goal.free_slot-i-requires
unfolding num_in_flight
free_slot-i-requires c = c.requires

pub returns : goal.returns
unfolding peak_taken with_in_flight with_totals num_in_flight
returns c =
    let args = c.args in
    let slots = args.flows.now.in_flight in
    let counted : count (λ t. t.taken) (set slots c.free_slot-i.result args.transfer) ≡ c.num_taken-n.result = omega (arith, c.num_taken-n.ensures.exactly) in
    rw (placed_is args.transfer slots, ← c.free_slot-i.ensures.lowest, counted, ← c.max-flows.ensures)
