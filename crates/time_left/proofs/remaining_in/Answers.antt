-- `remaining_in` asks the transfer with that id. Assumes nothing.
use mathlib.Core.Path.{ap, ◌∙◌}
use mathlib.Core.Bool.{true, false}
use Rattle.rules.specs.declared.Answer.TheVariants.{Unknown}
use Rattle.rules.specs.Done.{time_to_done}
use Rattle.rules.specs.TimeLeft.{remaining_in, or_cannot_finish}
use Rattle.slots.proofs.Found.{asked_of}
use Rattle.time_left.proofs.remaining_in.Goals as goal

pub returns-then-t : goal.returns-then-t
unfolding remaining_in
returns-then-t c =
    c.or_cannot_finish.ensures ∙ ap or_cannot_finish c.time_to_done.ensures
    ∙ asked_of c.args.id Unknown (λ u. or_cannot_finish (time_to_done c.args.eps u)) c.args.in_flight.now c.of_id-t.result c.of_id-t.ensures true c.if-t.true

pub returns-else-t : goal.returns-else-t
unfolding remaining_in
returns-else-t c = asked_of c.args.id Unknown (λ u. or_cannot_finish (time_to_done c.args.eps u)) c.args.in_flight.now c.of_id-t.result c.of_id-t.ensures false c.if-t.false
