-- `read_of` asks the transfer with that id. Assumes nothing.
use mathlib.Core.Path.{◌∙◌}
use mathlib.Core.Bool.{true, false}
use Rattle.rules.specs.declared.Answer.TheVariants.{Unknown}
use Rattle.slots.proofs.Found.{asked_of}
use Rattle.questions.proofs.read_of.Goals as goal

pub returns-then-t : goal.returns-then-t
returns-then-t g c = λ some tells. tells _ _ c.read.ensures ∙ asked_of c.args.id Unknown some c.args.in_flight.now c.of_id-t.result c.of_id-t.ensures true c.if-t.true

pub returns-else-t : goal.returns-else-t
returns-else-t g c = λ some tells. asked_of c.args.id Unknown some c.args.in_flight.now c.of_id-t.result c.of_id-t.ensures false c.if-t.false
