-- A simulator made with a floor of its own. (02, P5) Definitions only.
use Rattle.std.specs.Prelude.{List, [], ◌∷◌, Float}
use Rattle.rules.specs.declared.Answer.TheVariants.{Done}
use Rattle.rules.specs.declared.Outcome.{Outcome}
use Rattle.rules.specs.Records.{fresh, with_tolerance}
use Rattle.rules.specs.Refusals.{Cause, ◌when◌, refusing, answering, refused, not_a_floor}

-- Why no simulator is made with a floor. (02, P5)
abbrev pub floor_causes : Float → List Cause
floor_causes floor = 1 when not_a_floor floor ∷ []

-- The fresh simulator with that floor, and the default one beside a refusal. (02, P5)
unfoldable pub with_floor : Float → Outcome
with_floor floor = refusing (floor_causes floor) (refused fresh) (answering Done (with_tolerance (record { floor = floor }) fresh))
