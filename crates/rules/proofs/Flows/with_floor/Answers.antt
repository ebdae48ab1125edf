-- `Flows::with_floor` hands the fresh simulator back beside a refusal, and otherwise puts the floor into it. Assumes nothing.
use borrow.Author.Rules.{rules}
use mathlib.Core.Path.{◌≡◌, sym, ◌∙◌}
use lib.Dec.{T}
use lib.Ieee.{Float, binary64, fits}
use Rattle.rules.specs.declared.Outcome.{Outcome}
use Rattle.rules.specs.Records.{with_tolerance}
use Rattle.rules.specs.Refusals.{refusing}
use Rattle.rules.specs.Floors.{with_floor}
use Rattle.rules.specs.Invariant.{Invariant}
use Rattle.rules.proofs.Fresh.{with_floor_keeps}
use Rattle.rules.proofs.Flows.with_floor.Goals as goal

-- an outcome that the definition gives keeps the invariant as it does
kept : (floor : Float) {r : Outcome} → T (fits binary64 floor) → r ≡ with_floor floor → (r ≡ with_floor floor) × Invariant r.flows
kept floor held same = (same, rw same (with_floor_keeps floor held))

pub returns-then-not_a_floor : goal.returns-then-not_a_floor
unfolding with_floor refusing
returns-then-not_a_floor c = let both = kept c.args.floor (search rules) (rw (sym c.not_a_floor.ensures ∙ c.if-not_a_floor.true, c.new-flows.ensures.exactly)) in record { exactly = both.0; sound = both.1 }

pub returns : goal.returns
unfolding with_floor refusing with_tolerance
returns c = let both = kept c.args.floor (search rules) (rw (sym c.not_a_floor.ensures ∙ c.if-not_a_floor.false, c.new-flows.ensures.exactly)) in record { exactly = both.0; sound = both.1 }
