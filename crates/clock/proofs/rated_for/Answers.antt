-- `rated_for` brings rates up to date only where time passes. Assumes nothing.
use mathlib.Core.Path.{◌≡◌}
use mathlib.Core.Bool.{true, false}
use Rattle.doubles.specs.Doubles.{◌≺◌}
use Rattle.clock.proofs.rated_for.Goals as goal

pub returns-then-flows-until-clause-exactly : goal.returns-then-flows-until-clause-exactly
returns-then-flows-until-clause-exactly c =
    let passes : (c.args.flows.now.clock.now ≺ c.args.until) ≡ true = c.if-flows-until.true in rw passes c.ensure_rates.ensures.exactly

pub returns-else-flows-until-clause-exactly : goal.returns-else-flows-until-clause-exactly
returns-else-flows-until-clause-exactly c =
    let stands : (c.args.flows.now.clock.now ≺ c.args.until) ≡ false = c.if-flows-until.false in rw stands
