-- `session::run_script` is safe: what is kept between two reads stays sound. Assumes nothing.
use Rattle.std.proofs.Common.{◌≤◌}
use Rattle.rules.specs.Invariant.{Invariant}
use Rattle.session.proofs.run_script.Given as goal

abbrev pub invariant-loop-turn : goal.invariant-loop-turn
invariant-loop-turn g l = Invariant l.flows × (l.line.len ≤ 4096)
