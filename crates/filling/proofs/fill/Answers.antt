-- `fill` goes round by round: each freezes somebody and leaves what the definition has left to do. Assumes nothing.
use mathlib.Core.Path.{sym, ◌∙◌}
use Rattle.rules.specs.Records.{own_path}
use Rattle.fairness.proofs.Start.{own_path_kept}
use Rattle.fairness.proofs.Rounds.{no_more_rounds}
use Rattle.rounds.specs.Standing.{filling}
use Rattle.filling.proofs.Running.{running_comes, running_loaded, round_fewer, running_on}
use native.Mathlib.Omega.{arith}
use Rattle.filling.proofs.fill.Goals as goal

pub decide-decided-requires : goal.decide-decided-requires
decide-decided-requires c = record { standing = c.loop-f.invariant.standing; coming = running_comes c.args.f.now c.args.order.now c.requires.begun c.requires.ordered c.loop-f.f c.loop-f.invariant; loaded = running_loaded c.args.f.now c.args.order.now c.requires.begun c.requires.ordered c.loop-f.f c.loop-f.invariant (omega arith) }

pub loop-f-smaller : goal.loop-f-smaller
loop-f-smaller c = round_fewer c.args.f.now c.args.order.now c.requires.begun c.requires.ordered c.loop-f.f c.loop-f.invariant (omega arith) c.decide-decided.result.verdict c.decide-decided.result.cursor c.decide-decided.ensures.verdict c.decide-decided.ensures.passed c.round.new.f c.round.ensures

pub loop-f-preserved : goal.loop-f-preserved
loop-f-preserved c = running_on c.args.f.now c.args.order.now c.requires.begun c.requires.ordered c.loop-f.f c.loop-f.invariant (omega arith) c.decide-decided.result.verdict c.decide-decided.result.cursor c.decide-decided.ensures.verdict c.decide-decided.ensures.passed c.round.new.f c.round.ensures

pub returns : goal.returns
returns c = sym (no_more_rounds own_path own_path_kept (filling c.loop-f.f) (omega (arith, c.loop-f.invariant.standing.counted, c.loop-f-test.false))) ∙ c.loop-f.invariant.same
