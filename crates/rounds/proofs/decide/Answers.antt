-- `decide` asks for the next cap and the tightest edge: the order's first is the smallest cap, and the load table is right. Assumes nothing.
use mathlib.Core.Path.{refl}
use Rattle.rounds.proofs.Deciding.{loads_few, shares_right}
use Rattle.rounds.proofs.decide.Goals as goal

pub winning_edge-best-requires-clause-few : goal.winning_edge-best-requires-clause-few
winning_edge-best-requires-clause-few c = loads_few c.args.f.now c.requires.standing

pub returns-clause-verdict : goal.returns-clause-verdict
returns-clause-verdict c =
    rw (c.verdict.ensures, c.next_cap-next.ensures.first, c.winning_edge-best.ensures, c.requires.coming.ranked, shares_right c.args.f.now c.requires.standing) refl
