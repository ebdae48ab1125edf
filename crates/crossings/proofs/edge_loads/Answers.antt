-- `edge_loads` counts all in flight. Assumes nothing.
use Rattle.std.proofs.Common.{rules}
use Rattle.rules.specs.Clock.{counts_in_loads}
use Rattle.crossings.proofs.edge_loads.Goals as goal

pub returns : goal.returns
returns c = c.loads_of.ensures counts_in_loads (λ t b k. search rules)
