-- `session_pages::readable` meets its contract: the tests are the definition's. Assumes nothing.
use Rattle.std.proofs.Common.{arith}
use Rattle.std.proofs.lemmas.Grind.{common_steps}
use Rattle.session_pages.specs.Page.{is_readable}
use Rattle.session_pages.proofs.readable.Goals as goal

pub returns-then-x : goal.returns-then-x
unfolding is_readable
returns-then-x c = grind (arith, common_steps)

pub returns-else-x : goal.returns-else-x
unfolding is_readable
returns-else-x c = grind (arith, common_steps)
