-- `session_fields::spaced_short` meets its contract: ten digits hold what is below 2^32. Assumes nothing.
use Rattle.std.proofs.Common.{◌-◌, ◌≤◌, arith}
use Rattle.session_pages.proofs.Fewest.{at_most}
use Rattle.session_fields.proofs.spaced_short.Goals as goal

pub returns : goal.returns
returns c = let few : c.put_number.new.self.len - c.put_text.new.self.len ≤ 10 = at_most 10 1 _ _ 10 (omega arith) c.put_number.ensures.shortest (omega arith) (omega arith) in omega arith
