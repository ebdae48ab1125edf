-- `session_fields::spaced_owner` meets its contract: one digit holds an owner's kind. Assumes nothing.
use Rattle.std.proofs.Common.{◌-◌, ◌≤◌, ◌<◌, arith}
use Rattle.owners.proofs.Order.{owner_kind_few}
use Rattle.session_pages.proofs.Fewest.{at_most}
use Rattle.session_fields.proofs.spaced_owner.Goals as goal

pub returns : goal.returns
returns c =
    let few : c.from.result < 3 = omega (arith, owner_kind_few c.args.owner) in
    let digit : c.put_number.new.self.len - c.put_text.new.self.len ≤ 1 = at_most 10 1 _ _ 1 (omega arith) c.put_number.ensures.shortest (omega arith) (omega arith) in
    omega arith
