-- `transfers` reads each seat's transfer: the library's map is the definition's. Assumes nothing.
use native.Mathlib.Omega.{arith}
use borrow.Author.Rules.{rules}
use Rattle.rules.specs.declared.Seat.{Seat}
use Rattle.rules.proofs.Chains.{mapped}
use Rattle.filling.proofs.transfers.Goals as goal

pub returns : goal.returns
returns c = mapped _ (λ (s : Seat). s.transfer) _ (λ x y f' k. search rules) c.args.seats.now c.map.result 256 (omega arith) c.map.ensures.items
