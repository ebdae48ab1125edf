-- `residual` reads each edge's capacity: the library's map is the definition's. Assumes nothing.
use native.Mathlib.Omega.{arith}
use borrow.Author.Rules.{rules}
use Rattle.rules.specs.declared.Edge.{Edge}
use Rattle.rules.proofs.Chains.{mapped}
use Rattle.filling.proofs.residual.Goals as goal

pub returns : goal.returns
returns c = mapped _ (λ (e : Edge). e.capacity) _ (λ x y f' k. search rules) c.args.edges.now c.map.result 64 (omega arith) c.map.ensures.items
