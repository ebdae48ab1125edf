-- `bytes_moved` reads each edge's sum: the library's map is the definition's. Assumes nothing.
use native.Mathlib.Omega.{arith}
use borrow.Author.Rules.{rules}
use Rattle.rules.specs.declared.Edge.{Edge}
use Rattle.rules.proofs.Chains.{mapped}
use Rattle.draining.proofs.bytes_moved.Goals as goal

pub returns : goal.returns
returns c = mapped _ (λ (e : Edge). e.bytes_moved) _ (λ x y f' k. search rules) c.args.edges.now c.map.result 64 (omega arith) c.map.ensures.items
