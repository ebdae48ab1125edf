-- `seats` seats each slot: the library's map is the definition's. Assumes nothing.
use mathlib.Core.Path.{subst}
use native.Mathlib.Omega.{arith}
use borrow.Author.Rules.{rules}
use Rattle.rules.specs.declared.Transfer.{Transfer}
use Rattle.rules.specs.Records.{free, own_path}
use Rattle.rules.specs.Invariant.{SoundRoute}
use Rattle.rules.specs.Filling.{seat}
use Rattle.rules.proofs.Chains.{mapped}
use Rattle.filling.proofs.Beginning.{comes_to}
use Rattle.filling.proofs.seats.Goals as goal

-- each slot's path is sound, which `seat` asks
pub map-requires : goal.map-requires
map-requires c = (
  search rules,
  (
    search rules,
    (
      search rules,
      record {
        at = λ xs t q x u y w e.
            let at = comes_to c.args.in_flight.now xs t x u free y e in
            subst (λ (s : Transfer). SoundRoute 64 s.path) at.1 (c.requires.paths at.0);
      },
    ),
  ),
)

pub returns : goal.returns
returns c = mapped _ (seat own_path) _ (λ x y f' k. search rules) c.args.in_flight.now c.map.result 256 (omega arith) c.map.ensures.items
