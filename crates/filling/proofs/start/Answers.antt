-- `start` fills the tables of the definition's start, and they are ready since the slots are. Assumes nothing.
use mathlib.Core.Path.{refl}
use Rattle.rules.specs.Filling.{start, num_unfrozen}
use Rattle.filling.proofs.Beginning.{paths_begin, caps_begin, ready_begin}
use native.Mathlib.Omega.{arith}
use borrow.Author.Rules.{rules}
use Rattle.filling.proofs.start.Goals as goal

pub loads-requires : goal.loads-requires
unfolding start
loads-requires c = rw c.seats-seats.ensures (paths_begin c.args.edges.now c.args.in_flight.now c.requires)

pub returns : goal.returns
unfolding start num_unfrozen
returns c =
    let seats_are = c.seats-seats.ensures in
    let edges_are = c.residual.ensures in record {
      begun = record {
        standing = record {
          places = search rules;
          edges = search rules;
          loads = c.loads.ensures;
          paths = rw seats_are (paths_begin c.args.edges.now c.args.in_flight.now c.requires);
          counted = c.num_unfrozen.ensures.exactly;
        };
        ready = rw (seats_are, edges_are) (ready_begin c.args.edges.now c.args.in_flight.now c.requires (omega arith));
        caps = rw seats_are (caps_begin c.args.edges.now c.args.in_flight.now c.requires);
        none_passed = refl;
        no_rounds = refl;
        few = c.num_unfrozen.ensures.bounded;
      };
      same = rw (seats_are, edges_are) refl;
    }
