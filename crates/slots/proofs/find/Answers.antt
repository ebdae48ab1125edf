-- `find` is the library's search of a slice, which finds the slot that the definition does. Assumes nothing.
use Rattle.std.proofs.Common.{rules, ◌≡◌}
use borrow.Author.Tests.{tests}
use Rattle.std.specs.List.{position}
use Rattle.std.proofs.lemmas.Iterator.{YieldsList-from_slice}
use Rattle.std.proofs.lemmas.Iterator.Search.{position_from_yields_List}
use Rattle.rules.specs.Records.{has_id}
use Rattle.slots.proofs.Lookups.{lookup_is}
use Rattle.slots.proofs.find.Goals as goal

pub returns : goal.returns
returns c =
    let found : c.position.result ≡ position (has_id c.args.id) c.args.in_flight.now =
    position_from_yields_List (has_id c.args.id) _ _ c.position.result c.position.ensures.ran (YieldsList-from_slice c.args.in_flight.now cc) (λ x b q k. search (rules, tests)) in
    lookup_is c.args.id c.args.in_flight.now c.map_or.result (rw (← found) (search rules))
