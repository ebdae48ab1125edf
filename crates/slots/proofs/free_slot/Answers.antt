-- `free_slot` is the library's search of a slice, which finds a slot, since not all are taken. Assumes nothing.
use mathlib.Core.Path.{◌≡◌, refl, sym, ◌∙◌}
use mathlib.Core.Bool.{not}
use native.Mathlib.Omega.{arith}
use borrow.Author.Tests.{tests}
use Rattle.std.proofs.Common.{rules, Some}
use Rattle.std.specs.List.{position}
use Rattle.std.proofs.lemmas.Iterator.{YieldsList-from_slice}
use Rattle.std.proofs.lemmas.Iterator.Search.{position_from_yields_List}
use Rattle.rules.specs.declared.Transfer.{Transfer}
use Rattle.slots.specs.Lookup.{first_free}
use Rattle.slots.proofs.Lookups.{first_free_is}
use Rattle.slots.proofs.free_slot.Goals as goal

pub unwrap-requires : goal.unwrap-requires
unwrap-requires c =
    let found : c.position.result ≡ position (λ (t : Transfer). not t.taken) c.args.in_flight.now =
    position_from_yields_List (λ (t : Transfer). not t.taken) _ _ c.position.result c.position.ensures.ran (YieldsList-from_slice c.args.in_flight.now cc) (λ x b q k. search (rules, tests)) in
    rw (found, (first_free_is c.args.in_flight.now (omega arith)).0) refl

pub returns : goal.returns
returns c =
    let found : c.position.result ≡ position (λ (t : Transfer). not t.taken) c.args.in_flight.now =
    position_from_yields_List (λ (t : Transfer). not t.taken) _ _ c.position.result c.position.ensures.ran (YieldsList-from_slice c.args.in_flight.now cc) (λ x b q k. search (rules, tests)) in
    let free = first_free_is c.args.in_flight.now (omega arith) in
    let same : Some c.unwrap.result ≡ Some (first_free c.args.in_flight.now) = sym c.unwrap.ensures ∙ found ∙ free.0 in
    let lowest : c.unwrap.result ≡ first_free c.args.in_flight.now = cc in
    record { lowest = lowest; bounded = omega arith }
