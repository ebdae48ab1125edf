-- `first_loaded` searches by the library, and finds an edge since one has load. Assumes nothing.
use mathlib.Core.Path.{◌≡◌, refl, sym, ap, ◌∙◌}
use native.Mathlib.Omega.{arith}
use mathlib.Core.Bool.{Bool, cond}
use borrow.Author.Rules.{rules}
use borrow.Author.Tests.{lt-ltb}
use lib.Dec.{ltb}
use Rattle.std.proofs.Common.{Some, None, tests}
use Rattle.std.proofs.lemmas.Iterator.{YieldsList-from_slice}
use Rattle.std.proofs.lemmas.Iterator.Search.{position_from_yields_List}
use Rattle.std.specs.List.{position_or_len}
use Rattle.rounds.proofs.Searching.{first_inside}
use Rattle.rounds.proofs.first_loaded.Goals as goal

pub unwrap-requires : goal.unwrap-requires
unwrap-requires c =
    let load = c.args.load.now in
    let found = position_from_yields_List (ltb 0) _ _ c.position.result c.position.ensures.ran (YieldsList-from_slice load cc) (λ x b q k. search (rules, tests)) in
    rw (found, lt-ltb _ _ (first_inside load c.requires)) refl

pub returns : goal.returns
returns c =
    let load = c.args.load.now in
    let inside = first_inside load c.requires in
    let found = position_from_yields_List (ltb 0) _ _ c.position.result c.position.ensures.ran (YieldsList-from_slice load cc) (λ x b q k. search (rules, tests)) in
    let first : c.unwrap.result ≡ position_or_len (ltb 0) load = let e = sym c.unwrap.ensures ∙ found ∙ ap (λ (b : Bool). cond b (Some (position_or_len (ltb 0) load)) None) (lt-ltb _ _ inside) in cc in
    record { within = omega (arith, first, inside); first = first }
