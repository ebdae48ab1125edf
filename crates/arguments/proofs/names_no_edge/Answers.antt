-- `names_no_edge` is the library's search of a slice, in the words of the definition. Assumes nothing.
use mathlib.Core.Path.{◌≡◌, refl, ◌∙◌}
use borrow.Author.Tests.{tests}
use lib.Dec.{leb}
use Rattle.std.proofs.Common.{rules}
use Rattle.std.specs.List.{list_any}
use Rattle.std.proofs.lemmas.Iterator.{YieldsList-from_slice}
use Rattle.std.proofs.lemmas.Iterator.Search.{any_from_yields_List}
use Rattle.rules.proofs.Chains.{any_is}
use Rattle.arguments.proofs.names_no_edge.Goals as goal

pub returns : goal.returns
returns c =
    let found : c.any.result ≡ list_any (leb c.args.n) c.args.path.now =
    any_from_yields_List (leb c.args.n) _ _ c.any.result c.any.ensures.ran (YieldsList-from_slice c.args.path.now cc) (λ x b q k. search (rules, tests)) in
    found ∙ any_is (λ e. refl) _
