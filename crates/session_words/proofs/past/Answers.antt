-- `past` meets its contract: its definition is the library's first place of a byte that ends the run. Assumes nothing.
use Rattle.std.proofs.Common.{rules, arith, tests, ◌-◌, ◌≡◌, ◌∙◌, drop, ap, cond, refl, length, length-drop}
use Rattle.std.specs.List.{position}
use Rattle.std.proofs.Math.Seq.{take_all}
use Rattle.std.proofs.lemmas.Grind.{common_steps}
use Rattle.std.proofs.lemmas.List.Sums.{prefix_len-le-length}
use Rattle.std.proofs.lemmas.List.Recursion.{is_position_or_len}
use Rattle.std.proofs.lemmas.Iterator.{YieldsList-from_slice}
use Rattle.std.proofs.lemmas.Iterator.Search.{position_from_yields_List}
use Rattle.session_words.specs.Words.{run, stops}
use Rattle.session_words.proofs.past.Goals as goal

pub returns-clause-exactly : goal.returns-clause-exactly
unfolding run
returns-clause-exactly c =
    let whole = take_all (length c.args.line.now - c.args.at) (drop c.args.at c.args.line.now) (simp length-drop (omega arith)) in
    let first = is_position_or_len (run c.args.blanks) (stops c.args.blanks) refl (λ x xs. ap (λ n. cond (stops c.args.blanks x) 0 n) (omega arith)) (drop c.args.at c.args.line.now) in
    let found : c.position.result ≡ position (stops c.args.blanks) (drop c.args.at c.args.line.now) = position_from_yields_List (stops c.args.blanks) _ _ c.position.result c.position.ensures.ran (YieldsList-from_slice (drop c.args.at c.args.line.now) (c.iter.ensures.rest ∙ whole)) (λ x b q k. search (rules, tests)) in
    rw first (grind (arith, common_steps, found, c.map_or.ensures, prefix_len-le-length))
