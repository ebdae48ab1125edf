-- `find` meets its contract: its definition is the library's first place of the byte. Assumes nothing.
use Rattle.std.proofs.Common.{rules, arith, tests, ◌-◌, ◌≡◌, ◌∙◌, drop, ap, cond, eqb, refl, length, length-drop}
use Rattle.std.specs.List.{position}
use Rattle.std.proofs.Math.Seq.{take_all}
use Rattle.std.proofs.lemmas.Grind.{common_steps}
use Rattle.std.proofs.lemmas.List.Sums.{prefix_len-le-length}
use Rattle.std.proofs.lemmas.List.Recursion.{is_position_or_len}
use Rattle.std.proofs.lemmas.Iterator.{YieldsList-from_slice}
use Rattle.std.proofs.lemmas.Iterator.Search.{position_from_yields_List}
use Rattle.session_words.specs.Words.{index_of}
use Rattle.session_words.proofs.find.Goals as goal

pub returns-clause-exactly : goal.returns-clause-exactly
unfolding index_of
returns-clause-exactly c =
    let whole = take_all (length c.args.bytes.now - c.args.from) (drop c.args.from c.args.bytes.now) (simp length-drop (omega arith)) in
    let first = is_position_or_len (index_of c.args.b) (λ x. eqb x c.args.b) refl (λ x xs. ap (λ n. cond (eqb x c.args.b) 0 n) (omega arith)) (drop c.args.from c.args.bytes.now) in
    let found : c.position.result ≡ position (λ x. eqb x c.args.b) (drop c.args.from c.args.bytes.now) = position_from_yields_List (λ x. eqb x c.args.b) _ _ c.position.result c.position.ensures.ran (YieldsList-from_slice (drop c.args.from c.args.bytes.now) (c.iter.ensures.rest ∙ whole)) (λ x b q k. search (rules, tests)) in
    rw first (grind (arith, common_steps, found, c.map_or.ensures, prefix_len-le-length))
