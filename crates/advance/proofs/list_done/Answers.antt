-- `list_done` goes by how long the list is: too long for the buffer it leaves all as it was, and otherwise it writes the list and lets those on it leave. Assumes nothing.
use native.Mathlib.Omega.{arith}
use lib.ListN.{length, take}
use mathlib.Core.Path.{◌≡◌, refl, ap, ◌∙◌}
use Rattle.advance.proofs.Listed.{list_done_short, list_done_all}
use Rattle.leaving.proofs.Listed.{table_list, table_count}
use Rattle.queue.specs.declared.Table.{Table}
use Rattle.rules.specs.Advance.{done_list}
use Rattle.advance.proofs.list_done.Goals as goal

pub returns-then-out-list : goal.returns-then-out-list
returns-then-out-list c =
    let d = c.settled.new.flows in
    let list = c.done_list-list.result in
    let long : list.count ≡ length (done_list d) = ap (λ (t : Table). t.count) c.done_list-list.ensures.exactly ∙ table_count (done_list d) in
    let e = list_done_short d (done_list d) c.args.flows c.args.out.now list.count long (omega arith) in record { exactly = rw (c.refused.ensures, ← c.settled.ensures.exactly, e) refl; buffer = rw (← c.settled.ensures.exactly, e) refl }

pub completed-requires : goal.completed-requires
completed-requires c =
    let settled = c.settled in
    let list = c.done_list-list in record { sound = settled.ensures.sound; drained = settled.ensures.drained; all = list.ensures.exactly; bounded = list.ensures.bounded }

pub returns : goal.returns
returns c =
    let settled = c.settled in
    let found = c.done_list-list in
    let d = settled.new.flows in
    let list = found.result in
    let long : list.count ≡ length (done_list d) = ap (λ (t : Table). t.count) found.ensures.exactly ∙ table_count (done_list d) in
    let all : take list.count list.entries ≡ done_list d = rw found.ensures.exactly (table_list (done_list d)) in
    let e = list_done_all d (done_list d) c.args.flows c.args.out.now list.count long (omega (arith, c.if-out-list.false)) in record { exactly = rw (← settled.ensures.exactly, e, ← c.completed.ensures) refl; buffer = rw (← settled.ensures.exactly, e, ← all) c.write_triples.ensures }
