-- `pass_time` lets the integrals grow where time passes, by a table that says how often each edge is crossed, and moves the clock. Assumes nothing.
use Rattle.doubles.specs.Doubles.{◌⊖◌}
use mathlib.Core.Path.{◌≡◌, ◌∙◌}
use Rattle.rules.specs.Lists.{map_from}
use Rattle.rules.specs.Records.{path_of, with_edges, with_clock, at_time}
use Rattle.rules.specs.Clock.{crossings_by, counts_in_loads, gain_busy, pass_time}
use Rattle.clock.proofs.Busy.{busy_by_load}
use Rattle.clock.proofs.pass_time.Goals.{then-dt, else-dt}
use Rattle.clock.proofs.pass_time.Goals as goal

pub returns : goal.returns
unfolding pass_time at_time with_clock with_edges
returns c =
    let flows = c.args.flows.now in
    let dt = c.args.until ⊖ flows.clock.now in
    elim c.if-dt.branch [
      | then-dt w ↦ let busy : w.gain_busy_all-flows.result ≡ map_from 0 (λ e edge. gain_busy dt (crossings_by counts_in_loads (path_of flows) flows.in_flight e) edge) flows.edges = w.gain_busy_all-flows.ensures ∙ busy_by_load flows c.requires.places c.args.load.now c.requires.right dt in
          rw (w.flows-is, w.if-dt.true, ← busy)
      | else-dt w ↦ rw (w.flows-is, w.if-dt.false)
    ]
