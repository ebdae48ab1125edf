-- The causes of each call stand by ascending number. Assumes nothing.
use Rattle.rules.specs.Promises.{CausesAscend}
use Rattle.rules.proofs.Everything.{everything}

pub causes_ascend : CausesAscend
unfolding everything
causes_ascend = record {
  with_floor = λ floor. tt;
  add_edge = λ capacity f. tt;
  widen = λ e amount f. tt;
  submit = λ id owner path bytes latency cap time f. tt;
  advance = λ time n f buffer. tt;
  estimate = λ path bytes latency cap f. tt;
  edge = λ e f. tt;
  mean = λ e until f. tt;
}
