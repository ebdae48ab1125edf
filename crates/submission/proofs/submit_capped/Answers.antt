-- `submit_capped` asks of the arguments in the order of the numbers and leaves the rest to `start`, which goes on in that order. Assumes nothing.
use native.Mathlib.Omega.{arith}
use Prim.Native.Nat.{◌^◌}
use borrow.Author.Rules.{rules}
use borrow.Author.Tests.{lt-ltb, le-ltb}
use denote.Floats.{passes}
use lib.Dec.{T}
use lib.Ieee.{binary64, fits}
use lib.ListN.{length}
use mathlib.Core.Bool.{◌||◌}
use mathlib.Core.Path.{◌≡◌, sym, ◌∙◌}
use Rattle.doubles.specs.Doubles.{read_zero}
use Rattle.keeps.proofs.Arguments.{time_clock, time_no_earlier}
use Rattle.keeps.proofs.Calls.{submit_capped_keeps}
use Rattle.keeps.proofs.Refusing.{neither}
use Rattle.rules.specs.Submission.{submitted_transfer, submit_capped, submitted}
use Rattle.rules.specs.Refusals.{refusing, not_finite, not_a_cap, not_a_time, no_such_edge, too_long}
use Rattle.submission.proofs.Typed.{cap_typed}
use Rattle.starting.specs.Started.{start}
use Rattle.submission.proofs.submit_capped.Goals as goal

pub returns-then-not_numbers : goal.returns-then-not_numbers
unfolding submit_capped refusing no_such_edge too_long
returns-then-not_numbers c = record {
  exactly = rw (
    c.refused.ensures,
    ← c.not_numbers.ensures,
    c.if-not_numbers.true,
  );
  sound = rw c.refused.ensures c.requires;
}

pub returns-then-time-flows : goal.returns-then-time-flows
unfolding submit_capped refusing no_such_edge too_long
returns-then-time-flows c = record {
  exactly = rw (
    c.refused-then-time-flows.ensures,
    ← c.not_numbers.ensures,
    c.if-not_numbers.false,
    c.if-time-flows.true,
  );
  sound = rw c.refused-then-time-flows.ensures c.requires;
}

pub returns-then-names_no_edge : goal.returns-then-names_no_edge
unfolding submit_capped refusing no_such_edge too_long
returns-then-names_no_edge c = record {
  exactly = rw (
    c.refused-then-names_no_edge.ensures,
    ← c.not_numbers.ensures,
    c.if-not_numbers.false,
    c.if-time-flows.false,
    ← c.names_no_edge.ensures,
    c.if-names_no_edge.true,
  );
  sound = rw c.refused-then-names_no_edge.ensures c.requires;
}

pub returns-then-path-gt8 : goal.returns-then-path-gt8
unfolding submit_capped refusing no_such_edge too_long
returns-then-path-gt8 c = record {
  exactly = rw (
    c.refused-then-path-gt8.ensures,
    ← c.not_numbers.ensures,
    c.if-not_numbers.false,
    c.if-time-flows.false,
    ← c.names_no_edge.ensures,
    c.if-names_no_edge.false,
    lt-ltb 8 (length c.args.path.now) (omega (arith, c.if-path-gt8.true)),
  );
  sound = rw c.refused-then-path-gt8.ensures c.requires;
}

pub returns-then-bytes-gt9007199254740992 : goal.returns-then-bytes-gt9007199254740992
unfolding submit_capped refusing no_such_edge too_long
returns-then-bytes-gt9007199254740992 c = record {
  exactly = rw (
    c.refused-then-bytes-gt9007199254740992.ensures,
    ← c.not_numbers.ensures,
    c.if-not_numbers.false,
    c.if-time-flows.false,
    ← c.names_no_edge.ensures,
    c.if-names_no_edge.false,
    le-ltb 8 (length c.args.path.now) (omega (arith, c.if-path-gt8.false)),
    lt-ltb (2 ^ 53) c.args.bytes (omega (arith, c.if-bytes-gt9007199254740992.true)),
  );
  sound = rw c.refused-then-bytes-gt9007199254740992.ensures c.requires;
}

pub start-requires : goal.start-requires
unfolding submitted_transfer
start-requires c =
    let at = c.args.time in
    let typed : T (fits binary64 at) = search rules in
    let time = (neither (not_finite c.args.latency || not_a_cap c.args.rate_cap) (not_a_time at) (sym c.not_numbers.ensures ∙ c.if-not_numbers.false)).1 in
    let own_time : c.submitted_transfer-transfer.result.last_update ≡ read_zero at = rw c.submitted_transfer-transfer.ensures in record { sound = c.requires; time = rw own_time (time_clock at typed time); later = rw own_time (time_no_earlier at typed time c.requires.clock.plain c.if-time-flows.false) }

pub returns : goal.returns
unfolding submit_capped refusing no_such_edge too_long submitted start submitted_transfer
returns c =
    let a = c.args in
    let good = c.well_formed.1.1.1.1.1 in
    let is : c.start.result ≡ submit_capped a.id a.owner a.path.now a.bytes a.latency a.rate_cap a.time a.flows =
    rw (
      c.start.ensures,
      c.submitted_transfer-transfer.ensures,
      ← c.not_numbers.ensures,
      c.if-not_numbers.false,
      c.if-time-flows.false,
      ← c.names_no_edge.ensures,
      c.if-names_no_edge.false,
      le-ltb 8 (length c.args.path.now) (omega (arith, c.if-path-gt8.false)),
      le-ltb (2 ^ 53) c.args.bytes (omega (arith, c.if-bytes-gt9007199254740992.false)),
    ) in record { exactly = is; sound = rw is (submit_capped_keeps a.id a.owner a.path.now a.bytes a.latency a.rate_cap a.time a.flows (passes _ good.0.1) (cap_typed _ _ good.1.0) (passes _ good.1.1.0.1) c.requires) }
