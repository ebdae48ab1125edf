-- Each public contract decides its function: it says by an equation what comes back and what the buffer then holds. Assumes nothing.
use mathlib.Core.Path.{◌≡◌, sym, ap, ◌∙◌}
use Rattle.totals.specs.declared.PerKind.{PerKind}
use Rattle.flows.specs.Decided.{EachDecided}

-- a struct of three is decided by its fields
kinds_same : {A : Type 0} {z z' : PerKind A} → z.worker ≡ z'.worker → z.handoff ≡ z'.handoff → z.write ≡ z'.write → z ≡ z'
kinds_same {A} {z} {z'} a b c =
    ap (λ (x : A). record { worker = x; handoff = z.handoff; write = z.write }) a
    ∙ ap (λ (x : A). record { worker = z'.worker; handoff = x; write = z.write }) b
    ∙ ap (λ (x : A). record { worker = z'.worker; handoff = z'.handoff; write = x }) c

pub each_decided : EachDecided
each_decided = record {
  flows_new = λ κs a z z' e e' p q. p.0 ∙ sym q.0;
  flows_with_floor = λ κs a z z' e e' p q. p.0 ∙ sym q.0;
  transfer_free = λ κs a z z' e e' p q. p ∙ sym q;
  tolerance_new = λ κs a z z' e e' p q. p ∙ sym q;
  tolerance_eps = λ κs a z z' e e' p q. p ∙ sym q;
  add_edge = λ κs a z z' e e' p q. p.0 ∙ sym q.0;
  widen = λ κs a z z' e e' p q. p.0 ∙ sym q.0;
  cancel = λ κs a z z' e e' p q. p.0 ∙ sym q.0;
  submit_capped = λ κs a z z' e e' p q. p.0 ∙ sym q.0;
  submit = λ κs a z z' e e' p q. p.0 ∙ sym q.0;
  next_completion_delay = λ κs a z z' e e' p q. p.0 ∙ sym q.0;
  rate = λ κs a z z' e e' p q. p.0 ∙ sym q.0;
  bottleneck = λ κs a z z' e e' p q. p.0 ∙ sym q.0;
  settle = λ κs a z z' e e' p q. p.0 ∙ sym q.0;
  remaining = λ κs a z z' e e' p q. p ∙ sym q;
  estimate_new_capped = λ κs a z z' e e' p q. p ∙ sym q;
  estimate_new = λ κs a z z' e e' p q. p ∙ sym q;
  edge = λ κs a z z' e e' p q. p ∙ sym q;
  mean_in_flight = λ κs a z z' e e' p q. p ∙ sym q;
  contains = λ κs a z z' e e' p q. p ∙ sym q;
  advance = λ κs a z z' e e' p q. (p.0 ∙ sym q.0, p.1.0 ∙ sym q.1.0);
  take_completed = λ κs a z z' e e' p q. (p.0 ∙ sym q.0, p.1.0 ∙ sym q.1.0);
  owners_with_completions = λ κs a z z' e e' p q. (p.0 ∙ sym q.0, p.1 ∙ sym q.1);
  make = λ κs a z z' e e' p q. (p.0 ∙ sym q.0, p.1.0 ∙ sym q.1.0);
  now = λ κs a z z' e e' p q. p ∙ sym q;
  rounds = λ κs a z z' e e' p q. p ∙ sym q;
  num_edges = λ κs a z z' e e' p q. p ∙ sym q;
  num_in_flight = λ κs a z z' e e' p q. p ∙ sym q;
  num_uncollected = λ κs a z z' e e' p q. p ∙ sym q;
  peak_in_flight = λ κs a z z' e e' p q. p ∙ sym q;
  totals = λ κs a z z' e e' p q. p ∙ sym q;
  submitted_counts = λ κs a z z' e e' p q. kinds_same (p.0 ∙ sym q.0) (p.1.0 ∙ sym q.1.0) (p.1.1 ∙ sym q.1.1);
  completed_counts = λ κs a z z' e e' p q. kinds_same (p.0 ∙ sym q.0) (p.1.0 ∙ sym q.1.0) (p.1.1 ∙ sym q.1.1);
  cancelled_counts = λ κs a z z' e e' p q. kinds_same (p.0 ∙ sym q.0) (p.1.0 ∙ sym q.1.0) (p.1.1 ∙ sym q.1.1);
  bytes_submitted = λ κs a z z' e e' p q. kinds_same (p.0 ∙ sym q.0) (p.1.0 ∙ sym q.1.0) (p.1.1 ∙ sym q.1.1);
}
