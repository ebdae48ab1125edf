-- After any history of calls the invariant holds, since a simulator as it is made keeps it and every call does. Assumes nothing.
use Prim.Native.Nat.{ℕ}
use mathlib.Core.Bool.{◌&&◌}
use mathlib.Core.List.{List, [], ◌∷◌}
use lib.Dec.{T}
use lib.Ieee.{binary64, fits}
use lib.Ieee.Fits.{and_l, and_r}
use Rattle.rules.specs.declared.Flows.{Flows}
use Rattle.rules.specs.declared.Call.{Call}
use Rattle.rules.specs.declared.Call.TheVariants.{Advance, Submit, Cancel, AddEdge, Widen, TakeCompleted, OwnersWithCompletions, NextCompletionDelay, EstimateNew, Settle, Remaining, MeanInFlight, Rate, Bottleneck, Edge, Contains, Rounds}
use Rattle.rules.specs.Lists.{all}
use Rattle.rules.specs.Floors.{with_floor}
use Rattle.rules.specs.Histories.{typed_cap, typed_call, call, Turn, typed, after, run}
use Rattle.rules.specs.Promises.{AlwaysSound}
use Rattle.rules.specs.Invariant.{Invariant}
use Rattle.rules.proofs.Fresh.{with_floor_keeps}
use Rattle.keeps.proofs.Calls as Keeps

pub call_keeps : (c : Call) (path : List ℕ) (f : Flows) (buffer : List ℕ) → T (typed_call c) → Invariant f → Invariant (call c path f buffer).made.flows
unfolding call typed_call
call_keeps (Advance time) path f buffer t inv = Keeps.advance_keeps time f buffer t inv
call_keeps (Submit s) path f buffer t inv =
    let rest = and_r (fits binary64 s.latency) (typed_cap s.cap && fits binary64 s.time) t in
    Keeps.submit_capped_keeps s.id s.owner path s.bytes s.latency s.cap s.time f (and_l (fits binary64 s.latency) (typed_cap s.cap && fits binary64 s.time) t) (and_l (typed_cap s.cap) (fits binary64 s.time) rest) (and_r (typed_cap s.cap) (fits binary64 s.time) rest) inv
call_keeps (Cancel id) path f buffer t inv = Keeps.cancel_keeps id f inv
call_keeps (AddEdge capacity) path f buffer t inv = Keeps.add_edge_keeps capacity f t inv
call_keeps (Widen e amount) path f buffer t inv = Keeps.widen_keeps e amount f t inv
call_keeps (TakeCompleted owner) path f buffer t inv = Keeps.take_completed_keeps owner f buffer inv
call_keeps OwnersWithCompletions path f buffer t inv = Keeps.owners_with_completions_keeps f buffer inv
call_keeps NextCompletionDelay path f buffer t inv = Keeps.next_completion_delay_keeps f inv
call_keeps (EstimateNew e) path f buffer t inv = inv
call_keeps Settle path f buffer t inv = Keeps.settle_keeps f inv
call_keeps (Remaining id) path f buffer t inv = inv
call_keeps (MeanInFlight e until) path f buffer t inv = inv
call_keeps (Rate id) path f buffer t inv = Keeps.rate_keeps id f inv
call_keeps (Bottleneck id) path f buffer t inv = Keeps.bottleneck_keeps id f inv
call_keeps (Edge e) path f buffer t inv = inv
call_keeps (Contains id) path f buffer t inv = inv
call_keeps Rounds path f buffer t inv = inv

pub turn_keeps : (t : Turn) (f : Flows) → T (typed t) → Invariant f → Invariant (after t f).made.flows
turn_keeps t f h inv = call_keeps t.call t.path f t.buffer h inv

pub run_keeps : (f : Flows) (turns : List Turn) → T (all typed turns) → Invariant f → Invariant (run f turns)
unfolding run all
run_keeps f [] h inv = inv
run_keeps f (t ∷ turns) h inv = run_keeps (after t f).made.flows turns (and_r (typed t) (all typed turns) h) (turn_keeps t f (and_l (typed t) (all typed turns) h) inv)

pub always_sound : AlwaysSound
always_sound floor turns held t = run_keeps (with_floor floor).flows turns t (with_floor_keeps floor held)
