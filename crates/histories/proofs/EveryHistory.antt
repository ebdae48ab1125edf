-- After every history of calls the simulator agrees with the notes of whoever listened, since one as it is made does and each call keeps it so; and where they agree, the
-- invariant's balance is the notes'. Assumes nothing.
use mathlib.Core.Path.{◌≡◌, refl, sym, ap}
use mathlib.Core.List.{List, [], ◌∷◌}
use native.Mathlib.Omega.{arith}
use lib.Dec.{T}
use lib.Ieee.{Float, binary64, fits}
use lib.Ieee.Fits.{and_l, and_r}
use Rattle.rules.specs.declared.Owner.{Owner}
use Rattle.rules.specs.declared.Owner.TheVariants.{Worker, Handoff, Write}
use Rattle.rules.specs.declared.Outcome.{Outcome}
use Rattle.rules.specs.declared.Tally.{Tally}
use Rattle.rules.specs.declared.Flows.{Flows}
use Rattle.rules.specs.Lists.{count, all}
use Rattle.rules.specs.Records.{fresh, no_tally, owner_kind, tally_of, with_tolerance}
use Rattle.rules.specs.Refusals.{refused}
use Rattle.rules.specs.Floors.{floor_causes, with_floor}
use Rattle.rules.specs.Histories.{Turn, typed, after, run, run_with_floor}
use Rattle.rules.specs.Invariant.{Invariant, of_kind}
use Rattle.rules.specs.Tallies.{Ledger, nothing_noted, noted, notes, ledger, kind_of, open_of}
use Rattle.rules.specs.Promises.{AlwaysTallied}
use Rattle.rules.proofs.Fresh.{with_floor_keeps}
use Rattle.keeps.proofs.Refusing.{refused_or}
use Rattle.keeps.proofs.Always.{turn_keeps, always_sound}
use Rattle.histories.proofs.Agreement.{Agrees}
use Rattle.histories.proofs.Noted.{noted_agrees}

-- ---- at the start

fresh_tally : (owner : Owner) → tally_of owner fresh.totals ≡ no_tally
unfolding tally_of
fresh_tally (Worker n) = refl
fresh_tally Handoff = refl
fresh_tally Write = refl

fresh_agrees : Agrees fresh nothing_noted
unfolding count
fresh_agrees = record {
  submitted = λ owner. ap (λ (y : Tally). y.submitted) (fresh_tally owner);
  completed = λ owner. ap (λ (y : Tally). y.completed) (fresh_tally owner);
  cancelled = λ owner. ap (λ (y : Tally). y.cancelled) (fresh_tally owner);
  in_flight = λ p. refl;
}

-- whatever its floor
made_agrees : (floor : Float) → Agrees (with_floor floor).flows nothing_noted
unfolding with_floor with_tolerance
made_agrees floor =
    refused_or (λ (o : Outcome). Agrees o.flows nothing_noted) (floor_causes floor) (refused fresh) _ (λ n. fresh_agrees)
    (λ none. record { submitted = fresh_agrees.submitted; completed = fresh_agrees.completed; cancelled = fresh_agrees.cancelled; in_flight = fresh_agrees.in_flight })

-- ---- after every history

notes_agree : (turns : List Turn) → T (all typed turns) → (f : Flows) (l : Ledger) → Invariant f → Agrees f l → Agrees (run f turns) (notes f turns l)
unfolding all run notes
notes_agree [] h f l inv a = a
notes_agree (t ∷ turns) h f l inv a =
    let fit = and_l (typed t) (all typed turns) h in
    let left = after t f in
    notes_agree turns (and_r (typed t) (all typed turns) h) left.made.flows (noted t.call left.made.said left.buffer l) (turn_keeps t f fit inv) (noted_agrees t f l fit inv a)

-- whatever is asked of the entries in flight, the slots answer alike
pub always_agrees : (floor : Float) (turns : List Turn) → T (fits binary64 floor) → T (all typed turns) → Agrees (run_with_floor floor turns) (ledger floor turns)
always_agrees floor turns held h = notes_agree turns h (with_floor floor).flows nothing_noted (with_floor_keeps floor held) (made_agrees floor)

agrees_by_kind : {f : Flows} {l : Ledger} → Agrees f l → (owner : Owner) → count (of_kind (owner_kind owner)) f.in_flight ≡ open_of owner l.in_flight
unfolding of_kind
agrees_by_kind {f} a owner = sym (a.in_flight (λ e. kind_of owner e.kind))

-- for each kind of owner, the notes balance and the counters say what they say
pub always_tallied : AlwaysTallied
always_tallied floor turns held h owner =
    let a = always_agrees floor turns held h in
    let balanced = ((always_sound floor turns held h).balanced owner).accounted in
    let by_kind = agrees_by_kind a owner in
    record {
      balance = omega (arith, balanced, by_kind, a.submitted owner, a.completed owner, a.cancelled owner);
      submitted = a.submitted owner;
      completed = a.completed owner;
      cancelled = a.cancelled owner;
      in_flight = by_kind;
    }
