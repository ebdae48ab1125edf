-- What holds of the filling of every simulator with the invariant holds of every filling in any history, since a drain to a time that a call may name keeps the invariant; and what the
-- last filling left matches the edges while it is up to date. Assumes nothing.
use mathlib.Core.List.{List}
use lib.Dec.{T}
use lib.Ieee.{Float, binary64, fits}
use Rattle.doubles.specs.Doubles.{read_zero}
use Rattle.rules.specs.declared.Flows.{Flows}
use Rattle.rules.specs.Lists.{all}
use Rattle.rules.specs.Clock.{drain_to}
use Rattle.rules.specs.Histories.{Turn, typed, run_with_floor}
use Rattle.rules.specs.Invariant.{Invariant}
use Rattle.rules.specs.Promises.{WhereverFilled, AlwaysFair, AlwaysExplained, AlwaysNobodySlower, AlwaysEnds, AlwaysLoaded, AlwaysMatched}
use Rattle.fairness.proofs.Start.{filling_ends}
use Rattle.fairness.proofs.Throughout.{loaded_throughout}
use Rattle.fairness.proofs.Fair.{fair_filling, explained_filling, nobody_slower}
use Rattle.keeps.proofs.Arguments.{time_clock, time_no_earlier}
use Rattle.keeps.proofs.Draining.{drain_to_keeps}
use Rattle.keeps.proofs.Always.{always_sound}
use Rattle.keeps.proofs.Matched.{matched}

always : (P : Flows → Type 0) → ((f : Flows) → Invariant f → P f) → (floor : Float) (turns : List Turn) → T (fits binary64 floor) → T (all typed turns) → WhereverFilled P (run_with_floor floor turns)
always P holds floor turns held t =
    let inv = always_sound floor turns held t in
    record {
      as_it_stands = holds (run_with_floor floor turns) inv;
      drained = λ to fit time later. holds (drain_to (read_zero to) (run_with_floor floor turns)) (drain_to_keeps inv (time_clock to fit time) (time_no_earlier to fit time inv.clock.plain later));
    }

pub always_fair : AlwaysFair
always_fair = always _ fair_filling

pub always_explained : AlwaysExplained
always_explained = always _ explained_filling

pub always_nobody_slower : AlwaysNobodySlower
always_nobody_slower = always _ (λ f inv. nobody_slower (explained_filling f inv).explained)

pub always_ends : AlwaysEnds
always_ends = always _ filling_ends

pub always_loaded : AlwaysLoaded
always_loaded = always _ loaded_throughout

pub always_matched : AlwaysMatched
always_matched floor turns held t fresh = matched (always_sound floor turns held t) fresh
