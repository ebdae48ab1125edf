-- `recompute_rates` is the definition's start, its rounds until none is unfrozen, and the rates read off the seats. Assumes nothing.
use mathlib.Core.Path.{◌≡◌, ap, ◌∙◌}
use mathlib.Core.List.{map}
use Rattle.rules.specs.declared.Seat.{Seat}
use Rattle.rules.specs.Records.{own_path}
use Rattle.rules.specs.Filling.{Filling, num_unfrozen, rounds_until, recompute_rates}
use Rattle.rounds.specs.Standing.{filling}
use Rattle.filling.proofs.recompute_rates.Goals as goal

pub returns : goal.returns
unfolding recompute_rates
returns c =
    let whole : filling c.fill.new.f ≡ recompute_rates own_path c.args.edges.now c.args.in_flight.now = c.fill.ensures ∙ ap (λ (g : Filling). rounds_until own_path (num_unfrozen g) g) c.start-f.ensures.same in record { transfers = c.transfers.ensures ∙ ap (λ (g : Filling). map (λ (s : Seat). s.transfer) g.seats) whole; rounds = ap (λ (g : Filling). g.rounds) whole }
