-- `settled` drains and then brings rates up to date, which moves nobody. Assumes nothing.
use mathlib.Core.Path.{◌≡◌, ap, ◌∙◌}
use Rattle.rules.specs.Clock.{ensure_rates, settled}
use Rattle.keeps.proofs.Draining.{settled_at_clock}
use Rattle.advance.proofs.settled.Goals as goal

pub returns : goal.returns
returns c =
    let args = c.args in
    let e : c.ensure_rates.new.flows ≡ settled args.until args.flows.now = c.ensure_rates.ensures.exactly ∙ ap ensure_rates c.drain_to.ensures.exactly in record { exactly = e; sound = c.ensure_rates.ensures.sound; drained = rw e (settled_at_clock c.requires.sound c.requires.time c.requires.later) }
