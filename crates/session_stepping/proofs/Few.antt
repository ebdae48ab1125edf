-- An advance lists no more than its buffer holds. Assumes nothing.
use Rattle.std.proofs.Common.{◌≡◌, ℕ, ◌*◌, ◌≤◌, List, length, arith}
use lib.Ieee.{Float}
use Rattle.rules.specs.declared.Answer.TheVariants.{Listed}
use Rattle.rules.specs.declared.Outcome.{Outcome}
use Rattle.rules.specs.declared.Flows.{Flows}
use Rattle.rules.specs.Advance.{advance}
use Rattle.flows.specs.Fits.{Fits}
use Rattle.flows.proofs.Fitting.{advance_fits}

pub few_listed : (time : Float) (f : Flows) (buffer : List ℕ) {o : Outcome} {n : ℕ} → o ≡ (advance time f buffer).outcome → o.answer ≡ Listed n → 3 * n ≤ length buffer
unfolding Fits
few_listed time f buffer {o} {n} e is = let h : Fits 3 (length buffer) o.answer = rw e (advance_fits time f buffer) in let m : n * 3 ≤ length buffer = rw is at h in omega (arith, m)
