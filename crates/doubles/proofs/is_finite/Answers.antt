-- `doubles::is_finite` meets its contract: a double lies strictly between the two infinities exactly where it is a number. Assumes nothing.
use Rattle.std.proofs.Common.{◌≡◌, true, false, sym, refl}
use lib.Ieee.{Float, nan, inf, fin, lt, div, neg, of_bits}
use Rattle.doubles.specs.Doubles.{is_finite}
use Rattle.doubles.proofs.is_finite.Goals as goal

below_top : (x : Float) → lt x (inf false) ≡ true → lt (inf true) x ≡ is_finite x
unfolding lt is_finite
below_top nan h = refl
below_top (inf true) h = refl
below_top (inf false) h = sym h
below_top (fin s m e) h = refl

not_below_top : (x : Float) → lt x (inf false) ≡ false → lt x (inf false) ≡ is_finite x
unfolding lt is_finite
not_below_top nan h = refl
not_below_top (inf s) h = h
not_below_top (fin s m e) h = refl

pub returns-then-x-top : goal.returns-then-x-top
unfolding div neg of_bits
returns-then-x-top c = below_top c.args.x c.if-x-top.true

pub returns-else-x-top : goal.returns-else-x-top
unfolding div of_bits
returns-else-x-top c = not_below_top c.args.x c.if-x-top.false
