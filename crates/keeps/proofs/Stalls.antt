-- A running sum never passes 2^107: there an amount up to 2^53 is less than half of the last place, and below it sums keep the order. So bytes moved and load
-- integrals stay in their range for good. Assumes nothing.
use mathlib.Core.Path.{◌≡◌, refl, sym, subst}
use Prim.Native.Nat.{ℕ, zero, suc, ◌^◌, ◌≤◌}
use native.Mathlib.Omega.{arith}
use mathlib.Core.Bool.{false}
use Rattle.std.proofs.Common.{pos}
use lib.Dec.{T}
use lib.Ieee.{Float, fin, binary64, add, mul, of_int, fits}
use Rattle.doubles.specs.Doubles.{◌⊕◌, ◌⊖◌, ◌⊗◌, ◌≼◌, whole, plain, Plain}
use Rattle.doubles.proofs.Binary64.{whole_plain}
use Rattle.doubles.proofs.Ordered.{le→exact, exact→le}
use Rattle.doubles.proofs.Left.{difference_under}
use Rattle.doubles.proofs.Signs.{difference_le_plain}
use Rattle.rules.specs.declared.Edge.{Edge}
use Rattle.rules.specs.Clock.{gain_moved, gain_busy}
use Rattle.rules.specs.Invariant.{Summed, ClockTime, SoundEdge}
use Rattle.doubles.proofs.Monotone.{plain_le_trans, count_le, stall, product_mono, product_under}

-- ---- the numbers, computed
top_plain : Plain (whole (2 ^ 107))
unfolding plain fits of_int
top_plain = record { is_plain = tt; is_held = tt }

top_is : whole (2 ^ 107) ≡ fin false 1 (pos 107)
unfolding of_int
top_is = refl

amount_is : whole (2 ^ 53) ≡ fin false 1 (pos 53)
unfolding of_int
amount_is = refl

top_stays_so : fin false 1 (pos 107) ⊕ fin false 1 (pos 53) ≡ fin false 1 (pos 107)
unfolding add
top_stays_so = refl

top_stays : whole (2 ^ 107) ⊕ whole (2 ^ 53) ≡ whole (2 ^ 107)
top_stays = rw (top_is, amount_is) top_stays_so

most_busy : whole 2048 ⊗ whole (2 ^ 40) ≡ whole (2 ^ 51)
unfolding mul of_int
most_busy = refl

-- ---- an amount added
pub summed : {x y : Float} → Summed x → Plain y → T (y ≼ whole (2 ^ 53)) → Summed (x ⊕ y)
summed {x} {y} s p h =
    let still = stall s.plain p top_plain (whole_plain (2 ^ 53) (omega arith)) s.bounded h top_stays in
    record { plain = still.0; bounded = still.1 }

pub moved_summed : {e : Edge} {moved : Float} → SoundEdge e → Plain moved → T (moved ≼ whole (2 ^ 53)) → SoundEdge (gain_moved moved e)
unfolding gain_moved
moved_summed s p h = record { capacity = s.capacity; moved = summed s.moved p h; busy = s.busy }

-- ---- crossings times seconds
-- the seconds between two clock times
pub elapsed : {now until : Float} → Plain now → ClockTime until → T (now ≼ until) → ClockTime (until ⊖ now)
elapsed {now} {until} p c h =
    let d : Plain (until ⊖ now) = difference_le_plain c.plain p h in
    let less : T (until ⊖ now ≼ until) = exact→le d c.plain (difference_under c.plain p (le→exact p c.plain h)) in
    record { plain = d; bounded = plain_le_trans d c.plain (whole_plain (2 ^ 40) (omega arith)) less c.bounded }

module _ (n : ℕ) {dt : Float} (few : n ≤ 2048) (c : ClockTime dt) where
  pub busy_plain : Plain (whole n ⊗ dt)
  busy_plain =
      product_under (whole_plain n (omega arith)) c.plain (whole_plain 2048 (omega arith)) (whole_plain (2 ^ 40) (omega arith)) (count_le binary64 n 2048 few (omega arith)) c.bounded
      (subst Plain (sym most_busy) (whole_plain (2 ^ 51) (omega arith)))

  pub busy_bound : T (whole n ⊗ dt ≼ whole (2 ^ 53))
  busy_bound =
      let under : T (whole n ⊗ dt ≼ whole 2048 ⊗ whole (2 ^ 40)) =
      product_mono (whole_plain n (omega arith)) c.plain (whole_plain 2048 (omega arith)) (whole_plain (2 ^ 40) (omega arith)) (count_le binary64 n 2048 few (omega arith)) c.bounded in
      plain_le_trans busy_plain (whole_plain (2 ^ 51) (omega arith)) (whole_plain (2 ^ 53) (omega arith)) (subst (λ (z : Float). T (whole n ⊗ dt ≼ z)) most_busy under)
      (count_le binary64 (2 ^ 51) (2 ^ 53) (omega arith) (omega arith))

pub busy_summed : (n : ℕ) {dt : Float} {e : Edge} → n ≤ 2048 → ClockTime dt → SoundEdge e → SoundEdge (gain_busy dt n e)
unfolding gain_busy
busy_summed zero few c s = s
busy_summed (suc n) few c s = record { capacity = s.capacity; moved = s.moved; busy = summed s.busy (busy_plain (suc n) few c) (busy_bound (suc n) few c) }
