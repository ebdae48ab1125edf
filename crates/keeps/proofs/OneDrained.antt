-- What draining one transfer keeps: who it is, its path, cap and rate; latency and bytes stay plain and do not grow; what flows is plain and no more than was left.
-- Assumes nothing.
use mathlib.Core.Path.{◌≡◌, refl, sym, ◌∙◌}
use mathlib.Core.Bool.{true, false, ◌&&◌, cond}
use Prim.Native.Nat.{◌^◌, ◌≤◌}
use native.Mathlib.Nat.{le_refl}
use native.Mathlib.Omega.{arith}
use lib.Dec.{T}
use lib.Ieee.{Float}
use lib.Ieee.Fits.{and_l, and_r}
use Rattle.doubles.specs.Doubles.{◌⊖◌, ◌⊗◌, ◌≺◌, ◌≼◌, nought, whole, Plain, Nonneg}
use Rattle.doubles.proofs.Binary64.{whole_plain, times_nonneg}
use Rattle.doubles.proofs.Ordered.{exact→le}
use Rattle.doubles.proofs.Left.{difference_under}
use Rattle.doubles.proofs.Signs.{plain_nonneg, difference_le_plain}
use Rattle.doubles.proofs.Chosen.{smaller_second_plain, smaller_second_under, rest_first_plain, rest_second_plain}
use Rattle.rules.specs.declared.Transfer.{Transfer}
use Rattle.rules.specs.declared.Flows.{Flows}
use Rattle.rules.specs.Clock.{latency_paid, flowing_time, moves, bytes_flowing, drained}
use Rattle.rules.specs.Invariant.{SoundTransfer, SoundSlot}
use Rattle.rules.proofs.Conds.{by_test, by_true}
use Rattle.doubles.proofs.Monotone.{plain_le_trans}
use Rattle.rules.proofs.Routes.{route_more}

-- ---- what is no business of a drain
pub record Same (t u : Transfer) : Type 0 where
  pub taken : u.taken ≡ t.taken
  pub id : u.id ≡ t.id
  pub owner : u.owner ≡ t.owner
  pub path : u.path ≡ t.path
  pub cap : u.rate_cap ≡ t.rate_cap
  pub rate : u.rate ≡ t.rate

pub drained_same : (until : Float) (t : Transfer) → Same t (drained until t)
unfolding drained
drained_same until t =
    by_test (Same t) t.taken (λ _. record { taken = refl; id = refl; owner = refl; path = refl; cap = refl; rate = refl })
    (record { taken = refl; id = refl; owner = refl; path = refl; cap = refl; rate = refl })

-- a free slot is not touched
pub drained_free : (until : Float) (t : Transfer) → t.taken ≡ false → drained until t ≡ t
unfolding drained
drained_free until t e = rw e

-- ---- a sound transfer, and a time that the last drain does not pass
module _ {f : Flows} {t : Transfer} {until : Float} (s : SoundTransfer f t) (d : Plain f.clock.last_drain) (p : Plain until) (h : T (f.clock.last_drain ≼ until)) where
  since : Plain (until ⊖ t.last_update)
  since = rw s.updated (difference_le_plain p d h)

  pub latency_plain : Plain (t.latency_remaining ⊖ latency_paid until t)
  unfolding latency_paid
  latency_plain = rest_first_plain s.latency (plain_nonneg since)

  pub flowing_plain : Plain (flowing_time until t)
  unfolding flowing_time latency_paid
  flowing_plain = rest_second_plain since (plain_nonneg s.latency)

  -- where it moves
  module _ (m : T (moves until t)) where
    time_flows : T (nought ≺ flowing_time until t)
    unfolding moves
    time_flows = and_l (nought ≺ flowing_time until t) (nought ≺ t.rate && nought ≺ t.bytes_remaining) (and_r t.taken (nought ≺ flowing_time until t && (nought ≺ t.rate && nought ≺ t.bytes_remaining)) m)

    flow : Nonneg (t.rate ⊗ flowing_time until t)
    flow = times_nonneg s.rate flowing_plain time_flows

    pub flow_plain : Plain (bytes_flowing until t)
    unfolding bytes_flowing
    flow_plain = smaller_second_plain s.bytes flow

    pub flow_under : T (bytes_flowing until t ≼ t.bytes_remaining)
    unfolding bytes_flowing
    flow_under = exact→le flow_plain s.bytes (smaller_second_under s.bytes flow)

    pub flow_bound : T (bytes_flowing until t ≼ whole (2 ^ 53))
    flow_bound = plain_le_trans flow_plain s.bytes (whole_plain (2 ^ 53) (omega arith)) flow_under s.bytes_bound

    rest_plain : Plain (t.bytes_remaining ⊖ bytes_flowing until t)
    unfolding bytes_flowing
    rest_plain = rest_second_plain s.bytes flow

    rest_falls : T (t.bytes_remaining ⊖ bytes_flowing until t ≼ t.bytes_remaining)
    unfolding bytes_flowing
    rest_falls = exact→le rest_plain s.bytes (difference_under s.bytes flow_plain (smaller_second_under s.bytes flow))

  -- ---- the transfer afterwards
  pub bytes_plain : Plain (cond (moves until t) (t.bytes_remaining ⊖ bytes_flowing until t) t.bytes_remaining)
  bytes_plain = by_test Plain (moves until t) rest_plain s.bytes

  pub bytes_fall : T (cond (moves until t) (t.bytes_remaining ⊖ bytes_flowing until t) t.bytes_remaining ≼ t.bytes_remaining)
  bytes_fall = by_test (λ (x : Float). T (x ≼ t.bytes_remaining)) (moves until t) rest_falls (exact→le s.bytes s.bytes (le_refl _))

  -- it is sound in a simulator with no fewer edges that was last drained at that time
  pub drained_sound : (g : Flows) → f.num_edges ≤ g.num_edges → g.clock.last_drain ≡ until → t.taken ≡ true → SoundTransfer g (drained until t)
  unfolding drained
  drained_sound g more at e =
      by_true (SoundTransfer g) t.taken t e
      (record {
        path = route_more more s.path;
        latency = latency_plain;
        bytes = bytes_plain;
        bytes_bound = plain_le_trans bytes_plain s.bytes (whole_plain (2 ^ 53) (omega arith)) bytes_fall s.bytes_bound;
        cap = s.cap;
        rate = s.rate;
        rate_finite = s.rate_finite;
        updated = sym at;
      })

-- ---- slots
pub slot_kept : {f : Flows} {t : Transfer} (g : Flows) (until : Float) → Plain f.clock.last_drain → Plain until → T (f.clock.last_drain ≼ until) → f.num_edges ≤ g.num_edges → g.clock.last_drain ≡ until → SoundSlot f t → SoundSlot g (drained until t)
slot_kept {f} {t} g until d p h more at s =
    record {
      held = λ e. let taken : t.taken ≡ true = sym (drained_same until t).taken ∙ e in
          drained_sound (s.held taken) d p h g more at taken;
      blank = λ e. let left : t.taken ≡ false = sym (drained_same until t).taken ∙ e in
          drained_free until t left ∙ s.blank left;
    }
