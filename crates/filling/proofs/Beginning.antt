-- A filling begins ready: seats keep the paths and caps of their slots, so what is asked of the slots holds of the seats. Assumes nothing.
use mathlib.Core.Path.{◌≡◌, refl, sym, ap, subst, ◌∙◌}
use mathlib.Core.Bool.{Bool, true, false, cond}
use mathlib.Core.List.{List, [], ◌∷◌}
use Prim.Native.Nat.{ℕ, suc}
use native.Mathlib.Omega.{arith}
use lib.ListN.{length, get_or}
use Rattle.std.specs.Array.{list_steps}
use Rattle.std.specs.Iterator.{Yields}
use Rattle.rules.specs.declared.Limit.TheVariants.{Nowhere}
use Rattle.rules.specs.declared.Edge.{Edge}
use Rattle.rules.specs.declared.Route.{Route}
use Rattle.rules.specs.declared.Transfer.{Transfer}
use Rattle.rules.specs.declared.Seat.{Seat}
use Rattle.rules.specs.Records.{free, own_path}
use Rattle.rules.specs.Filling.{takes_part, with_rate, lone_rate, entered, seat, start, seat_at}
use Rattle.rules.specs.Invariant.{SoundRoute, SoundCap}
use Rattle.fairness.specs.Ready.{Ready}
use Rattle.fairness.proofs.Reading.{Steady}
use Rattle.fairness.proofs.Start.{start_seat, start_ready, own_path_known}
use Rattle.filling.specs.Filled.{Fillable}

-- what a walk over a list comes to is one of its elements
pub comes_to : {A : Type 0} (xs ys t : List A) (x : A) (u : List A) (d : A) → Yields list_steps xs ys t → t ≡ x ∷ u → (i : ℕ) × (get_or xs i d ≡ x)
comes_to xs [] t x u d y e = (0, rw (y, e) refl)
comes_to xs (z ∷ ys) t x u d y e = let later = comes_to y.0 ys t x u d y.2 e in (suc later.0, rw y.1 later.1)

-- a seat keeps of its transfer what a rate does not change
module _ {A : Type 0} (g : Transfer → A) (kept : Steady g) where
  entered_keeps : (p : List ℕ) (t : Transfer) → g (entered p t).transfer ≡ g t
  unfolding entered
  entered_keeps [] t = kept (lone_rate t.rate_cap) Nowhere t
  entered_keeps (e ∷ p) t = refl

  seat_keeps : (t : Transfer) → g (seat own_path t).transfer ≡ g t
  unfolding seat
  seat_keeps t = go (takes_part t)
    where
      go : (b : Bool) → g (cond b (entered (own_path t) t) (record { transfer = with_rate t.rate Nowhere t; unfrozen = false })).transfer ≡ g t
      go true = entered_keeps (own_path t) t
      go false = kept t.rate Nowhere t

module _ (edges : List Edge) (slots : List Transfer) (fillable : Fillable slots) where
  pub paths_begin : (i : ℕ) → SoundRoute 64 (seat_at (start own_path edges slots) i).transfer.path
  unfolding with_rate
  paths_begin i =
      subst (λ (p : Route). SoundRoute 64 p)
      (sym (ap (λ (s : Seat). s.transfer.path) (start_seat own_path edges slots i) ∙ seat_keeps (λ t. t.path) (λ rate limit t. refl) (get_or slots i free)))
      (fillable.paths i)

  pub caps_begin : (i : ℕ) → SoundCap (seat_at (start own_path edges slots) i).transfer.rate_cap
  unfolding with_rate
  caps_begin i =
      subst SoundCap
      (sym (ap (λ (s : Seat). s.transfer.rate_cap) (start_seat own_path edges slots i) ∙ seat_keeps (λ t. t.rate_cap) (λ rate limit t. refl) (get_or slots i free)))
      (fillable.caps i)

  pub ready_begin : length edges ≡ 64 → Ready own_path (start own_path edges slots)
  ready_begin all = start_ready own_path edges slots (λ i takes k h. omega (arith, all, own_path_known 64 (get_or slots i free) (fillable.paths i) k h))
