-- The answer on the time left means what it says, since an id stands in one slot and the time to done there is of one of three kinds. Assumes nothing.
use Prim.Native.Nat.{ℕ}
use native.Mathlib.Omega.{arith}
use mathlib.Core.Path.{◌≡◌, refl, sym, ap, ◌∙◌, subst}
use mathlib.Core.Logic.Iff
use mathlib.Core.Logic.{◌⊎◌, ◌↔◌, inl, inr}
use mathlib.Core.Bool.{Bool, true, false, true≢false}
use lib.Dec.{T, T_not}
use lib.ListN.{get_or}
use lib.Ieee.{Float}
use Rattle.doubles.specs.Doubles.{◌≺◌, nought, Plain}
use Rattle.rules.specs.declared.Delay.{Delay}
use Rattle.rules.specs.declared.Delay.TheVariants.{After, Never}
use Rattle.rules.specs.declared.Transfer.{Transfer}
use Rattle.rules.specs.declared.Answer.{Answer}
use Rattle.rules.specs.declared.Answer.TheVariants.{Done, Added, Listed, Nothing, Unknown, CannotFinish, Value, Due, Limited, Refused}
use Rattle.rules.specs.declared.Flows.{Flows}
use Rattle.rules.specs.Records.{free, contains}
use Rattle.rules.specs.Done.{done_eps, is_done, time_to_done}
use Rattle.rules.specs.TimeLeft.{or_cannot_finish, remaining_in, remaining}
use Rattle.rules.specs.Told.{told_answer}
use Rattle.rules.specs.Invariant.{Invariant}
use Rattle.rules.specs.Promises.{InFlight, TellsTimeLeft, TimeLeftTold}
use Rattle.slots.specs.declared.Lookup.{Lookup}
use Rattle.slots.specs.declared.Lookup.TheVariants.{Slot, Nowhere}
use Rattle.slots.specs.Lookup.{lookup}
use Rattle.slots.proofs.Found.{Missing, Found, nowhere, somewhere, holds_id, one_slot}
use Rattle.time_left.proofs.Stalled.{Stalled}
use Rattle.time_left.proofs.Times.{not_nought, eps_plain, eps_above, Time, now, later, never, time_is}

-- ---- answers told apart
which : Answer → ℕ
which a = get_or (told_answer a) 0 0

seconds : Answer → Float
seconds Done = nought
seconds (Added n) = nought
seconds (Listed n) = nought
seconds Nothing = nought
seconds Unknown = nought
seconds CannotFinish = nought
seconds (Value x) = x
seconds (Due d) = nought
seconds (Limited l) = nought
seconds (Refused n) = nought

is_never : Delay → Bool
is_never (After x) = false
is_never Never = true

value_known : {x : Float} → Value x ≡ Unknown → ⊥
unfolding which told_answer
value_known e = let h : ◌≡◌ {A = ℕ} 6 4 = ap which e in omega arith

value_finishes : {x : Float} → Value x ≡ CannotFinish → ⊥
unfolding which told_answer
value_finishes e = let h : ◌≡◌ {A = ℕ} 6 5 = ap which e in omega arith

stalled_known : CannotFinish ≡ Unknown → ⊥
unfolding which told_answer
stalled_known e = let h : ◌≡◌ {A = ℕ} 5 4 = ap which e in omega arith

after_comes : {x : Float} → After x ≡ Never → ⊥
unfolding is_never
after_comes e = true≢false (sym (ap is_never e))

-- ---- of one transfer
record Tells (eps : Float) (t : Transfer) (d : Delay) : Type 0 where
  pub known : or_cannot_finish d ≡ Unknown → ⊥
  pub done : (or_cannot_finish d ≡ Value nought) ↔ T (is_done eps t)
  pub others_above : (x : Float) → or_cannot_finish d ≡ Value x → (x ≡ nought) ⊎ T (eps ≺ x)
  pub never : (or_cannot_finish d ≡ CannotFinish) ↔ (d ≡ Never)
  pub stalled : (or_cannot_finish d ≡ CannotFinish) ↔ Stalled t

tells : {eps : Float} {t : Transfer} {d : Delay} → Plain eps → T (nought ≺ eps) → Time eps t d → Tells eps t d
unfolding or_cannot_finish seconds
tells plain above (now done flows) = record {
  known = value_known;
  done = (λ e. done, λ h. refl);
  others_above = λ x e. inl (sym (ap seconds e));
  never = (λ e. absurd (value_finishes e), λ e. absurd (after_comes e));
  stalled = (λ e. absurd (value_finishes e), λ s. absurd (flows s));
}
tells {eps} {t} plain above (later {x = x} undone flows more) = record {
  known = value_known;
  done = (λ e. absurd (not_nought plain above (subst (λ (z : Float). T (eps ≺ z)) (ap seconds e) more)), λ h. absurd (T_not (is_done eps t) undone h));
  others_above = λ y e. inr (subst (λ (z : Float). T (eps ≺ z)) (ap seconds e) more);
  never = (λ e. absurd (value_finishes e), λ e. absurd (after_comes e));
  stalled = (λ e. absurd (value_finishes e), λ s. absurd (flows s));
}
tells {eps} {t} plain above (never undone stalled) = record {
  known = stalled_known;
  done = (λ e. absurd (value_finishes (sym e)), λ h. absurd (T_not (is_done eps t) undone h));
  others_above = λ x e. absurd (value_finishes (sym e));
  never = (λ e. refl, λ e. refl);
  stalled = (λ e. stalled, λ s. refl);
}

-- ---- of a simulator
module _ {f : Flows} (inv : Invariant f) (id : ℕ) where
  -- nobody has the id
  missing : Missing id f.in_flight → TellsTimeLeft id f Unknown
  unfolding contains
  missing m = record {
    unknown = (λ e. m.none_has, λ e. refl);
    done = (λ e. absurd (value_known (sym e)), λ w. absurd (nobody w));
    others_above = λ x e. absurd (value_known (sym e));
    eps_above = eps_above inv;
    never = (λ e. absurd (stalled_known (sym e)), λ w. absurd (nobody w));
    stalled = (λ e. absurd (stalled_known (sym e)), λ w. absurd (nobody w));
  }
    where
      nobody : {P : Transfer → Type 0} → InFlight id f P → ⊥
      nobody w = true≢false (sym w.has ∙ m.nobody w.slot)

  -- the transfer in slot i has it
  module _ (i : ℕ) (found : Found id f.in_flight i) where
    abbrev t : Transfer
    t = get_or f.in_flight i free

    here : {P : Transfer → Type 0} → P t ↔ InFlight id f P
    here {P} = (
      λ p. record { slot = i; has = found.holds; holds = p },
      λ w. subst (λ (k : ℕ). P (get_or f.in_flight k free)) (one_slot inv id w.slot i w.has found.holds) w.holds,
    )

    told : Tells (done_eps f) t (time_to_done (done_eps f) t)
    told = tells (eps_plain inv) (eps_above inv) (time_is ((inv.slots i).held (holds_id id t found.holds).0) (eps_plain inv))

    in_flight : TellsTimeLeft id f (or_cannot_finish (time_to_done (done_eps f) t))
    unfolding contains
    in_flight = record {
      unknown = (λ e. absurd (told.known e), λ e. absurd (true≢false (sym found.some_has ∙ e)));
      done = Iff.trans told.done here;
      others_above = told.others_above;
      eps_above = eps_above inv;
      never = Iff.trans told.never here;
      stalled = Iff.trans told.stalled here;
    }

  remaining_told : TellsTimeLeft id f (remaining_in id (done_eps f) f.in_flight)
  unfolding remaining_in
  remaining_told = go (lookup id f.in_flight) refl
    where
      go : (l : Lookup) → lookup id f.in_flight ≡ l → TellsTimeLeft id f (remaining_in id (done_eps f) f.in_flight)
      go Nowhere e = let m = nowhere id f.in_flight e in subst (TellsTimeLeft id f) (sym (m.of_none Unknown _)) (missing m)
      go (Slot i) e = let w = somewhere id f.in_flight i e in subst (TellsTimeLeft id f) (sym (w.of_some Unknown _)) (in_flight i w)

pub time_left_told : TimeLeftTold
unfolding remaining
time_left_told id f inv = remaining_told inv id
