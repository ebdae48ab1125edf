-- A tally put through a change: that owner's kind has it, the other kinds have what they had, and nothing else of the simulator moves. Assumes nothing.
use Prim.Native.Nat.{ℕ, zero, suc}
use mathlib.Core.Path.{◌≡◌, refl, sym, ap, ◌∙◌}
use mathlib.Core.Bool.{true, false}
use lib.Dec.{eqb}
use Rattle.rules.specs.declared.Owner.{Owner}
use Rattle.rules.specs.declared.Owner.TheVariants.{Worker, Handoff, Write}
use Rattle.rules.specs.declared.Tally.{Tally}
use Rattle.rules.specs.declared.Totals.{Totals}
use Rattle.rules.specs.declared.Flows.{Flows}
use Rattle.rules.specs.Records.{owner_kind, tally_of, with_totals, on_tally}

-- The totals with the tally of an owner's kind changed.
abbrev pub changed : Owner → (Tally → Tally) → Totals → Totals
changed (Worker n) change t = record { peak_in_flight = t.peak_in_flight; worker = change t.worker; handoff = t.handoff; write = t.write }
changed Handoff change t = record { peak_in_flight = t.peak_in_flight; worker = t.worker; handoff = change t.handoff; write = t.write }
changed Write change t = record { peak_in_flight = t.peak_in_flight; worker = t.worker; handoff = t.handoff; write = change t.write }

-- an owner's tally goes by the number of its kind
by_kind : ℕ → Totals → Tally
by_kind zero t = t.worker
by_kind (suc zero) t = t.handoff
by_kind (suc (suc n)) t = t.write

tally_by_kind : (owner : Owner) (t : Totals) → tally_of owner t ≡ by_kind (owner_kind owner) t
unfolding tally_of owner_kind by_kind
tally_by_kind (Worker n) t = refl
tally_by_kind Handoff t = refl
tally_by_kind Write t = refl

pub same_kind : (a b : Owner) (t : Totals) → owner_kind a ≡ owner_kind b → tally_of a t ≡ tally_of b t
same_kind a b t e = tally_by_kind a t ∙ ap (λ (k : ℕ). by_kind k t) e ∙ sym (tally_by_kind b t)

module _ (change : Tally → Tally) where
  pub on_tally_is : (owner : Owner) (f : Flows) → on_tally owner change f ≡ with_totals (changed owner change f.totals) f
  unfolding on_tally
  on_tally_is (Worker n) f = refl
  on_tally_is Handoff f = refl
  on_tally_is Write f = refl

  pub changed_peak : (owner : Owner) (t : Totals) → (changed owner change t).peak_in_flight ≡ t.peak_in_flight
  changed_peak (Worker n) t = refl
  changed_peak Handoff t = refl
  changed_peak Write t = refl

  -- a fact of each owner's tally: of the kind that changes, and of the others
  pub each_tally : (P : Owner → Tally → Type 0) (changing : Owner) (t : Totals)
      → ((owner : Owner) → eqb (owner_kind changing) (owner_kind owner) ≡ true → P owner (change (tally_of owner t)))
      → ((owner : Owner) → eqb (owner_kind changing) (owner_kind owner) ≡ false → P owner (tally_of owner t))
      → (owner : Owner) → P owner (tally_of owner (changed changing change t))
  unfolding tally_of owner_kind
  each_tally P (Worker m) t here there (Worker n) = here (Worker n) refl
  each_tally P (Worker m) t here there Handoff = there Handoff refl
  each_tally P (Worker m) t here there Write = there Write refl
  each_tally P Handoff t here there (Worker n) = there (Worker n) refl
  each_tally P Handoff t here there Handoff = here Handoff refl
  each_tally P Handoff t here there Write = there Write refl
  each_tally P Write t here there (Worker n) = there (Worker n) refl
  each_tally P Write t here there Handoff = there Handoff refl
  each_tally P Write t here there Write = here Write refl
