-- A transfer that no refusal stops finds a free slot, is sound there, has an id of its own and one of the 2^64 - 1 numbers of its kind's tally; then rates are stale.
-- Assumes nothing.
use Prim.Native.Nat.{ℕ, ◌+◌, ◌-◌, ◌^◌, ◌≤◌, ◌<◌, max}
use native.Mathlib.Omega.{arith}
use mathlib.Core.Path.{◌≡◌, refl, sym, ap, ◌∙◌}
use mathlib.Core.Logic.{inl}
use mathlib.Core.Bool.{Bool, true, false, true≢false}
use mathlib.Core.List.{List, []}
use lib.Dec.{eqb, leb}
use borrow.Author.Tests.{eqb-true, eq-eqb}
use lib.ListN.{length, get_or, set}
use lib.Ieee.{Float, binary64}
use Rattle.doubles.specs.Doubles.{nought, larger, Plain}
use Rattle.doubles.proofs.Binary64.{whole_plain}
use Rattle.doubles.proofs.Signs.{plain_nonneg}
use Rattle.doubles.proofs.Zeros.{nought_plain}
use Rattle.rules.specs.declared.Owner.{Owner}
use Rattle.rules.specs.declared.Owner.TheVariants.{Worker, Handoff, Write}
use Rattle.rules.specs.declared.Cap.{Cap}
use Rattle.rules.specs.declared.Transfer.{Transfer}
use Rattle.rules.specs.declared.Tally.{Tally}
use Rattle.rules.specs.declared.Totals.{Totals}
use Rattle.rules.specs.declared.Flows.{Flows}
use Rattle.rules.specs.Lists.{count, any, Each}
use Rattle.rules.specs.Records.{max_path, max_slots, free, has_id, contains, num_in_flight, owner_kind, tally_of, with_in_flight, with_totals}
use Rattle.rules.specs.Clock.{drain_to}
use Rattle.rules.specs.Submission.{submitted_transfer, count_submitted, peak_taken, submitted}
use Rattle.rules.specs.Invariant.{SoundCap, SoundTransfer, SoundSlot, of_kind, Invariant}
use Rattle.rules.proofs.Each.{each_set}
use Rattle.doubles.proofs.Monotone.{count_le}
use Rattle.keeps.proofs.Stalls.{summed}
use Rattle.keeps.proofs.Crowd.{Who, same_count, same_at, same_taken}
use Rattle.keeps.proofs.Drained.{Owing, AllOwing, Drained, made_stale_keeps}
use Rattle.rules.proofs.Counting.{one_if, count_set}
use Rattle.keeps.proofs.Tally.{changed, changed_peak, on_tally_is, same_kind, each_tally}
use Rattle.keeps.proofs.Slots.{other_slots, crowd_set}
use Rattle.keeps.proofs.Placing.{route_sound, Placed, placed_somewhere, nobody_passes}
use Rattle.keeps.proofs.Reached.{Reached}

-- Totals whose peak has been raised to n.
abbrev peaked : ℕ → Totals → Totals
peaked n t = record { peak_in_flight = max t.peak_in_flight n; worker = t.worker; handoff = t.handoff; write = t.write }

peaked_tally : (owner : Owner) (n : ℕ) (t : Totals) → tally_of owner (peaked n t) ≡ tally_of owner t
unfolding tally_of
peaked_tally (Worker m) n t = refl
peaked_tally Handoff n t = refl
peaked_tally Write n t = refl

-- What the refusals leave of a submission's arguments.
pub record Submittable (id : ℕ) (owner : Owner) (path : List ℕ) (bytes : ℕ) (latency : Float) (cap : Cap) (f : Flows) : Type 0 where
  pub known : any (λ e. leb f.num_edges e) path ≡ false
  pub short : length path ≤ max_path
  pub small : bytes ≤ 2 ^ 53
  pub paid : Plain (larger latency nought)
  pub capped : SoundCap cap
  pub new : contains id f ≡ false
  pub space : num_in_flight f + f.num_completed < max_slots
  pub numbered : (tally_of owner f.totals).submitted ≡ 2 ^ 64 - 1 → ⊥

module _ (id : ℕ) (owner : Owner) (path : List ℕ) (bytes : ℕ) (latency : Float) (cap : Cap) (until : Float) (f : Flows) (s : Submittable id owner path bytes latency cap f)
    (g : Flows) (reached : Reached until f g) where
  abbrev one : Transfer
  one = submitted_transfer id owner path bytes latency cap until

  one_sound : SoundTransfer g one
  unfolding submitted_transfer
  one_sound =
      record {
        path = rw reached.edges (route_sound f.num_edges path s.short s.known);
        latency = s.paid;
        bytes = whole_plain bytes s.small;
        bytes_bound = count_le binary64 bytes (2 ^ 53) s.small (omega arith);
        cap = s.capped;
        rate = plain_nonneg nought_plain;
        rate_finite = inl nought_plain;
        updated = sym (reached.drained.at_clock ∙ reached.now);
      }

  -- nobody else has the id
  own_id : (i : ℕ) → (get_or g.in_flight i free).taken ≡ true → (get_or g.in_flight i free).id ≡ id → ⊥
  unfolding contains has_id
  own_id i a e =
      let none = nobody_passes (has_id id) f.in_flight free refl s.new i in
      let taken : (get_or f.in_flight i free).taken ≡ true = sym (same_taken reached.alike i) ∙ a in
      let same : (get_or f.in_flight i free).id ≡ id = sym (ap (λ (w : Who). w.id) (same_at reached.alike i)) ∙ e in
      let found : has_id id (get_or f.in_flight i free) ≡ true = rw taken (eq-eqb (get_or f.in_flight i free).id id same) in
      true≢false (sym found ∙ none)

  module _ (p : Placed one g.in_flight) where
    abbrev slots : List Transfer
    slots = set g.in_flight p.slot one

    abbrev counted : Totals
    counted = changed owner (count_submitted bytes) g.totals

    -- the slot was blank, so it counted nowhere
    more : (q : Transfer → Bool) → q free ≡ false → count q slots ≡ count q g.in_flight + one_if (q one)
    more q none =
        let blank : get_or g.in_flight p.slot free ≡ free = (reached.drained.each p.slot).blank p.was_free in
        let uncounted : q (get_or g.in_flight p.slot free) ≡ false = ap q blank ∙ none in
        let step = count_set q g.in_flight p.slot one free p.inside in
        let step' : count q slots + one_if false ≡ count q g.in_flight + one_if (q one) = rw uncounted at step in
        omega arith

    grown : (o : Owner) (b : Bool) → eqb (owner_kind owner) (owner_kind o) ≡ b → count (of_kind (owner_kind o)) slots ≡ count (of_kind (owner_kind o)) g.in_flight + one_if b
    unfolding submitted_transfer of_kind
    grown o b e = more (of_kind (owner_kind o)) refl ∙ ap (λ (c : Bool). count (of_kind (owner_kind o)) g.in_flight + one_if c) e

    -- the number that was left
    numbered : (o : Owner) → eqb (owner_kind owner) (owner_kind o) ≡ true → (tally_of o g.totals).submitted ≡ 2 ^ 64 - 1 → ⊥
    numbered o e n =
        let here : tally_of o g.totals ≡ tally_of owner f.totals = ap (tally_of o) reached.totals ∙ same_kind o owner f.totals (sym (eqb-true (owner_kind owner) (owner_kind o) e)) in
        s.numbered (sym (ap (λ (y : Tally). y.submitted) here) ∙ n)

    balanced : (o : Owner) → Owing [] slots o (tally_of o counted)
    unfolding count_submitted
    balanced = each_tally (count_submitted bytes) (Owing [] slots) owner g.totals
        (λ o e.
        let was = reached.drained.totals.balanced o in
        record {
          accounted = omega (arith, was.accounted, grown o true e);
          fits = omega (arith, was.fits, numbered o e);
          bytes = summed was.bytes (whole_plain bytes s.small) (count_le binary64 bytes (2 ^ 53) s.small (omega arith));
        })
        (λ o e. let was = reached.drained.totals.balanced o in record { accounted = omega (arith, was.accounted, grown o false e); fits = was.fits; bytes = was.bytes })

    owing : AllOwing [] slots g.num_completed (peaked (count (λ t. t.taken) slots) counted)
    unfolding submitted_transfer num_in_flight
    owing =
        let was = reached.drained.totals in
        let grown : count (λ t. t.taken) slots ≡ count (λ t. t.taken) g.in_flight + 1 = more (λ t. t.taken) refl in
        let same = same_count reached.alike (λ w. w.taken) in
        record {
          room = omega (arith, s.space, reached.waiting);
          reached = omega arith;
          bound = omega (arith, was.bound, changed_peak (count_submitted bytes) owner g.totals, s.space);
          balanced = λ o. rw (peaked_tally o (count (λ t. t.taken) slots) counted) (balanced o);
        }

    pub submitted_drained : Drained [] (with_in_flight slots (with_totals (peaked (count (λ t. t.taken) slots) counted) g))
    unfolding submitted_transfer
    submitted_drained =
        let was = reached.drained in
        let each : Each (SoundSlot g) free slots = each_set (SoundSlot g) free g.in_flight p.slot one was.each (record { held = λ e. one_sound; blank = λ e. absurd (true≢false e) }) in
        other_slots was slots (peaked (count (λ t. t.taken) slots) counted)
        (crowd_set g.in_flight p.slot one p.inside was.crowd each (λ e i other a same. own_id i a same))
        each
        owing

module _ (id : ℕ) (owner : Owner) (path : List ℕ) (bytes : ℕ) (latency : Float) (cap : Cap) (until : Float) (f : Flows) where
  pub submitted_keeps : Submittable id owner path bytes latency cap f → Reached until f (drain_to until f) → Invariant (submitted id owner path bytes latency cap until f)
  unfolding submitted submitted_transfer peak_taken num_in_flight with_in_flight with_totals
  submitted_keeps s reached =
      let g = drain_to until f in
      let one = submitted_transfer id owner path bytes latency cap until in
      let same = same_count reached.alike (λ w. w.taken) in
      let space = s.space in
      let p = placed_somewhere one g.in_flight (omega (arith, reached.drained.crowd.places, same, space)) in
      rw (on_tally_is (count_submitted bytes) owner g, p.is) (made_stale_keeps (submitted_drained id owner path bytes latency cap until f s g reached p))
