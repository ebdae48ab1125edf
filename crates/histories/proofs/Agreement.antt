-- How a simulator agrees with what a listener has noted, and that it goes on agreeing through every change that keeps who is in flight and the totals. Assumes nothing.
use mathlib.Core.Path.{◌≡◌, refl, sym, ap, ◌∙◌}
use mathlib.Core.Bool.{Bool, ◌&&◌}
use mathlib.Core.List.{map}
use lib.Ieee.{Float}
use Rattle.rules.specs.declared.Owner.{Owner}
use Rattle.rules.specs.declared.Transfer.{Transfer}
use Rattle.rules.specs.declared.Completion.{Completion}
use Rattle.rules.specs.declared.Totals.{Totals}
use Rattle.rules.specs.declared.Flows.{Flows}
use Rattle.rules.specs.Lists.{count}
use Rattle.rules.specs.Records.{owner_kind, tally_of}
use Rattle.rules.specs.Tallies.{Entry, Ledger, number_of}
use Rattle.keeps.proofs.Crowd.{Who, who, Alike, same_count}
use Rattle.keeps.proofs.Reached.{Reached}
use Rattle.keeps.proofs.Refreshing.{Refreshed}

-- ---- slots and completions as a listener knows them

abbrev pub entry : Transfer → Entry
entry t = record { id = t.id; kind = owner_kind t.owner }

abbrev pub entry_of : Completion → Entry
entry_of c = record { id = c.id; kind = owner_kind c.owner }

-- A test of entries, put to a slot: a free one fails it.
abbrev pub in_slot : (Entry → Bool) → Transfer → Bool
in_slot p t = t.taken && p (entry t)

-- ---- agreement

-- The counters of an owner's kind say what is noted of it, and whatever is asked of those in flight, as many entries pass as slots.
pub record Agrees (f : Flows) (l : Ledger) : Type 0 where
  pub submitted : (owner : Owner) → (tally_of owner f.totals).submitted ≡ number_of owner l.submitted
  pub completed : (owner : Owner) → (tally_of owner f.totals).completed ≡ number_of owner l.completed
  pub cancelled : (owner : Owner) → (tally_of owner f.totals).cancelled ≡ number_of owner l.cancelled
  pub in_flight : (p : Entry → Bool) → count p l.in_flight ≡ count (in_slot p) f.in_flight

-- ---- changes that nobody hears

-- One simulator has the transfers and the totals of another, whatever their rates, bytes and times.
pub record Unheard (before after : Flows) : Type 0 where
  pub alike : Alike before.in_flight after.in_flight
  pub totals : after.totals ≡ before.totals

pub unheard_of : {f g : Flows} → g.in_flight ≡ f.in_flight → g.totals ≡ f.totals → Unheard f g
unheard_of slots totals = record { alike = record { same = ap (map who) slots }; totals = totals }

pub unheard_same : {f : Flows} → Unheard f f
unheard_same = unheard_of refl refl

-- rates brought up to date, and a drain, are such changes
pub unheard_refreshed : {f g : Flows} → Refreshed f g → Unheard f g
unheard_refreshed r = record { alike = r.alike; totals = r.totals }

pub unheard_reached : {T : Float} {f g : Flows} → Reached T f g → Unheard f g
unheard_reached r = record { alike = r.alike; totals = r.totals }

pub unheard_then : {f g h : Flows} → Unheard f g → Unheard g h → Unheard f h
unheard_then a b = record { alike = record { same = b.alike.same ∙ a.alike.same }; totals = b.totals ∙ a.totals }

pub agrees_unheard : {f g : Flows} {l : Ledger} → Unheard f g → Agrees f l → Agrees g l
agrees_unheard u a = record {
  submitted = λ owner. ap (λ (y : Totals). (tally_of owner y).submitted) u.totals ∙ a.submitted owner;
  completed = λ owner. ap (λ (y : Totals). (tally_of owner y).completed) u.totals ∙ a.completed owner;
  cancelled = λ owner. ap (λ (y : Totals). (tally_of owner y).cancelled) u.totals ∙ a.cancelled owner;
  in_flight = λ p. a.in_flight p ∙ sym (same_count u.alike (λ (w : Who). w.taken && p (record { id = w.id; kind = owner_kind w.owner })));
}
