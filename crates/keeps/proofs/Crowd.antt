-- Who is in flight: the counts, ids, paths and loads are read from what no drain and no filling changes, so tables that agree there share those facts. Assumes nothing.
use Prim.Native.Nat.{ℕ, ◌+◌}
use mathlib.Core.Path.{◌≡◌, refl, sym, ap, ◌∙◌}
use mathlib.Core.Bool.{Bool, ◌&&◌, cond}
use mathlib.Core.List.{List, [], ◌∷◌, map}
use lib.Dec.{eqb, ltb}
use lib.ListN.{length, get_or, take, length-map, get_or-map}
use Rattle.rules.specs.declared.Owner.{Owner}
use Rattle.rules.specs.declared.Route.{Route}
use Rattle.rules.specs.declared.Edge.{Edge}
use Rattle.rules.specs.declared.Transfer.{Transfer}
use Rattle.rules.specs.declared.Tally.{Tally}
use Rattle.rules.specs.declared.Totals.{Totals}
use Rattle.rules.specs.declared.EdgeLoad.{EdgeLoad}
use Rattle.rules.specs.declared.Clock.{Clock}
use Rattle.rules.specs.Lists.{count, sum, crossings}
use Rattle.rules.specs.Records.{free, own_path, owner_kind, tally_of}
use Rattle.rules.specs.Clock.{crossings_by, counts_in_loads}
use Rattle.rules.specs.Invariant.{of_kind, Balanced}
use Rattle.rules.proofs.Counting.{count_map}
use Rattle.rules.proofs.Numbered.{map_from_same, map_from_numbers}
use Rattle.keeps.proofs.Parts.{CrowdSound, TotalsSound, RatesSound, loads}

-- What no drain and no filling changes of a transfer.
pub record Who : Type 0 where
  pub taken : Bool
  pub id : ℕ
  pub owner : Owner
  pub path : Route

abbrev pub who : Transfer → Who
who t = record { taken = t.taken; id = t.id; owner = t.owner; path = t.path }

sum_through : {A B : Type 0} (g : A → B) (h : B → ℕ) (xs : List A) → sum (map (λ x. h (g x)) xs) ≡ sum (map h (map g xs))
unfolding sum
sum_through g h [] = refl
sum_through g h (x ∷ xs) = rw (sum_through g h xs) refl

-- ---- two tables with the same transfers in the same slots

pub record Alike (xs ys : List Transfer) : Type 0 where
  pub same : map who ys ≡ map who xs

module _ {xs ys : List Transfer} (alike : Alike xs ys) where
  pub same_count : (q : Who → Bool) → count (λ t. q (who t)) ys ≡ count (λ t. q (who t)) xs
  same_count q = sym (count_map q who ys) ∙ ap (count q) alike.same ∙ count_map q who xs

  pub same_sum : (h : Who → ℕ) → sum (map (λ t. h (who t)) ys) ≡ sum (map (λ t. h (who t)) xs)
  same_sum h = sum_through who h ys ∙ ap (λ (ws : List Who). sum (map h ws)) alike.same ∙ sym (sum_through who h xs)

  pub same_at : (i : ℕ) → who (get_or ys i free) ≡ who (get_or xs i free)
  same_at i = sym (get_or-map who ys i free) ∙ ap (λ (ws : List Who). get_or ws i (who free)) alike.same ∙ get_or-map who xs i free

  pub same_taken : (i : ℕ) → (get_or ys i free).taken ≡ (get_or xs i free).taken
  same_taken i = ap (λ (w : Who). w.taken) (same_at i)

  pub same_length : length ys ≡ length xs
  same_length = sym (length-map ys who) ∙ ap (λ (ws : List Who). length ws) alike.same ∙ length-map xs who

  pub same_crowd : CrowdSound xs → CrowdSound ys
  unfolding own_path
  same_crowd crowd = record {
    places = same_length ∙ crowd.places;
    ids_differ = λ i j a b e. crowd.ids_differ i j (sym (same_taken i) ∙ a) (sym (same_taken j) ∙ b)
        (sym (ap (λ (w : Who). w.id) (same_at i)) ∙ e ∙ ap (λ (w : Who). w.id) (same_at j));
    path_room = rw (same_sum (λ w. length (take w.path.len w.path.hops))) crowd.path_room;
  }

  pub same_balance : (owner : Owner) (y : Tally) → Balanced xs owner y → Balanced ys owner y
  unfolding of_kind
  same_balance owner y b = record {
    accounted = b.accounted ∙ ap (λ (n : ℕ). n + y.completed + y.cancelled) (sym (same_count (λ w. w.taken && eqb (owner_kind w.owner) (owner_kind owner))));
    fits = b.fits;
    bytes = b.bytes;
  }

  pub same_totals : {n : ℕ} {totals : Totals} → TotalsSound xs n totals → TotalsSound ys n totals
  same_totals {n} {totals} t = record {
    room = rw (same_count (λ w. w.taken)) t.room;
    reached = rw (same_count (λ w. w.taken)) t.reached;
    bound = t.bound;
    balanced = λ owner. same_balance owner (tally_of owner totals) (t.balanced owner);
  }

  pub same_crossings : (e : ℕ) → crossings_by counts_in_loads own_path ys e ≡ crossings_by counts_in_loads own_path xs e
  unfolding crossings_by counts_in_loads own_path
  same_crossings e = same_sum (λ w. cond w.taken (crossings e (take w.path.len w.path.hops)) 0)

-- ---- rates

module _ {xs ys : List Transfer} (alike : Alike xs ys) where
  pub same_loads : (edges edges' : List Edge) (n : ℕ) → length edges' ≡ length edges → loads ys edges' n ≡ loads xs edges n
  same_loads edges edges' n l = ap (λ (table : List ℕ). record { load = table; len = n })
      (map_from_same 0 (λ e edge. crossings_by counts_in_loads own_path ys e) (λ e edge. crossings_by counts_in_loads own_path xs e) edges' (λ e edge inside. same_crossings alike e)
      ∙ map_from_numbers 0 (crossings_by counts_in_loads own_path xs) edges' edges l)

  pub same_rates : {clock : Clock} {load : EdgeLoad} {edges : List Edge} {n : ℕ} (clock' : Clock) (edges' : List Edge) → length edges' ≡ length edges
      → clock'.rates_dirty ≡ clock.rates_dirty → clock'.rounds ≡ clock.rounds → RatesSound clock load xs edges n → RatesSound clock' load ys edges' n
  same_rates {clock} {load} {edges} {n} clock' edges' l d r rates = record {
    right = λ fresh. rates.right (sym d ∙ fresh) ∙ sym (same_loads edges edges' n l);
    few = λ fresh. rw (r, same_count alike (λ w. w.taken && ltb 0 w.path.len)) (rates.few (sym d ∙ fresh));
  }
