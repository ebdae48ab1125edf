-- An edge's load, seat by seat: one more seat adds its crossings if it is unfrozen, and eight are the most that one can add. Assumes nothing.
use mathlib.Core.Path.{◌≡◌, refl, ap, subst, ◌∙◌}
use mathlib.Core.Bool.{Bool, true, false, cond}
use mathlib.Core.List.{List, [], ◌∷◌, map}
use Prim.Native.Nat.{ℕ, zero, suc, ◌+◌, ◌*◌, ◌-◌, ◌^◌, ◌≤◌, ◌<◌}
use native.Mathlib.Omega.{arith}
use native.Mathlib.Nat.{mul-suc}
use lib.Dec.{ltb}
use borrow.Author.Tests.{ltb-true, ltb-false}
use lib.ListN.{length, get_or, drop, replicate, get_or-replicate, drop_of_length-le}
use Rattle.rules.specs.declared.Seat.{Seat}
use Rattle.rules.specs.Lists.{sum, crossings, at_each_crossing}
use Rattle.rules.specs.Records.{own_path}
use Rattle.rules.specs.Filling.{load, no_seat}
use Rattle.rules.specs.Invariant.{SoundRoute}
use Rattle.rules.proofs.Crossings.{crossings_length}
use Rattle.rules.proofs.Steps.{sum_map_one, get_d_any}
use Rattle.fairness.proofs.Start.{own_path_length}
use Rattle.rounds.specs.Standing.{Loads}
use Rattle.paths.specs.Known.{Roomy}
use Rattle.paths.proofs.PerEdge.{length_crossing, crossing_at, times_more, times_less}

-- ---- bounds

sum_bound : {A : Type 0} (g : A → ℕ) (xs : List A) (d : A) (b : ℕ) → ((i : ℕ) → g (get_or xs i d) ≤ b) → sum (map g xs) ≤ b * length xs
unfolding sum
sum_bound g [] d b h = omega arith
sum_bound g (x ∷ xs) d b h = rw mul-suc (omega (arith, h 0, sum_bound g xs d b (λ i. h (suc i))))

-- past the end of a table of numbers there is 0
pub past_end : (xs : List ℕ) (i : ℕ) → length xs ≤ i → get_or xs i 0 ≡ 0
past_end [] i h = refl
past_end (x ∷ xs) zero h = absurd (omega arith)
past_end (x ∷ xs) (suc i) h = past_end xs i (omega arith)

-- ---- one more seat

-- What a seat adds to the load of edge e.
abbrev pub waiting : ℕ → Seat → ℕ
waiting e s = cond s.unfrozen (crossings e (own_path s.transfer)) 0

pub load_one : (seats : List Seat) (i : ℕ) (d : Seat) → i < length seats → (e : ℕ) → load own_path (drop i seats) e ≡ waiting e (get_or seats i d) + load own_path (drop (i + 1) seats) e
unfolding load
load_one seats i d h e = sum_map_one seats i d h (waiting e)

-- the same by whether it is unfrozen
pub load_by : (seats : List Seat) (i : ℕ) (d : Seat) → i < length seats → (e : ℕ) (b : Bool) → (get_or seats i d).unfrozen ≡ b → load own_path (drop i seats) e ≡ cond b (crossings e (own_path (get_or seats i d).transfer)) 0 + load own_path (drop (i + 1) seats) e
load_by seats i d h e b u = load_one seats i d h e ∙ ap (λ (z : Bool). cond z (crossings e (own_path (get_or seats i d).transfer)) 0 + load own_path (drop (i + 1) seats) e) u

pub load_nil : (e : ℕ) → load own_path [] e ≡ 0
unfolding load sum
load_nil e = refl

-- ---- how much a load can be

abbrev pub Routed : List Seat → Type 0
Routed seats = (i : ℕ) → SoundRoute 64 (get_or seats i no_seat).transfer.path

module _ (seats : List Seat) (routed : Routed seats) where
  pub short_path : (i e : ℕ) → crossings e (own_path (get_or seats i no_seat).transfer) ≤ 8
  short_path i e =
      let t = (get_or seats i no_seat).transfer in
      omega (arith, crossings_length e (own_path t), own_path_length 64 t (routed i), (routed i).short)

  pub load_bound : (e : ℕ) → load own_path seats e ≤ 8 * length seats
  unfolding load
  load_bound e = sum_bound (waiting e) seats no_seat 8 (λ i. go i (get_or seats i no_seat).unfrozen)
    where
      go : (i : ℕ) (b : Bool) → cond b (crossings e (own_path (get_or seats i no_seat).transfer)) 0 ≤ 8
      go i true = short_path i e
      go i false = omega arith

-- ---- a counter after a path

pub raised : (path table : List ℕ) (e : ℕ) → e < length table → get_or (at_each_crossing path (λ n. n + 1) table) e 0 ≡ get_or table e 0 + crossings e path
raised path table e h = crossing_at path (λ n. n + 1) table e 0 h ∙ times_more (crossings e path) (get_or table e 0)

pub lowered : (path table : List ℕ) (e : ℕ) → e < length table → get_or (at_each_crossing path (λ n. n - 1) table) e 0 ≡ get_or table e 0 - crossings e path
lowered path table e h = crossing_at path (λ n. n - 1) table e 0 h ∙ times_less (crossings e path) (get_or table e 0)

-- ---- the counters filled seat by seat

-- Where the counting stands after i seats.
pub record Counting (seats : List Seat) (table : List ℕ) (i : ℕ) : Type 0 where
  pub within : i ≤ 256
  pub places : length table ≡ 64
  pub left : (e : ℕ) → e < 64 → get_or table e 0 + load own_path (drop i seats) e ≡ load own_path seats e

pub counting_starts : (seats : List Seat) → Counting seats (replicate 64 0) 0
counting_starts seats = record { within = omega arith; places = refl; left = λ e h. omega (arith, get_or-replicate {A = ℕ} 64 e 0 0 h) }

-- a seat's route, whatever is read past the end
pub route_at : (seats : List Seat) → Routed seats → (i : ℕ) (d : Seat) → i < length seats → SoundRoute 64 (get_or seats i d).transfer.path
route_at seats routed i d h = subst (λ (s : Seat). SoundRoute 64 s.transfer.path) (get_d_any seats i no_seat d h) (routed i)

module _ (seats : List Seat) (table : List ℕ) (i : ℕ) (counting : Counting seats table i) where
  pub counting_room : Routed seats → length seats ≡ 256 → (d : Seat) → i < length seats → Roomy (own_path (get_or seats i d).transfer) table
  counting_room routed all d h = record { room = λ e. go e (ltb e 64) refl }
    where
      few : (e : ℕ) → crossings e (own_path (get_or seats i d).transfer) ≤ 8
      few e = rw (get_d_any seats i d no_seat h) (short_path seats routed i e)

      go : (e : ℕ) (b : Bool) → ltb e 64 ≡ b → get_or table e 0 + crossings e (own_path (get_or seats i d).transfer) < 2 ^ 64
      go e true q = omega (arith, few e, counting.left e (ltb-true e 64 q), load_bound seats routed e)
      go e false q = omega (arith, few e, past_end table e (omega (arith, counting.places, ltb-false e 64 q)))

  module _ (d : Seat) (h : i < length seats) (h' : i < 256) where
    -- a seat that is unfrozen
    pub counting_on : (get_or seats i d).unfrozen ≡ true → (after : List ℕ) → after ≡ at_each_crossing (own_path (get_or seats i d).transfer) (λ n. n + 1) table → Counting seats after (i + 1)
    counting_on u after e = record {
      within = omega arith;
      places = ap length e ∙ length_crossing (own_path (get_or seats i d).transfer) (λ n. n + 1) table ∙ counting.places;
      left = λ j k. omega (arith, counting.left j k, ap (λ (l : List ℕ). get_or l j 0) e, raised (own_path (get_or seats i d).transfer) table j (omega (arith, counting.places)), load_by seats i d h j true u);
    }

    -- one that is not
    pub counting_past : (get_or seats i d).unfrozen ≡ false → (after : List ℕ) → after ≡ table → Counting seats after (i + 1)
    counting_past u after e = record {
      within = omega arith;
      places = ap length e ∙ counting.places;
      left = λ j k. omega (arith, counting.left j k, ap (λ (l : List ℕ). get_or l j 0) e, load_by seats i d h j false u);
    }

  pub counting_ends : length seats ≤ i → Loads seats table
  counting_ends over = record {
    places = counting.places;
    right = λ e h. omega (arith, counting.left e h, ap (λ (l : List Seat). load own_path l e) (drop_of_length-le seats over), load_nil e);
  }
