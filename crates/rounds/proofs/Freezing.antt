-- A verdict carried out seat by seat: what the seats left will still spend of an edge, and what they will still leave waiting on it, makes the definition's whole.
-- Assumes nothing.
use mathlib.Core.Path.{◌≡◌, refl, sym, ap, ◌∙◌}
use mathlib.Core.Bool.{Bool, true, false, ◌&&◌, cond}
use mathlib.Core.List.{List, [], ◌∷◌}
use Prim.Native.Nat.{ℕ, zero, suc, ◌+◌, ◌-◌, ◌≤◌, ◌<◌}
use native.Mathlib.Omega.{arith}
use lib.Dec.{ltb}
use lib.Ieee.{Float, nan}
use lib.ListN.{length, get_or, take, drop, set, length-set, drop_of_length-le}
use lib.Seq.{take_all, drop-nil, drop-drop, drop-set-lt, get_or-drop, ext_get_or}
use borrow.Author.Tests.{ltb-true, ltb-false}
use Rattle.rules.specs.declared.Limit.{Limit}
use Rattle.rules.specs.declared.Transfer.{Transfer}
use Rattle.rules.specs.declared.Seat.{Seat}
use Rattle.rules.specs.declared.Verdict.{Verdict}
use Rattle.rules.specs.Lists.{count, sum, map_from, crossings, at_each_crossing, times}
use Rattle.rules.specs.Records.{own_path}
use Rattle.rules.specs.Filling.{Filling, with_rate, load, rate_by, limit_by, names, freezes, freeze, crossings_frozen, spend, no_seat}
use Rattle.rules.proofs.Steps.{count_one, map_from_one, length_map_from, getD_map_from, map_from_take}
use Rattle.rules.specs.Invariant.{SoundRoute}
use Rattle.rules.proofs.Crossings.{crosses_some}
use Rattle.paths.specs.Known.{Known}
use Rattle.paths.proofs.PerEdge.{times_add, length_crossing, crossing_at}
use Rattle.paths.proofs.Routes.{known_route}
use Rattle.rounds.specs.Standing.{Loads, Freezable}
use Rattle.rounds.proofs.Loading.{waiting, load_one, load_nil, lowered, Routed, route_at}

-- ---- fillings

-- two fillings are one by their parts
pub filling_same : {seats seats' : List Seat} {residual residual' : List Float} {rounds rounds' : ℕ} → seats ≡ seats' → residual ≡ residual' → rounds ≡ rounds' → ◌≡◌ {A = Filling} (record { seats = seats; residual = residual; rounds = rounds }) (record { seats = seats'; residual = residual'; rounds = rounds' })
filling_same p q r = rw (p, q, r) refl

-- ---- one seat

module _ (v : Verdict) (i : ℕ) (s : Seat) where
  pub freezes_when : (b : Bool) → s.unfrozen ≡ true → names v i (own_path s.transfer) ≡ b → freezes own_path v i s ≡ b
  unfolding freezes
  freezes_when b u n = ap (λ (z : Bool). z && names v i (own_path s.transfer)) u ∙ n

  pub freezes_not : s.unfrozen ≡ false → freezes own_path v i s ≡ false
  unfolding freezes
  freezes_not u = ap (λ (z : Bool). z && names v i (own_path s.transfer)) u

  freezes_unfrozen : freezes own_path v i s ≡ true → s.unfrozen ≡ true
  unfolding freezes
  freezes_unfrozen h = go s.unfrozen (names v i (own_path s.transfer)) h
    where
      go : (b c : Bool) → (b && c) ≡ true → b ≡ true
      go true c h = refl
      go false c h = h

  pub freeze_when : (b : Bool) → freezes own_path v i s ≡ b → freeze own_path v i s ≡ cond b (record { transfer = with_rate (rate_by v) (limit_by v) s.transfer; unfrozen = false }) s
  unfolding freeze
  freeze_when b f = ap (λ (z : Bool). cond z (record { transfer = with_rate (rate_by v) (limit_by v) s.transfer; unfrozen = false }) s) f

  -- a seat that is given the verdict's rate and limit is the frozen one
  pub frozen_is : (t : Transfer) (rate : Float) (limit : Limit) → freezes own_path v i s ≡ true → rate ≡ rate_by v → limit ≡ limit_by v → t ≡ with_rate rate limit s.transfer
      → ◌≡◌ {A = Seat} (record { transfer = t; unfrozen = false }) (freeze own_path v i s)
  frozen_is t rate limit f r l e = rw (freeze_when true f, e, r, l) refl

  -- The crossings of edge e that the verdict takes off with this seat.
  abbrev pub gone : ℕ → ℕ
  gone e = cond (freezes own_path v i s) (crossings e (own_path s.transfer)) 0

  -- who waited is frozen now or waits still
  waits_or_gone : (e : ℕ) → waiting e s ≡ waiting e (freeze own_path v i s) + gone e
  waits_or_gone e = go (freezes own_path v i s) refl
    where
      go : (b : Bool) → freezes own_path v i s ≡ b → waiting e s ≡ waiting e (freeze own_path v i s) + cond b (crossings e (own_path s.transfer)) 0
      go true f =
          omega (
            arith,
            ap (λ (z : Bool). cond z (crossings e (own_path s.transfer)) 0) (freezes_unfrozen f),
            ap (waiting e) (freeze_when true f),
          )
      go false f = omega (arith, ap (waiting e) (freeze_when false f))

-- ---- all seats

-- What one edge's residual goes through, once for each crossing.
abbrev pub spent_by : Verdict → Float → Float
spent_by v = spend (rate_by v)

module _ (v : Verdict) (old : List Seat) where
  -- The seats once the verdict is carried out.
  abbrev pub new : List Seat
  new = map_from 0 (freeze own_path v) old

  -- The crossings of edge e that those from slot i on take off.
  abbrev pub going : ℕ → ℕ → ℕ
  going i e = sum (map_from i (λ j s. gone v j s e) (drop i old))

  -- Where the freezing stands after i seats.
  pub record Freezing (whole : List Float) (seats : List Seat) (residual : List Float) (table : List ℕ) (left i : ℕ) : Type 0 where
    pub within : i ≤ 256
    pub places : length seats ≡ 256
    pub behind : drop i seats ≡ drop i old
    pub done : take i seats ≡ take i new
    pub edges : length residual ≡ 64
    pub spent : (e : ℕ) → e < 64 → times (going i e) (spent_by v) (get_or residual e nan) ≡ times (crossings_frozen own_path v old e) (spent_by v) (get_or whole e nan)
    pub loads : length table ≡ 64
    pub loaded : (e : ℕ) → e < 64 → get_or table e 0 + load own_path (drop i new) e ≡ load own_path new e + load own_path (drop i old) e
    pub few : left ≤ i
    pub counted : left + count (λ (s : Seat). s.unfrozen) (drop i new) ≡ count (λ (s : Seat). s.unfrozen) new

  pub freezing_starts : (whole : List Float) (table : List ℕ) → length old ≡ 256 → length whole ≡ 64 → Loads old table → Freezing whole old whole table 0 0
  unfolding crossings_frozen
  freezing_starts whole table all edges loads = record {
    within = omega arith;
    places = all;
    behind = refl;
    done = refl;
    edges = edges;
    spent = λ e h. refl;
    loads = loads.places;
    loaded = λ e h. omega (arith, loads.right e h);
    few = omega arith;
    counted = omega arith;
  }

  -- the loads behind a place are some of all
  load_behind : (seats : List Seat) (i e : ℕ) → load own_path (drop i seats) e ≤ load own_path seats e
  unfolding load sum
  load_behind [] i e = rw (drop-nil {A = Seat} i) (omega arith)
  load_behind (s ∷ seats) zero e = omega arith
  load_behind (s ∷ seats) (suc i) e = omega (arith, load_behind seats i e)

  module _ (all : length old ≡ 256) (whole : List Float) (seats : List Seat) (residual : List Float) (table : List ℕ) (left i : ℕ) (freezing : Freezing whole seats residual table left i) where
    new_length : length new ≡ 256
    new_length = length_map_from 0 (freeze own_path v) old ∙ all

    module _ (d : Seat) (h : i < 256) where
      abbrev was : Seat
      was = get_or seats i d

      -- a seat whose turn has not come is as it was
      is_old : was ≡ get_or old i d
      is_old = let z : i + 0 ≡ i = omega arith in ap (λ (n : ℕ). get_or seats n d) (sym z) ∙ sym (get_or-drop i seats 0 d) ∙ ap (λ (l : List Seat). get_or l 0 d) freezing.behind ∙ get_or-drop i old 0 d ∙ ap (λ (n : ℕ). get_or old n d) z

      abbrev path : List ℕ
      path = own_path was.transfer

      new_at : get_or new i no_seat ≡ freeze own_path v i was
      new_at = let z : 0 + i ≡ i = omega arith in getD_map_from 0 (freeze own_path v) old i d no_seat (omega (arith, all)) ∙ ap (λ (n : ℕ). freeze own_path v n (get_or old i d)) z ∙ ap (freeze own_path v i) (sym is_old)

      -- how an edge stands to those left
      stands : (e : ℕ) → e < 64 → (get_or table e 0 + (waiting e (freeze own_path v i was) + load own_path (drop (i + 1) new) e) ≡ load own_path new e + (waiting e was + load own_path (drop (i + 1) old) e)) × (waiting e (freeze own_path v i was) + load own_path (drop (i + 1) new) e ≤ load own_path new e)
      stands e k =
          let later : load own_path (drop i new) e ≡ waiting e (freeze own_path v i was) + load own_path (drop (i + 1) new) e = load_one new i no_seat (omega (arith, new_length)) e ∙ ap (λ (s : Seat). waiting e s + load own_path (drop (i + 1) new) e) new_at in
          (omega (arith, freezing.loaded e k, later, load_one old i d (omega (arith, all)) e, ap (waiting e) is_old), omega (arith, later, load_behind new i e))

      path_sound : Routed old → SoundRoute 64 was.transfer.path
      path_sound routed = rw is_old (route_at old routed i d (omega (arith, all)))

      path_known : Routed old → Known 64 path
      unfolding own_path
      path_known routed = known_route (path_sound routed)

      -- the loads count a seat that waits
      path_counted : Routed old → was.unfrozen ≡ true → (e : ℕ) → crossings e path ≤ get_or table e 0
      path_counted routed u e = go (ltb e 64) refl (crossings e path) refl
        where
          go : (b : Bool) → ltb e 64 ≡ b → (n : ℕ) → crossings e path ≡ n → n ≤ get_or table e 0
          go true q n c =
              let both = stands e (ltb-true e 64 q) in
              omega (arith, both.0, both.1, ap (λ (z : Bool). cond z (crossings e path) 0) u)
          go false q zero c = omega arith
          go false q (suc n) c = let at = crosses_some e path (omega (arith, c)) in absurd (omega (arith, at.2, (path_known routed).below at.0 at.1, ltb-false e 64 q))

      pub freezing_asks : Routed old → Freezable was residual table
      freezing_asks routed = record {
        edges = freezing.edges;
        loads = freezing.loads;
        path = path_sound routed;
        counted = λ u. record { counted = path_counted routed u };
      }

      module _ (residual' : List Float) (is_residual : residual' ≡ cond (freezes own_path v i was) (at_each_crossing path (spent_by v) residual) residual) where
        residual_length : length residual' ≡ 64
        residual_length = ap length is_residual ∙ go (freezes own_path v i was)
          where
            go : (b : Bool) → length (cond b (at_each_crossing path (spent_by v) residual) residual) ≡ 64
            go true = length_crossing path (spent_by v) residual ∙ freezing.edges
            go false = freezing.edges

        residual_at : (e : ℕ) → e < 64 → get_or residual' e nan ≡ times (gone v i was e) (spent_by v) (get_or residual e nan)
        unfolding times
        residual_at e k = ap (λ (l : List Float). get_or l e nan) is_residual ∙ go (freezes own_path v i was)
          where
            go : (b : Bool) → get_or (cond b (at_each_crossing path (spent_by v) residual) residual) e nan ≡ times (cond b (crossings e path) 0) (spent_by v) (get_or residual e nan)
            go true = crossing_at path (spent_by v) residual e nan (omega (arith, freezing.edges))
            go false = refl

        spent_one : (e : ℕ) → e < 64 → times (going (i + 1) e) (spent_by v) (get_or residual' e nan) ≡ times (crossings_frozen own_path v old e) (spent_by v) (get_or whole e nan)
        unfolding sum
        spent_one e k =
            ap (times (going (i + 1) e) (spent_by v)) (residual_at e k)
            ∙ sym (times_add (gone v i was e) (going (i + 1) e) (spent_by v) (get_or residual e nan))
            ∙ ap (λ (s : Seat). times (gone v i s e + going (i + 1) e) (spent_by v) (get_or residual e nan)) is_old
            ∙ ap (λ (l : List ℕ). times (sum l) (spent_by v) (get_or residual e nan)) (sym (map_from_one old i d (omega (arith, all)) (λ j s. gone v j s e)))
            ∙ freezing.spent e k

        module _ (table' : List ℕ) (is_table : table' ≡ cond (freezes own_path v i was) (at_each_crossing path (λ n. n - 1) table) table) where
          table_length : length table' ≡ 64
          table_length = ap length is_table ∙ go (freezes own_path v i was)
            where
              go : (b : Bool) → length (cond b (at_each_crossing path (λ n. n - 1) table) table) ≡ 64
              go true = length_crossing path (λ n. n - 1) table ∙ freezing.loads
              go false = freezing.loads

          table_at : (e : ℕ) → e < 64 → get_or table' e 0 ≡ get_or table e 0 - gone v i was e
          table_at e k = ap (λ (l : List ℕ). get_or l e 0) is_table ∙ go (freezes own_path v i was)
            where
              go : (b : Bool) → get_or (cond b (at_each_crossing path (λ n. n - 1) table) table) e 0 ≡ get_or table e 0 - cond b (crossings e path) 0
              go true = lowered path table e (omega (arith, freezing.loads))
              go false = omega arith

          loaded_one : (e : ℕ) → e < 64 → get_or table' e 0 + load own_path (drop (i + 1) new) e ≡ load own_path new e + load own_path (drop (i + 1) old) e
          loaded_one e k =
              let both = stands e k in
              omega (arith, both.0, both.1, waits_or_gone v i was e, table_at e k)

          pub freezing_one : (s : Seat) (left' : ℕ) → s ≡ freeze own_path v i was → left' ≡ left + cond s.unfrozen 1 0 → Freezing whole (set seats i s) residual' table' left' (i + 1)
          freezing_one s left' is-seat is-left = record {
            within = omega arith;
            places = length-set seats i s ∙ freezing.places;
            behind = drop-set-lt (i + 1) seats i s (omega arith) ∙ sym (drop-drop 1 i seats) ∙ ap (drop 1) freezing.behind ∙ drop-drop 1 i old;
            done = rw (is-seat, is_old) (map_from_take (freeze own_path v) old seats i d no_seat (omega (arith, all)) (omega (arith, freezing.places)) freezing.done);
            edges = residual_length;
            spent = spent_one;
            loads = table_length;
            loaded = loaded_one;
            few = omega (arith, freezing.few, is-left, at_most s.unfrozen);
            counted = omega (arith, freezing.counted, is-left, count_one new i no_seat (omega (arith, new_length)) (λ (z : Seat). z.unfrozen), ap {B = ℕ} (λ (z : Seat). cond z.unfrozen 1 0) (new_at ∙ sym is-seat));
          }
            where
              at_most : (b : Bool) → cond b 1 0 ≤ 1
              at_most true = omega arith
              at_most false = omega arith

    module _ (over : 256 ≤ i) where
      pub seats_done : seats ≡ new
      seats_done = sym (take_all i seats (omega (arith, freezing.places))) ∙ freezing.done ∙ take_all i new (omega (arith, new_length))

      pub edges_done : length whole ≡ 64 → residual ≡ map_from 0 (λ e r. times (crossings_frozen own_path v old e) (spent_by v) r) whole
      unfolding times sum map_from
      edges_done edges =
          ext_get_or nan residual (map_from 0 (λ e r. times (crossings_frozen own_path v old e) (spent_by v) r) whole) (freezing.edges ∙ sym edges ∙ sym (length_map_from 0 (λ e r. times (crossings_frozen own_path v old e) (spent_by v) r) whole))
          (λ e h.
          let z : 0 + e ≡ e = omega arith in
          let k : e < 64 = omega (arith, freezing.edges) in
          ap (λ (l : List Seat). times (sum (map_from i (λ j s. gone v j s e) l)) (spent_by v) (get_or residual e nan)) (sym (drop_of_length-le old {i = i} (omega (arith, all))))
          ∙ freezing.spent e k
          ∙ ap (λ (n : ℕ). times (crossings_frozen own_path v old n) (spent_by v) (get_or whole e nan)) (sym z)
          ∙ sym (getD_map_from 0 (λ e r. times (crossings_frozen own_path v old e) (spent_by v) r) whole e nan nan (omega (arith, edges))))

      pub loads_done : Loads new table
      loads_done = record {
        places = freezing.loads;
        right = λ e h. omega (arith, freezing.loaded e h, ap (λ (l : List Seat). load own_path l e) (drop_of_length-le new {i = i} (omega (arith, new_length))), ap (λ (l : List Seat). load own_path l e) (drop_of_length-le old {i = i} (omega (arith, all))), load_nil e);
      }

      pub count_done : left ≡ count (λ (s : Seat). s.unfrozen) new
      unfolding count
      count_done = omega (arith, freezing.counted, ap (count (λ (s : Seat). s.unfrozen)) (drop_of_length-le new {i = i} (omega (arith, new_length))))
