-- A filling starts with each slot seated, whoever takes part with a path unfrozen; under the invariant such paths run over edges that there are, so the filling is
-- ready, ends with none unfrozen, and takes at most one round for each that was. Assumes nothing.
use mathlib.Core.Path.{◌≡◌, refl, sym}
use mathlib.Core.Bool.{Bool, true, false, ◌&&◌, cond, true≢false}
use mathlib.Core.List.{List, [], ◌∷◌}
use Prim.Native.Nat.{ℕ, ◌≤◌, ◌<◌}
use native.Mathlib.Omega.{arith}
use lib.ListN.{length, get_or, length-map, get_or-map}
use lib.Seq.{get_or-take, length-take-le}
use Rattle.doubles.specs.Doubles.{◌≺◌}
use Rattle.rules.specs.declared.Limit.TheVariants.{Nowhere}
use Rattle.rules.specs.declared.Edge.{Edge}
use Rattle.rules.specs.declared.Transfer.{Transfer}
use Rattle.rules.specs.declared.Flows.{Flows}
use Rattle.rules.specs.Tolerance.{B}
use Rattle.rules.specs.Records.{free, own_path, path_of}
use Rattle.rules.specs.Filling.{takes_part, Filling, with_rate, lone_rate, entered, seat, start, num_unfrozen, recompute_rates, seat_at}
use Rattle.rules.specs.Invariant.{SoundRoute, SoundTransfer, Invariant}
use Rattle.fairness.specs.Ready.{Ready}
use Rattle.fairness.proofs.Reading.{Steady, KeepsPath}
use Rattle.fairness.proofs.Rounds.{rounds_bound, in_the_end}

-- ---- seats at the start

module _ (path : Transfer → List ℕ) where
  -- who starts unfrozen takes part and has a path
  pub record Enters (t : Transfer) : Type 0 where
    pub takes : takes_part t ≡ true
    pub some : 0 < length (path t)
    pub same : (seat path t).transfer ≡ t

  pub seat_enters : (t : Transfer) → (seat path t).unfrozen ≡ true → Enters t
  unfolding seat entered
  seat_enters t h = go (takes_part t) refl (path t) refl h
    where
      go : (b : Bool) → takes_part t ≡ b → (p : List ℕ) → path t ≡ p → (cond b (entered p t) (record { transfer = with_rate t.rate Nowhere t; unfrozen = false })).unfrozen ≡ true → Enters t
      go false e p q h = absurd (true≢false (sym h))
      go true e [] q h = absurd (true≢false (sym h))
      go true e (x ∷ p) q h = record { takes = e; some = rw q (omega arith); same = rw (q, e) refl }

  -- a transfer keeps all but its rate and limit
  pub seat_keeps : {A : Type 0} (g : Transfer → A) → Steady g → (t : Transfer) → g (seat path t).transfer ≡ g t
  unfolding seat entered
  seat_keeps g kept t = go (takes_part t) (path t)
    where
      go : (b : Bool) (p : List ℕ) → g (cond b (entered p t) (record { transfer = with_rate t.rate Nowhere t; unfrozen = false })).transfer ≡ g t
      go false p = kept t.rate Nowhere t
      go true [] = kept (lone_rate t.rate_cap) Nowhere t
      go true (e ∷ p) = refl

  -- who starts frozen has no limit
  pub seat_nowhere : (t : Transfer) → (seat path t).unfrozen ≡ false → (seat path t).transfer.limit ≡ Nowhere
  unfolding seat entered with_rate
  seat_nowhere t = go (takes_part t) (path t)
    where
      go : (b : Bool) (p : List ℕ) → let s = cond b (entered p t) (record { transfer = with_rate t.rate Nowhere t; unfrozen = false }) in s.unfrozen ≡ false → s.transfer.limit ≡ Nowhere
      go false p h = refl
      go true [] h = refl
      go true (e ∷ p) h = absurd (true≢false h)

  pub start_seat : (edges : List Edge) (slots : List Transfer) (i : ℕ) → seat_at (start path edges slots) i ≡ seat path (get_or slots i free)
  unfolding start seat takes_part with_rate
  start_seat edges slots i = get_or-map (seat path) slots i free

  pub start_edges : (edges : List Edge) (slots : List Transfer) → length (start path edges slots).residual ≡ length edges
  unfolding start
  start_edges edges slots = length-map edges (λ (e : Edge). e.capacity)

  pub start_ready : (edges : List Edge) (slots : List Transfer) → ((i : ℕ) → takes_part (get_or slots i free) ≡ true → (k : ℕ) → k < length (path (get_or slots i free)) → get_or (path (get_or slots i free)) k 0 < length edges)
      → Ready path (start path edges slots)
  start_ready edges slots known i u =
      let enters = seat_enters (get_or slots i free) (rw (start_seat edges slots i) at u) in
      rw (start_seat edges slots i, enters.same, start_edges edges slots) (record { some = enters.some; known = known i enters.takes })

-- ---- under the invariant

pub own_path_kept : KeepsPath own_path
unfolding own_path with_rate
own_path_kept rate limit t = refl

pub takes_part_taken : (t : Transfer) → takes_part t ≡ true → t.taken ≡ true
unfolding takes_part
takes_part_taken t h = go t.taken (B ≺ t.bytes_remaining) h
  where
    go : (b c : Bool) → (b && c) ≡ true → b ≡ true
    go true c h = refl
    go false c h = h

-- a sound route as read: its length, and its numbers
module _ (n : ℕ) (t : Transfer) (sound : SoundRoute n t.path) where
  pub own_path_length : length (own_path t) ≡ t.path.len
  unfolding own_path
  own_path_length = length-take-le t.path.len t.path.hops (omega (arith, sound.places, sound.short))

  pub own_path_known : (k : ℕ) → k < length (own_path t) → get_or (own_path t) k 0 < n
  unfolding own_path
  own_path_known k h = let inside : k < t.path.len = omega (arith, own_path_length) in rw (get_or-take t.path.len t.path.hops k 0 inside) (sound.known k inside)

module _ (f : Flows) (inv : Invariant f) where
  pub sound_taken : (i : ℕ) → (get_or f.in_flight i free).taken ≡ true → SoundTransfer f (get_or f.in_flight i free)
  sound_taken i h = (inv.slots i).held h

  pub paths_known : (i : ℕ) → takes_part (get_or f.in_flight i free) ≡ true → (k : ℕ) → k < length (path_of f (get_or f.in_flight i free)) → get_or (path_of f (get_or f.in_flight i free)) k 0 < length f.edges
  paths_known i takes k h =
      let t = get_or f.in_flight i free in
      omega (arith, own_path_known f.num_edges t (sound_taken i (takes_part_taken t takes)).path k h, inv.few_edges, inv.edge_places)

  pub filling_ready : Ready (path_of f) (start (path_of f) f.edges f.in_flight)
  filling_ready = start_ready own_path f.edges f.in_flight paths_known

  -- the filling ends with none unfrozen
  pub filling_ends : num_unfrozen (recompute_rates (path_of f) f.edges f.in_flight) ≡ 0
  unfolding recompute_rates
  filling_ends =
      let s = start own_path f.edges f.in_flight in
      (in_the_end own_path own_path_kept (λ (g : Filling). Unit {0}) (λ g ready some_left p. tt) (num_unfrozen s) s filling_ready tt (omega arith)).1

  -- after at most as many rounds as there were at first
  pub filling_rounds : (recompute_rates (path_of f) f.edges f.in_flight).rounds ≤ num_unfrozen (start (path_of f) f.edges f.in_flight)
  unfolding recompute_rates start
  filling_rounds =
      let s = start own_path f.edges f.in_flight in
      omega (arith, rounds_bound own_path (num_unfrozen s) s)
