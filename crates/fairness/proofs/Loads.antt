-- While a seat is unfrozen an edge on its path has load, so there is a winning edge; and why a round decides as it does. Assumes nothing.
use mathlib.Core.Path.{◌≡◌, refl, sym, ◌∙◌}
use mathlib.Core.Logic.{◌⊎◌, inl, inr}
use mathlib.Core.Bool.{Bool, true, false, cond, true≢false}
use mathlib.Core.List.{List, [], ◌∷◌}
use Prim.Native.Nat.{ℕ, zero, suc, ◌+◌, ◌≤◌, ◌<◌}
use native.Mathlib.Omega.{arith}
use lib.ListN.{length, get_or}
use lib.Ieee.{Float}
use Rattle.doubles.specs.Doubles.{◌⊘◌, ◌≺◌, nought, whole}
use Rattle.rules.specs.declared.Cap.TheVariants.{AtMost}
use Rattle.rules.specs.declared.Transfer.{Transfer}
use Rattle.rules.specs.declared.Seat.{Seat}
use Rattle.rules.specs.declared.Best.{Best}
use Rattle.rules.specs.declared.Best.TheVariants.{At, Nobody}
use Rattle.rules.specs.declared.Share.{Share}
use Rattle.rules.specs.declared.Verdict.{Verdict}
use Rattle.rules.specs.declared.Verdict.TheVariants.{ByCap, ByEdge}
use Rattle.rules.specs.Lists.{crossings}
use Rattle.rules.specs.Filling.{Filling, tightest, load, share, winning_edge, own_cap, smallest_cap, verdict, num_unfrozen, no_seat, seat_at}
use Rattle.fairness.specs.Ready.{Ready}
use Rattle.rules.proofs.Counting.{some_of_count}
use Rattle.rules.proofs.Sums.{sum_at, sum_some}
use Rattle.rules.proofs.Crossings.{crosses_at}
use Rattle.fairness.proofs.Tightest.{tightest_among, no_candidate, own_cap_at}
use Rattle.fairness.proofs.Shares.{smallest_has}

pub unfrozen_inside : (seats : List Seat) (i : ℕ) → (get_or seats i no_seat).unfrozen ≡ true → i < length seats
unfrozen_inside [] i h = absurd (true≢false (sym h))
unfrozen_inside (s ∷ seats) zero h = omega arith
unfrozen_inside (s ∷ seats) (suc i) h = omega (arith, unfrozen_inside seats i h)

module _ (path : Transfer → List ℕ) where
  -- ---- loads

  -- whoever is unfrozen and crosses an edge is part of its load
  pub waits_in_load : (seats : List Seat) (i e : ℕ) → (get_or seats i no_seat).unfrozen ≡ true → crossings e (path (get_or seats i no_seat).transfer) ≤ load path seats e
  unfolding load
  waits_in_load seats i e u =
      let part : crossings e (path (get_or seats i no_seat).transfer) ≤ cond (get_or seats i no_seat).unfrozen (crossings e (path (get_or seats i no_seat).transfer)) 0 = rw u (omega arith) in
      omega (arith, part, sum_at (λ (s : Seat). cond s.unfrozen (crossings e (path s.transfer)) 0) seats i no_seat (unfrozen_inside seats i u))

  -- and an edge with load is crossed by somebody unfrozen
  pub load_is_waited : (seats : List Seat) (e : ℕ) → 0 < load path seats e → (i : ℕ) × ((get_or seats i no_seat).unfrozen ≡ true) × (0 < crossings e (path (get_or seats i no_seat).transfer))
  unfolding load
  load_is_waited seats e l =
      let r = sum_some (λ (s : Seat). cond s.unfrozen (crossings e (path s.transfer)) 0) seats no_seat l in
      let q = go (get_or seats r.0 no_seat).unfrozen r.2 in
      (r.0, q.0, q.1)
    where
      go : {n : ℕ} (b : Bool) → 0 < cond b n 0 → (b ≡ true) × (0 < n)
      go true h = (refl, h)
      go false h = absurd (omega arith)

  -- an edge of the filling that has load
  pub record LoadedEdge (f : Filling) : Type 0 where
    pub edge : ℕ
    pub known : edge < length f.residual
    pub loaded : 0 < load path f.seats edge

  -- whoever is unfrozen has such an edge on its path
  pub unfrozen_has_load : (f : Filling) → Ready path f → (i : ℕ) → (seat_at f i).unfrozen ≡ true → (l : LoadedEdge f) × (0 < crossings l.edge (path (seat_at f i).transfer))
  unfrozen_has_load f ready i u =
      let rides = ready i u in
      let p = path (seat_at f i).transfer in
      let some : 0 < length p = omega (arith, rides.some) in
      let crossed = crosses_at p 0 some in
      (record { edge = get_or p 0 0; known = omega (arith, rides.known 0 some); loaded = omega (arith, crossed, waits_in_load f.seats i (get_or p 0 0) u) }, crossed)

  -- so there is one while somebody is
  pub some_load : (f : Filling) → Ready path f → 0 < num_unfrozen f → LoadedEdge f
  unfolding num_unfrozen
  some_load f ready some_left =
      let i = some_of_count (λ (s : Seat). s.unfrozen) f.seats no_seat some_left in
      (unfrozen_has_load f ready i.0 i.2).0

  -- ---- the winning edge

  -- it is an edge that there is and that has load, with its share
  pub record Winning (f : Filling) (w : Share) : Type 0 where
    pub known : w.edge < length f.residual
    pub loaded : 0 < load path f.seats w.edge
    pub is_share : w.share ≡ get_or f.residual w.edge nought ⊘ whole (load path f.seats w.edge)

  pub winning_is : (f : Filling) → LoadedEdge f → Winning f (winning_edge path f)
  unfolding winning_edge share
  winning_is f l = smallest_has (load path f.seats) (Winning f) f.residual (λ j h k. record { known = h; loaded = k; is_share = refl }) l.edge l.known l.loaded

  -- ---- the smallest cap

  -- it is the cap of somebody unfrozen
  pub record Smallest (f : Filling) (i : ℕ) (c : Float) : Type 0 where
    pub waits : (seat_at f i).unfrozen ≡ true
    pub is_cap : (seat_at f i).transfer.rate_cap ≡ AtMost c

  pub smallest_is : (f : Filling) (i : ℕ) (c : Float) → smallest_cap f ≡ At i c → Smallest f i c
  unfolding smallest_cap tightest
  smallest_is f i c h = go (tightest_among (λ j s. own_cap j s.unfrozen s.transfer.rate_cap) 0 f.seats no_seat Nobody)
    where
      at : (j : ℕ) → j ≡ i → (seat_at f j).unfrozen ≡ true → (seat_at f j).transfer.rate_cap ≡ AtMost c → Smallest f i c
      at j q u k = record { waits = rw q at u; is_cap = rw q at k }

      go : (smallest_cap f ≡ Nobody) ⊎ ((j : ℕ) × (j < length f.seats) × (smallest_cap f ≡ own_cap (0 + j) (seat_at f j).unfrozen (seat_at f j).transfer.rate_cap)) → Smallest f i c
      go (inl q) = no_candidate (sym q ∙ h)
      go (inr (j, l, q)) =
          let z : 0 + j ≡ j = omega arith in
          let r = own_cap_at j (seat_at f j).unfrozen (seat_at f j).transfer.rate_cap i c (sym (rw z at q) ∙ h) in
          at j r.1 r.0 r.2

  -- ---- the verdict

  -- why a verdict: the smallest cap lies strictly below the winning edge's share, or it does not
  abbrev pub Decided : Filling → Verdict → Type 0
  Decided f (ByCap i c) = (smallest_cap f ≡ At i c) × ((c ≺ (winning_edge path f).share) ≡ true)
  Decided f (ByEdge e x) = (e ≡ (winning_edge path f).edge) × (x ≡ (winning_edge path f).share) × ((i : ℕ) (c : Float) → smallest_cap f ≡ At i c → (c ≺ x) ≡ false)

  pub verdict_decided : (f : Filling) → Decided f (verdict (smallest_cap f) (winning_edge path f))
  unfolding verdict
  verdict_decided f = go (smallest_cap f) refl
    where
      w : Share
      w = winning_edge path f

      go : (b : Best) → smallest_cap f ≡ b → Decided f (verdict b w)
      go Nobody p = (refl, refl, λ i c h. no_candidate (sym p ∙ h))
      go (At i c) p = pick (c ≺ w.share) refl
        where
          pick : (b : Bool) → (c ≺ w.share) ≡ b → Decided f (cond b (ByCap i c) (ByEdge w.edge w.share))
          pick true r = (p, r)
          pick false r = (refl, refl, λ j d h. same j d (sym p ∙ h))
            where
              same : (j : ℕ) (d : Float) → At i c ≡ At j d → (d ≺ w.share) ≡ false
              same j d h = let z : d ≡ c = cc in rw z r
