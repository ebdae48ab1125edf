-- A filling begins with nothing given: whoever is of the demand is unfrozen, every edge has its whole capacity left, and its load is all its crossings. Assumes nothing.
use mathlib.Core.Path.{◌≡◌, refl, sym, ◌∙◌}
use mathlib.Core.Bool.{Bool, true, false, cond, true≢false}
use mathlib.Core.List.{List, [], ◌∷◌, map}
use Prim.Native.Nat.{ℕ, suc, ◌*◌, ◌≤◌}
use native.Mathlib.Omega.{arith}
use lib.Dec.{eqb}
use lib.ListN.{length, get_or, get_or-map}
use lib.Ieee.{Float}
use borrow.Author.Tests.{lt-ltb}
use Rattle.doubles.specs.Doubles.{Plain}
use Rattle.doubles.specs.Exact.{exact}
use Rattle.rules.specs.declared.Cap.TheVariants.{AtMost}
use Rattle.rules.specs.declared.Limit.TheVariants.{Nowhere}
use Rattle.rules.specs.declared.Edge.{Edge}
use Rattle.rules.specs.declared.Transfer.{Transfer}
use Rattle.rules.specs.declared.Seat.{Seat}
use Rattle.rules.specs.Lists.{sum, crossings}
use Rattle.rules.specs.Records.{blank_edge, free}
use Rattle.rules.specs.Filling.{takes_part, Filling, with_rate, lone_rate, entered, seat, start, load, no_seat, seat_at}
use Rattle.rules.specs.Fair.{in_demand}
use Rattle.fairness.proofs.Reading.{KeepsPath}
use Rattle.rules.proofs.Counting.{count_all}
use Rattle.fairness.proofs.Choice.{left_of, load_of}
use Rattle.fairness.proofs.Start.{Enters, seat_enters, start_seat, start_edges}
use Rattle.fairness.proofs.Edge.{account_start}
use Rattle.fairness.proofs.Sums.{given, gone, spent, crossed_by, carried_by, in_demand_kept}
use Rattle.fairness.proofs.Settled.{capacity_of, Kept, Fills}

sum_none : {A : Type 0} (g : A → ℕ) (xs : List A) (d : A) → ((i : ℕ) → g (get_or xs i d) ≡ 0) → sum (map g xs) ≡ 0
unfolding sum
sum_none g [] d h = refl
sum_none g (x ∷ xs) d h = omega (arith, h 0, sum_none g xs d (λ i. h (suc i)))

module _ (path : Transfer → List ℕ) where
  -- the load of an edge is no more than the entries of all paths
  pub load_few : (slots : List Transfer) (e : ℕ) → load path (map (seat path) slots) e ≤ sum (map (λ t. length (path t)) slots)
  unfolding load sum crossings
  load_few [] e = omega arith
  load_few (t ∷ slots) e = omega (arith, load_few slots e, go (seat path t).unfrozen (seat_enters path t))
    where
      go : (b : Bool) → (b ≡ true → Enters path t) → cond b (crossings e (path (seat path t).transfer)) 0 ≤ length (path t)
      go true h = rw (h refl).same (count_all (eqb e) (path t))
      go false h = omega arith

  module _ (kept : KeepsPath path) (edges : List Edge) where
    -- who starts unfrozen is of the demand
    pub enters_in_demand : (t : Transfer) → Enters path t → in_demand path t ≡ true
    unfolding in_demand
    enters_in_demand t enters = rw (enters.takes, lt-ltb 0 (length (path t)) enters.some) refl

    -- and who is of the demand starts unfrozen
    seat_not_given : (t : Transfer) → given path edges (seat path t) ≡ false
    unfolding seat entered in_demand
    seat_not_given t = go (takes_part t) refl (path t) refl
      where
        go : (b : Bool) → takes_part t ≡ b → (p : List ℕ) → path t ≡ p → given path edges (cond b (entered p t) (record { transfer = with_rate t.rate Nowhere t; unfrozen = false })) ≡ false
        go false e p q = in_demand_kept path edges kept t.rate Nowhere t ∙ rw e refl
        go true e [] q = in_demand_kept path edges kept (lone_rate t.rate_cap) Nowhere t ∙ rw (q, e) refl
        go true e (x ∷ p) q = refl

    module _ (slots : List Transfer) where
      abbrev begin : Filling
      begin = start path edges slots

      pub none_given : (i : ℕ) → given path edges (seat_at begin i) ≡ false
      none_given i = rw (start_seat path edges slots i) (seat_not_given (get_or slots i free))

      -- so nothing of it is given or carried
      none_counts : (n : Seat → ℕ) (i : ℕ) → cond (given path edges (seat_at begin i)) (n (seat_at begin i)) 0 ≡ 0
      none_counts n i = rw (none_given i) refl

      begin_left : (e : ℕ) → left_of path begin e ≡ capacity_of edges e
      unfolding start
      begin_left e = get_or-map (λ (edge : Edge). edge.capacity) edges e blank_edge

      begin_account : (e : ℕ) → Plain (capacity_of edges e) → Kept path edges (load_of path begin) begin e
      begin_account e p =
          let nothing : spent path edges e begin.seats ≡ 0 = sum_none (carried_by path edges e) begin.seats no_seat (none_counts (λ (s : Seat). crossings e (path s.transfer) * exact s.transfer.rate)) in
          let nobody : gone path edges e begin.seats ≡ 0 = sum_none (crossed_by path edges e) begin.seats no_seat (none_counts (λ (s : Seat). crossings e (path s.transfer))) in
          rw (nothing, nobody, begin_left e) (account_start p (load_of path begin e))

      pub fills_start : ((e : ℕ) → Plain (capacity_of edges e)) → ((i : ℕ) → takes_part (get_or slots i free) ≡ true → (c : Float) → (get_or slots i free).rate_cap ≡ AtMost c → Plain c)
          → Fills path edges (load_of path begin) begin
      fills_start plain_capacity plain_caps = record {
        long = start_edges path edges slots;
        demanding = λ i u. let enters = enters_at i u in rw (start_seat path edges slots i, enters.same) (enters_in_demand (get_or slots i free) enters);
        plain_caps = λ i u c k. let enters = enters_at i u in plain_caps i enters.takes c (rw (start_seat path edges slots i, enters.same) at k);
        accounts = λ e known. begin_account e (plain_capacity e);
        settled = λ i g. absurd (true≢false (sym g ∙ none_given i));
      }
        where
          enters_at : (i : ℕ) → (seat_at begin i).unfrozen ≡ true → Enters path (get_or slots i free)
          enters_at i u = seat_enters path (get_or slots i free) (rw (start_seat path edges slots i) at u)
