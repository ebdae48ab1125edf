-- Whoever is unfrozen in a filling has load on its path, as a test tells. Assumes nothing.
use mathlib.Core.Path.{◌≡◌, refl}
use mathlib.Core.Bool.{Bool, true, false, not, ◌&&◌, ◌||◌}
use mathlib.Core.List.{List}
use Prim.Native.Nat.{ℕ}
use borrow.Author.Tests.{lt-ltb}
use lib.Dec.{ltb}
use lib.ListN.{length}
use Rattle.rules.specs.declared.Transfer.{Transfer}
use Rattle.rules.specs.Filling.{Filling, load, seat_at}
use Rattle.rules.specs.Promises.{load_on_path}
use Rattle.rules.proofs.Crossings.{crossed_any}
use Rattle.fairness.specs.Ready.{Ready}
use Rattle.fairness.proofs.Loads.{unfrozen_has_load}

module _ (path : Transfer → List ℕ) where
  pub load_seen : (f : Filling) → Ready path f → (i : ℕ) → (not (seat_at f i).unfrozen || load_on_path path f (seat_at f i)) ≡ true
  load_seen f ready i = go (seat_at f i).unfrozen refl
    where
      go : (b : Bool) → (seat_at f i).unfrozen ≡ b → (not b || load_on_path path f (seat_at f i)) ≡ true
      go false u = refl
      go true u =
          let l = unfrozen_has_load path f ready i u in
          let e = l.0.edge in
          let seen : (ltb e (length f.residual) && ltb 0 (load path f.seats e)) ≡ true = rw (lt-ltb e (length f.residual) l.0.known, lt-ltb 0 (load path f.seats e) l.0.loaded) refl in
          crossed_any (λ e. ltb e (length f.residual) && ltb 0 (load path f.seats e)) e (path (seat_at f i).transfer) l.1 seen
