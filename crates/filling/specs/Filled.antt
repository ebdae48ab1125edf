-- What a filling asks of the slots, and its scratch as it begins. Definitions only.
use Rattle.std.specs.Prelude.{ℕ, ◌≤◌, ◌≡◌, List, get_or}
use Rattle.rules.specs.declared.Transfer.{Transfer}
use Rattle.rules.specs.Records.{max_edges, max_slots, free, own_path}
use Rattle.rules.specs.Invariant.{SoundRoute, SoundCap}
use Rattle.rules.specs.Filling.{no_seat}
use Rattle.fairness.specs.Ready.{Ready}
use Rattle.rounds.specs.declared.Scratch.{Scratch}
use Rattle.rounds.specs.Standing.{filling, Standing}

-- What a filling asks of the slots: paths over places of the edge table, and plain caps.
pub record Fillable (slots : List Transfer) : Type 0 where
  pub paths : (i : ℕ) → SoundRoute max_edges (get_or slots i free).path
  pub caps : (i : ℕ) → SoundCap (get_or slots i free).rate_cap

-- A scratch as a filling begins.
pub record Begun (f : Scratch) : Type 0 where
  pub standing : Standing f
  pub ready : Ready own_path (filling f)
  pub caps : (i : ℕ) → SoundCap (get_or f.seats i no_seat).transfer.rate_cap
  pub none_passed : f.cap_cursor ≡ 0
  pub no_rounds : f.rounds ≡ 0
  pub few : f.unfrozen ≤ max_slots
