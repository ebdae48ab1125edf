-- A table of edges stays sound with one more edge behind the last, or with a sound one in another's place; and the rest of a drained simulator does not mind. Assumes
-- nothing.
use Prim.Native.Nat.{ℕ, ◌≤◌, ◌<◌}
use native.Mathlib.Omega.{arith}
use mathlib.Core.Path.{refl, ◌∙◌}
use mathlib.Core.List.{List}
use lib.ListN.{get_or, set, length-set}
use lib.Seq.{get_or-set_other}
use Rattle.rules.specs.declared.Edge.{Edge}
use Rattle.rules.specs.declared.Completion.{Completion}
use Rattle.rules.specs.declared.Flows.{Flows}
use Rattle.rules.specs.Lists.{update}
use Rattle.rules.specs.Records.{max_edges, blank_edge, with_edges}
use Rattle.rules.specs.Invariant.{SoundEdge}
use Rattle.rules.proofs.Steps.{update_is}
use Rattle.rules.proofs.Each.{each_set}
use Rattle.keeps.proofs.Parts.{EdgesSound}
use Rattle.keeps.proofs.Drained.{Drained, slot_in}

module _ {edges : List Edge} {n : ℕ} (sound : EdgesSound edges n) where
  pub edge_set : (k m : ℕ) (e : Edge) → k < m → n ≤ m → m ≤ max_edges → SoundEdge e → EdgesSound (set edges k e) m
  edge_set k m e inside more few s = record {
    places = length-set edges k e ∙ sound.places;
    few = few;
    sound = each_set SoundEdge blank_edge edges k e sound.sound s;
    blank = λ j h. get_or-set_other edges k j e blank_edge (omega arith) ∙ sound.blank j (omega arith);
  }

  pub edge_update : (k : ℕ) (change : Edge → Edge) → k < n → SoundEdge (change (get_or edges k blank_edge)) → EdgesSound (update k change edges) n
  edge_update k change inside s = rw (update_is k change edges blank_edge) (edge_set k n (change (get_or edges k blank_edge)) inside (omega arith) sound.few s)

pub other_edges : {owed : List Completion} {f : Flows} → Drained owed f → (edges : List Edge) (n : ℕ) → f.num_edges ≤ n → EdgesSound edges n → Drained owed (with_edges edges n f)
unfolding with_edges
other_edges {owed} {f} d edges n more sound = record {
  tolerance = d.tolerance;
  clock = d.clock;
  edges = sound;
  queue = d.queue;
  crowd = d.crowd;
  each = λ i. slot_in f (with_edges edges n f) more refl (d.each i);
  at_clock = d.at_clock;
  totals = d.totals;
}
