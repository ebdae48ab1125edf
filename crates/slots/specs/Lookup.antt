-- Where something is found in the table of transfers. Definitions only.
use Rattle.std.specs.Prelude.{ℕ, suc, cond, List, [], ◌∷◌}
use Rattle.rules.specs.declared.Transfer.{Transfer}
use Rattle.rules.specs.Records.{has_id}
use Rattle.slots.specs.declared.Lookup.{Lookup}
use Rattle.slots.specs.declared.Lookup.TheVariants.{Slot, Nowhere}

-- The lowest of some slots, numbered from n, that holds the transfer with that id.
unfoldable pub lookup_from : ℕ → ℕ → List Transfer → Lookup
lookup_from n id [] = Nowhere
lookup_from n id (t ∷ slots) = let past = lookup_from (suc n) id slots in cond (has_id id t) (Slot n) past

-- The lowest slot that holds the transfer with that id.
unfoldable pub lookup : ℕ → List Transfer → Lookup
lookup id slots = lookup_from 0 id slots

-- The lowest free slot, which is the number of taken ones before it. (01, Sizes)
unfoldable pub first_free : List Transfer → ℕ
first_free [] = 0
first_free (t ∷ slots) = let past = suc (first_free slots) in cond t.taken past 0
