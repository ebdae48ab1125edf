-- The cases hold: the definitions, computed on the fresh simulator, give what each table says. Assumes nothing.
use mathlib.Core.Path.{◌≡◌, refl}
use mathlib.Core.Bool.{true}
use Rattle.rules.specs.Cases.{CasesHold, holds, vault_door, collection, edge_limit, both_sides, crossing_by_crossing, lowest_first, stalled_read, watched_read, watched_latency, AtNoRate, floor_cases, floor_holds, holds_coarsely, listed_early, latency_is_none, done_but_unlisted, three_reads, told_at_equality, told_none}
use Rattle.rules.specs.Lists.{all}
use Rattle.rules.proofs.Everything.{everything}

-- the twelve that are marked
pub cases_hold : CasesHold
unfolding everything
cases_hold = refl

pub vault_door_holds : holds vault_door ≡ true
unfolding everything
vault_door_holds = refl

pub collection_holds : holds collection ≡ true
unfolding everything
collection_holds = refl

pub edge_limit_holds : holds edge_limit ≡ true
unfolding everything
edge_limit_holds = refl

pub both_sides_holds : holds both_sides ≡ true
unfolding everything
both_sides_holds = refl

pub crossing_by_crossing_holds : holds crossing_by_crossing ≡ true
unfolding everything
crossing_by_crossing_holds = refl

pub lowest_first_holds : holds lowest_first ≡ true
unfolding everything
lowest_first_holds = refl

pub stalled_read_holds : holds stalled_read ≡ true
unfolding everything
stalled_read_holds = refl

pub watched_read_holds : holds watched_read ≡ true
unfolding everything
watched_read_holds = refl

pub watched_latency_holds : holds watched_latency ≡ true
unfolding everything
watched_latency_holds = refl

pub at_no_rate : AtNoRate
unfolding everything
at_no_rate = (refl, refl)

pub floors_hold : all floor_holds floor_cases ≡ true
unfolding everything
floors_hold = refl

pub listed_early_holds : holds_coarsely listed_early ≡ true
unfolding everything
listed_early_holds = refl

pub latency_is_none_holds : holds_coarsely latency_is_none ≡ true
unfolding everything
latency_is_none_holds = refl

pub done_but_unlisted_holds : holds_coarsely done_but_unlisted ≡ true
unfolding everything
done_but_unlisted_holds = refl

pub three_reads_holds : holds three_reads ≡ true
unfolding everything
three_reads_holds = refl

pub told_at_equality_holds : holds told_at_equality ≡ true
unfolding everything
told_at_equality_holds = refl

pub told_none_holds : holds told_none ≡ true
unfolding everything
told_none_holds = refl
