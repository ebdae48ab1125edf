-- What was submitted is in flight, completed or cancelled: counted from the calls and what they said, not from the simulator's counters. (01, Clock) Statement only.
use Rattle.std.specs.Prelude.{ℕ, zero, suc, ◌+◌, ◌≡◌, Bool, true, false, not, cond, eqb, Float}
use mathlib.Core.List.{List, [], ◌∷◌, ◌++◌, map, foldl}
use Rattle.rules.specs.declared.Owner.{Owner}
use Rattle.rules.specs.declared.Answer.{Answer}
use Rattle.rules.specs.declared.Answer.TheVariants.{Done, Added, Listed, Nothing, Unknown, CannotFinish, Value, Due, Limited, Refused}
use Rattle.rules.specs.declared.Flows.{Flows}
use Rattle.rules.specs.declared.Call.{Call}
use Rattle.rules.specs.declared.Call.TheVariants.{Advance, Submit, Cancel, AddEdge, Widen, TakeCompleted, OwnersWithCompletions, NextCompletionDelay, EstimateNew, Settle, Remaining, MeanInFlight, Rate, Bottleneck, Edge, Contains, Rounds}
use Rattle.rules.specs.declared.Said.{Said}
use Rattle.rules.specs.declared.Said.TheVariants as Said_variants
use Rattle.rules.specs.Lists.{count, those}
use Rattle.rules.specs.Records.{owner_kind, tally_of}
use Rattle.rules.specs.Floors.{with_floor}
use Rattle.rules.specs.Invariant.{of_kind}
use Rattle.rules.specs.Histories.{Turn, after, run_with_floor}

-- A transfer as the calls name it: its id, and the number of its owner's kind.
pub record Entry : Type 0 where
  pub id : ℕ
  pub kind : ℕ

-- What a listener has noted: who is in flight, and the kinds of all that were submitted, completed and cancelled.
pub record Ledger : Type 0 where
  pub in_flight : List Entry
  pub submitted : List ℕ
  pub completed : List ℕ
  pub cancelled : List ℕ

-- Before any call.
abbrev pub nothing_noted : Ledger
nothing_noted = record { in_flight = []; submitted = []; completed = []; cancelled = [] }

-- Whether an entry has that id.
unfoldable pub has_entry : ℕ → Entry → Bool
has_entry id e = eqb e.id id

-- An id leaves those in flight.
unfoldable pub without : ℕ → List Entry → List Entry
without id entries = those (λ e. not (has_entry id e)) entries

-- The kinds under which an id was in flight.
unfoldable pub kinds_of : ℕ → List Entry → List ℕ
kinds_of id entries = map (λ e. e.kind) (those (has_entry id) entries)

-- A submission noted.
unfoldable pub note_submitted : ℕ → ℕ → Ledger → Ledger
note_submitted id kind l = record { in_flight = record { id = id; kind = kind } ∷ l.in_flight; submitted = kind ∷ l.submitted; completed = l.completed; cancelled = l.cancelled }

-- A cancel noted, under the kind that the id was in flight with.
unfoldable pub note_cancelled : ℕ → Ledger → Ledger
note_cancelled id l = record { in_flight = without id l.in_flight; submitted = l.submitted; completed = l.completed; cancelled = kinds_of id l.in_flight ++ l.cancelled }

-- A completion noted, under the kind that was listed.
unfoldable pub note_completed : Entry → Ledger → Ledger
note_completed e l = record { in_flight = without e.id l.in_flight; submitted = l.submitted; completed = e.kind ∷ l.completed; cancelled = l.cancelled }

-- The first n entries of a list of triples: a kind, a worker number and an id each.
unfoldable pub entries : ℕ → List ℕ → List Entry
entries zero list = []
entries (suc n) [] = []
entries (suc n) (kind ∷ []) = []
entries (suc n) (kind ∷ worker ∷ []) = []
entries (suc n) (kind ∷ worker ∷ id ∷ list) = record { id = id; kind = kind } ∷ entries n list

-- Whether an answer says that the work was done.
unfoldable pub is_yes : Answer → Bool
is_yes Done = true
is_yes (Added n) = false
is_yes (Listed n) = false
is_yes Nothing = false
is_yes Unknown = false
is_yes CannotFinish = false
is_yes (Value x) = false
is_yes (Due d) = false
is_yes (Limited l) = false
is_yes (Refused n) = false

-- How many entries an answer says were listed.
unfoldable pub list_length : Answer → ℕ
list_length Done = 0
list_length (Added n) = 0
list_length (Listed n) = n
list_length Nothing = 0
list_length Unknown = 0
list_length CannotFinish = 0
list_length (Value x) = 0
list_length (Due d) = 0
list_length (Limited l) = 0
list_length (Refused n) = 0

-- Whether a call said that its work was done.
unfoldable pub says_done : Said → Bool
says_done (Said_variants.Answered answer) = is_yes answer
says_done (Said_variants.Edge e) = false
says_done (Said_variants.TimeLeft t) = false
says_done (Said_variants.Truth b) = false
says_done (Said_variants.Number n) = false

-- How many entries a call said that it listed.
unfoldable pub says_listed : Said → ℕ
says_listed (Said_variants.Answered answer) = list_length answer
says_listed (Said_variants.Edge e) = 0
says_listed (Said_variants.TimeLeft t) = 0
says_listed (Said_variants.Truth b) = 0
says_listed (Said_variants.Number n) = 0

-- A call, what it said and what its buffer then holds, noted.
unfoldable pub noted : Call → Said → List ℕ → Ledger → Ledger
noted (Submit s) said buffer l = cond (says_done said) (note_submitted s.id (owner_kind s.owner) l) l
noted (Cancel id) said buffer l = cond (says_done said) (note_cancelled id l) l
noted (Advance T) said buffer l = foldl (λ m e. note_completed e m) l (entries (says_listed said) buffer)
noted (AddEdge capacity) said buffer l = l
noted (Widen e amount) said buffer l = l
noted (TakeCompleted owner) said buffer l = l
noted OwnersWithCompletions said buffer l = l
noted NextCompletionDelay said buffer l = l
noted (EstimateNew e) said buffer l = l
noted Settle said buffer l = l
noted (Remaining id) said buffer l = l
noted (MeanInFlight e until) said buffer l = l
noted (Rate id) said buffer l = l
noted (Bottleneck id) said buffer l = l
noted (Edge e) said buffer l = l
noted (Contains id) said buffer l = l
noted Rounds said buffer l = l

-- What is noted of turns taken in order.
unfoldable pub notes : Flows → List Turn → Ledger → Ledger
notes f [] l = l
notes f (t ∷ turns) l = let left = after t f in notes left.made.flows turns (noted t.call left.made.said left.buffer l)

-- All that is noted of turns on a simulator made with that floor.
abbrev pub ledger : Float → List Turn → Ledger
ledger floor turns = notes (with_floor floor).flows turns nothing_noted

-- Whether a kind is the owner's.
abbrev pub kind_of : Owner → ℕ → Bool
kind_of owner kind = eqb kind (owner_kind owner)

-- How many of some kinds are the owner's.
abbrev pub number_of : Owner → List ℕ → ℕ
number_of owner kinds = count (kind_of owner) kinds

-- How many of those in flight are the owner's.
abbrev pub open_of : Owner → List Entry → ℕ
open_of owner entries = count (λ e. kind_of owner e.kind) entries

-- After any turns on a simulator made with that floor, for the kind of any owner: the notes balance, and the simulator's counters say what the notes say.
pub record Tallied (floor : Float) (turns : List Turn) (owner : Owner) : Type 0 where
  pub balance : number_of owner (ledger floor turns).submitted ≡ open_of owner (ledger floor turns).in_flight + number_of owner (ledger floor turns).completed + number_of owner (ledger floor turns).cancelled
  pub submitted : (tally_of owner (run_with_floor floor turns).totals).submitted ≡ number_of owner (ledger floor turns).submitted
  pub completed : (tally_of owner (run_with_floor floor turns).totals).completed ≡ number_of owner (ledger floor turns).completed
  pub cancelled : (tally_of owner (run_with_floor floor turns).totals).cancelled ≡ number_of owner (ledger floor turns).cancelled
  pub in_flight : count (of_kind (owner_kind owner)) (run_with_floor floor turns).in_flight ≡ open_of owner (ledger floor turns).in_flight
