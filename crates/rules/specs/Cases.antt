-- The cases of document 01, and some of the requests, as tables of calls and what each must give. (01, Cases) Definitions only; proofs/Cases.antt shows that they hold.
use Rattle.std.specs.Prelude.{ℕ, zero, suc, ◌+◌, ◌-◌, ◌^◌, ◌<◌, ◌≡◌, Bool, true, false, ◌&&◌, List, [], ◌∷◌, ◌++◌, eqb, replicate, Float}
use Rattle.doubles.specs.Doubles.{nought, whole, infinity, nearest, of_bits, bits_of}
use Rattle.rules.specs.declared.Owner.{Owner}
use Rattle.rules.specs.declared.Owner.TheVariants.{Worker, Handoff, Write}
use Rattle.rules.specs.declared.Cap.{Cap}
use Rattle.rules.specs.declared.Cap.TheVariants.{AtMost, Uncapped}
use Rattle.rules.specs.declared.Delay.{Delay}
use Rattle.rules.specs.declared.Delay.TheVariants.{After, Never}
use Rattle.rules.specs.declared.Limit.{Limit}
use Rattle.rules.specs.declared.Limit.TheVariants.{AtEdge, AtCap, Nowhere}
use Rattle.rules.specs.declared.Answer.{Answer}
use Rattle.rules.specs.declared.Answer.TheVariants.{Done, Added, Listed, Unknown, CannotFinish, Value, Due, Limited, Refused}
use Rattle.rules.specs.declared.EdgeRead.TheVariants.{Found}
use Rattle.rules.specs.declared.Transfer.{Transfer}
use Rattle.rules.specs.declared.Flows.{Flows}
use Rattle.rules.specs.declared.Call.{Call}
use Rattle.rules.specs.declared.Call.TheVariants.{Advance, Submit, Cancel, AddEdge, Widen, TakeCompleted, NextCompletionDelay, EstimateNew, Settle, Remaining, Rate, Bottleneck, Edge, Rounds}
use Rattle.rules.specs.declared.Said.{Said}
use Rattle.rules.specs.declared.Said.TheVariants as Said_variants
use Rattle.rules.specs.Lists.{all}
use Rattle.rules.specs.Tolerance as Tolerance
use Rattle.rules.specs.Records.{route, fresh, on_tally}
use Rattle.rules.specs.Floors.{with_floor}
use Rattle.rules.specs.TimeLeft.{remaining_in}
use Rattle.rules.specs.Invariant.{Invariant}
use Rattle.rules.specs.Histories.{Turn, after}
use Rattle.rules.specs.Told.{told_answer, told}

-- ---- tables

-- A turn, what it must say, and what its buffer must then hold.
pub record Step : Type 0 where
  pub turn : Turn
  pub said : Said
  pub buffer : List ℕ

-- Whether two lists are the same numbers.
unfoldable pub same : List ℕ → List ℕ → Bool
same [] [] = true
same [] (n ∷ ns) = false
same (m ∷ ms) [] = false
same (m ∷ ms) (n ∷ ns) = eqb m n && same ms ns

-- Whether the turns of a table, taken in order from that simulator on, give what it says.
unfoldable pub gives_all : Flows → List Step → Bool
gives_all f [] = true
gives_all f (s ∷ steps) =
    let left = after s.turn f in
    same (told left.made.said) (told s.said) && (same left.buffer s.buffer && gives_all left.made.flows steps)

-- A table holds where it does so on a fresh simulator.
unfoldable pub holds : List Step → Bool
holds steps = gives_all fresh steps

-- ---- how the tables are written: whole numbers, worker 0, time 0, a buffer of six places

-- A lent buffer, filled with a pattern that no rule writes on purpose.
abbrev pub lent_buffer : ℕ → List ℕ
lent_buffer n = replicate n 0xa5a5a5a5

-- A call with no buffer along a path.
abbrev along : List ℕ → Call → Said → Step
along path c s = record { turn = record { call = c; path = path; buffer = [] }; said = s; buffer = [] }

infix 68 ◌says◌
-- A call with neither path nor buffer, and what it must say.
abbrev ◌says◌ : Call → Said → Step
c says s = along [] c s

infix 68 ◌answers◌
-- The same where it says an answer.
abbrev ◌answers◌ : Call → Answer → Step
c answers a = c says Said_variants.Answered a

-- A call that is lent a buffer of n places, its answer, and what the buffer must then hold.
abbrev lending : ℕ → Call → Answer → List ℕ → Step
lending n c a buffer = record { turn = record { call = c; path = []; buffer = lent_buffer n }; said = Said_variants.Answered a; buffer = buffer }

-- The edge of that number is added.
abbrev new_edge : ℕ → ℕ → Step
new_edge e capacity = AddEdge (whole capacity) answers Added e

-- A submission at a time, and its answer.
abbrev submitting : ℕ → Owner → List ℕ → ℕ → Float → Cap → Float → Answer → Step
submitting id owner path bytes latency cap time a = along path (Submit (record { id = id; owner = owner; bytes = bytes; latency = latency; cap = cap; time = time })) (Said_variants.Answered a)

-- A transfer is submitted and taken.
abbrev sent : ℕ → List ℕ → ℕ → ℕ → Cap → Step
sent id path bytes latency cap = submitting id (Worker 0) path bytes (whole latency) cap nought Done

-- An estimate, and its answer.
abbrev estimating : List ℕ → Float → Float → Cap → Answer → Step
estimating path bytes latency cap a = along path (EstimateNew (record { bytes = bytes; latency = latency; cap = cap })) (Said_variants.Answered a)

-- A transfer has that rate.
abbrev runs_at : ℕ → ℕ → Step
runs_at id r = Rate id answers Value (whole r)

-- That is why a transfer is no faster.
abbrev limited_by : ℕ → Limit → Step
limited_by id l = Bottleneck id answers Limited l

-- The last filling took so many rounds.
abbrev took_rounds : ℕ → Step
took_rounds n = Rounds says Said_variants.Number n

-- The next completion is that far away.
abbrev delay_is : Delay → Step
delay_is d = NextCompletionDelay answers Due d

-- An advance lists nobody and leaves the buffer alone.
abbrev lists_nobody : ℕ → Step
lists_nobody T = lending 6 (Advance (whole T)) (Listed 0) (lent_buffer 6)

-- An advance lists one transfer of worker 0.
abbrev lists_one : ℕ → ℕ → Step
lists_one T id = lending 6 (Advance (whole T)) (Listed 1) (0 ∷ 0 ∷ id ∷ lent_buffer 3)

-- An edge has that capacity, so many bytes moved and that load integral.
abbrev edge_is : ℕ → ℕ → ℕ → ℕ → Step
edge_is e capacity moved busy = Edge e says Said_variants.Edge (Found (record { capacity = whole capacity; bytes_moved = whole moved; busy_transfer_seconds = whole busy }))

-- The time left of a transfer, told as of now.
abbrev current : ℕ → Answer → Step
current id a = Remaining id says Said_variants.TimeLeft (record { answer = a; behind = false })

-- The same, told as behind.
abbrev lagging : ℕ → Answer → Step
lagging id a = Remaining id says Said_variants.TimeLeft (record { answer = a; behind = true })

-- ---- cases 1 to 12

-- What each of the cases calls, and what it must be given. Case 11 stands below.
abbrev pub cases : List (List Step)
cases =
    -- 1: two share an edge
    (new_edge 0 10
    ∷ sent 1 (0 ∷ []) 100 0 Uncapped
    ∷ sent 2 (0 ∷ []) 100 0 Uncapped
    ∷ runs_at 1 5
    ∷ runs_at 2 5
    ∷ took_rounds 1
    ∷ [])
    -- 2: a cap below the share leaves more for the others
    ∷ (new_edge 0 12
    ∷ sent 1 (0 ∷ []) 100 0 (AtMost (whole 2))
    ∷ sent 2 (0 ∷ []) 100 0 Uncapped
    ∷ sent 3 (0 ∷ []) 100 0 Uncapped
    ∷ runs_at 1 2
    ∷ runs_at 2 5
    ∷ runs_at 3 5
    ∷ took_rounds 2
    ∷ [])
    -- 3: a cap equal to the share does not win
    ∷ (new_edge 0 12
    ∷ sent 1 (0 ∷ []) 100 0 (AtMost (whole 4))
    ∷ sent 2 (0 ∷ []) 100 0 Uncapped
    ∷ sent 3 (0 ∷ []) 100 0 Uncapped
    ∷ runs_at 1 4
    ∷ runs_at 2 4
    ∷ runs_at 3 4
    ∷ took_rounds 1
    ∷ [])
    -- 4: a second edge is tighter
    ∷ (new_edge 0 10
    ∷ new_edge 1 4
    ∷ sent 1 (0 ∷ []) 100 0 Uncapped
    ∷ sent 2 (0 ∷ 1 ∷ []) 100 0 Uncapped
    ∷ runs_at 2 4
    ∷ runs_at 1 6
    ∷ took_rounds 2
    ∷ [])
    -- 5: a path that crosses its edge twice
    ∷ (new_edge 0 10
    ∷ sent 1 (0 ∷ 0 ∷ []) 100 0 Uncapped
    ∷ runs_at 1 5
    ∷ [])
    -- 6: no edge and no cap
    ∷ (sent 1 [] 1000 0 Uncapped
    ∷ Rate 1 answers Value infinity
    ∷ lists_one 0 1
    ∷ took_rounds 0
    ∷ [])
    -- 7: a cap of nothing
    ∷ (sent 1 [] 100 0 (AtMost nought)
    ∷ delay_is Never
    ∷ [])
    -- 8: an edge of nothing
    ∷ (new_edge 0 0
    ∷ sent 1 (0 ∷ []) 100 0 Uncapped
    ∷ runs_at 1 0
    ∷ delay_is Never
    ∷ [])
    -- 9: latency alone
    ∷ (sent 1 [] 0 1 Uncapped
    ∷ delay_is (After (whole 1))
    ∷ [])
    -- 10: an estimate counts one more
    ∷ (new_edge 0 12
    ∷ sent 1 (0 ∷ []) 100 0 Uncapped
    ∷ sent 2 (0 ∷ []) 100 0 Uncapped
    ∷ estimating (0 ∷ []) (whole 8) (whole 1) Uncapped (Value (whole 3))
    ∷ [])
    -- 12: who still pays its latency has its share all the same
    ∷ (new_edge 0 10
    ∷ sent 1 (0 ∷ []) 100 0 Uncapped
    ∷ sent 2 (0 ∷ []) 100 5 Uncapped
    ∷ delay_is (After (whole 20))
    ∷ [])
    ∷ []

-- A floor, a clock time, and eps then.
pub record EpsCase : Type 0 where
  pub floor : Float
  pub clock : Float
  pub eps : Float

-- 11: the tolerance at two clock times; and coarser floors at the latest clock, one that the clock's own part is above and one that it is not (02, P5)
abbrev pub eps_cases : List EpsCase
eps_cases =
    record { floor = Tolerance.F; clock = nought; eps = nearest 1 1000000000000 }
    ∷ record { floor = Tolerance.F; clock = whole (2 ^ 20); eps = nearest 1 (2 ^ 30) }
    ∷ record { floor = nearest 1 10000; clock = whole (2 ^ 40); eps = nearest 1 (2 ^ 10) }
    ∷ record { floor = nearest 1 1000; clock = whole (2 ^ 40); eps = nearest 1 1000 }
    ∷ []

-- Whether eps is the double that is expected.
unfoldable pub eps_holds : EpsCase → Bool
eps_holds c = eqb (bits_of (Tolerance.eps (record { floor = c.floor }) c.clock)) (bits_of c.eps)

-- What the twelve cases say, together.
abbrev pub CasesHold : Type 0
CasesHold = (all holds cases && all eps_holds eps_cases) ≡ true

-- ---- cases 13 to 15

-- 13: the vault door. The question makes the advance to 12 a quiet one.
abbrev pub vault_door : List Step
vault_door =
    new_edge 0 10
    ∷ sent 1 (0 ∷ []) 100 0 Uncapped
    ∷ sent 2 (0 ∷ []) 100 0 Uncapped
    ∷ lists_nobody 0
    ∷ lists_nobody 10
    ∷ Cancel 2 answers Done
    ∷ edge_is 0 10 100 20
    ∷ delay_is (After (whole 5))
    ∷ lists_nobody 12
    ∷ edge_is 0 10 100 22
    ∷ lists_one 15 1
    ∷ edge_is 0 10 150 25
    ∷ []

-- 14: ids are collected in ascending order, and not into a buffer that is short.
abbrev pub collection : List Step
collection =
    submitting 9 (Worker 3) [] 0 nought Uncapped nought Done
    ∷ submitting 2 (Worker 3) [] 0 nought Uncapped nought Done
    ∷ lending 6 (Advance nought) (Listed 2) (0 ∷ 3 ∷ 2 ∷ 0 ∷ 3 ∷ 9 ∷ [])
    ∷ lending 1 (TakeCompleted (Worker 3)) (Refused 8) (lent_buffer 1)
    ∷ lending 3 (TakeCompleted (Worker 3)) (Listed 2) (2 ∷ 9 ∷ lent_buffer 1)
    ∷ []

-- n more edges, numbered from e.
abbrev numbered : ℕ → ℕ → List Step
numbered zero e = []
numbered (suc n) e = new_edge e 1 ∷ numbered n (suc e)

-- 15: 64 and 65 edges.
abbrev pub edge_limit : List Step
edge_limit = numbered 64 0 ++ (AddEdge (whole 1) answers Refused 7 ∷ [])

-- 15: 8 and 9 edges in a path, 2^53 bytes and one more, a time at the clock and the double below it.
abbrev pub both_sides : List Step
both_sides =
    new_edge 0 1
    ∷ sent 1 (replicate 8 0) 1 0 Uncapped
    ∷ submitting 2 (Worker 0) (replicate 9 0) 1 nought Uncapped nought (Refused 4)
    ∷ sent 3 [] (2 ^ 53) 0 Uncapped
    ∷ submitting 4 (Worker 0) [] (2 ^ 53 + 1) nought Uncapped nought (Refused 5)
    ∷ lists_one 1 3
    ∷ submitting 5 (Worker 0) [] 1 nought Uncapped (whole 1) Done
    ∷ submitting 6 (Worker 0) [] 1 nought Uncapped (nearest (2 ^ 53 - 1) (2 ^ 53)) (Refused 2)
    ∷ []

-- A rate is taken off an edge once for each crossing: two less three thirds, one after another, is not quite one. (01, Slips)
abbrev pub crossing_by_crossing : List Step
crossing_by_crossing =
    new_edge 0 1
    ∷ new_edge 1 2
    ∷ sent 1 (0 ∷ 1 ∷ []) 100 0 Uncapped
    ∷ sent 2 (0 ∷ 1 ∷ []) 100 0 Uncapped
    ∷ sent 3 (0 ∷ 1 ∷ []) 100 0 Uncapped
    ∷ sent 4 (1 ∷ []) 100 0 Uncapped
    ∷ Rate 4 answers Value (nearest (2 ^ 52 + 1) (2 ^ 52))
    ∷ []

-- Where several refusals apply the lowest is answered. (01, Numbers)
abbrev pub lowest_first : List Step
lowest_first =
    new_edge 0 1
    ∷ lists_nobody 2
    ∷ submitting 1 (Worker 0) (replicate 9 7) (2 ^ 53 + 1) nought Uncapped (whole 1) (Refused 2)
    ∷ submitting 1 (Worker 0) (replicate 9 7) (2 ^ 53 + 1) nought Uncapped (whole 2) (Refused 3)
    ∷ submitting 1 (Worker 0) (replicate 9 0) (2 ^ 53 + 1) nought Uncapped (whole 2) (Refused 4)
    ∷ submitting 1 (Worker 0) (replicate 8 0) (2 ^ 53 + 1) nought Uncapped (whole 2) (Refused 5)
    ∷ Widen 7 infinity answers Refused 1
    ∷ Widen 7 (whole 1) answers Refused 3
    ∷ estimating (replicate 9 7) (whole 1) nought (AtMost infinity) (Refused 1)
    ∷ estimating (replicate 9 7) (whole 1) nought Uncapped (Refused 3)
    ∷ []

-- ---- the time left

-- A read from an unplugged drive stalls until the drive is plugged in, one at the least rate takes a time without end, and a stranger is neither. (02, P1)
abbrev pub stalled_read : List Step
stalled_read =
    new_edge 0 0
    ∷ sent 1 (0 ∷ []) 100 0 Uncapped
    ∷ Settle answers Done
    ∷ current 1 CannotFinish
    ∷ current 2 Unknown
    ∷ Widen 0 (whole 10) answers Done
    ∷ Settle answers Done
    ∷ current 1 (Value (whole 10))
    ∷ Cancel 1 answers Done
    ∷ Settle answers Done
    ∷ current 1 Unknown
    ∷ AddEdge (of_bits 1) answers Added 1
    ∷ sent 3 (1 ∷ []) (2 ^ 53) 0 Uncapped
    ∷ Settle answers Done
    ∷ current 3 (Value infinity)
    ∷ []

-- Asked without settling: before the filling, up to date, after a quiet advance, settled there, and when it is listed; then with nobody in flight. (02, P10)
abbrev pub watched_read : List Step
watched_read =
    current 1 Unknown
    ∷ new_edge 0 10
    ∷ sent 1 (0 ∷ []) 100 0 Uncapped
    ∷ lagging 1 CannotFinish
    ∷ lagging 2 Unknown
    ∷ delay_is (After (whole 10))
    ∷ current 1 (Value (whole 10))
    ∷ lists_nobody 4
    ∷ lagging 1 (Value (whole 10))
    ∷ edge_is 0 10 0 4
    ∷ Settle answers Done
    ∷ current 1 (Value (whole 6))
    ∷ edge_is 0 10 40 4
    ∷ lists_one 10 1
    ∷ lagging 1 Unknown
    ∷ Settle answers Done
    ∷ lists_nobody 12
    ∷ lagging 1 Unknown
    ∷ Settle answers Done
    ∷ current 1 Unknown
    ∷ []

-- The double above another.
abbrev next_up : Float → Float
next_up x = of_bits (suc (bits_of x))

-- A latency just above eps counts as paid when the clock has moved by one double, for eps is the clock's; the latency itself stays as the last drain left it. (02, P10)
abbrev pub watched_latency : List Step
watched_latency =
    submitting 1 (Worker 0) [] 0 (next_up (nearest 1 (2 ^ 30))) Uncapped (whole (2 ^ 20)) Done
    ∷ Settle answers Done
    ∷ current 1 (Value (next_up (nearest 1 (2 ^ 30))))
    ∷ lending 6 (Advance (next_up (whole (2 ^ 20)))) (Listed 0) (lent_buffer 6)
    ∷ lagging 1 (Value nought)
    ∷ []

-- A transfer of id 1 in flight with those bytes left and no rate.
abbrev without_rate : Float → Transfer
without_rate bytes = record { taken = true; id = 1; owner = Handoff; path = route []; latency_remaining = nought; bytes_remaining = bytes; rate_cap = Uncapped; rate = nought; limit = Nowhere; last_update = nought }

-- At no rate B bytes are done, and the next double above is stalled. No call leaves the first: bytes fall to B at some rate, and that rate is kept from then on. (02, P1)
abbrev pub AtNoRate : Type 0
AtNoRate =
    (told_answer (remaining_in 1 Tolerance.F (without_rate Tolerance.B ∷ [])) ≡ told_answer (Value nought))
    × (told_answer (remaining_in 1 Tolerance.F (without_rate (next_up Tolerance.B) ∷ [])) ≡ told_answer CannotFinish)

-- ---- floors

-- A floor that is asked for, what is answered, and the floor of the simulator beside the answer; doubles by their bits. (02, P5)
pub record FloorCase : Type 0 where
  pub asked : ℕ
  pub answer : Answer
  pub floor : ℕ

-- That floor is taken.
abbrev taken : ℕ → FloorCase
taken bits = record { asked = bits; answer = Done; floor = bits }

-- That floor is refused, and the default stands.
abbrev not_taken : ℕ → FloorCase
not_taken bits = record { asked = bits; answer = Refused 1; floor = 0x3d71_9799_812d_ea11 }

-- Both ends and the double next to each outside; NaN, the infinities, the zeros, a negative number, and one second. (02, P5)
abbrev pub floor_cases : List FloorCase
floor_cases =
    taken 0x3d71_9799_812d_ea11
    ∷ not_taken 0x3d71_9799_812d_ea10
    ∷ taken 0x3f50_624d_d2f1_a9fc
    ∷ not_taken 0x3f50_624d_d2f1_a9fd
    ∷ not_taken 0x7ff8_0000_0000_0000
    ∷ not_taken 0x7ff0_0000_0000_0000
    ∷ not_taken 0xfff0_0000_0000_0000
    ∷ not_taken 0
    ∷ not_taken 0x8000_0000_0000_0000
    ∷ not_taken 0xbd71_9799_812d_ea11
    ∷ not_taken 0x3ff0_0000_0000_0000
    ∷ []

-- Whether a floor is taken or refused as expected.
unfoldable pub floor_holds : FloorCase → Bool
floor_holds c =
    let made = with_floor (of_bits c.asked) in
    same (told_answer made.answer) (told_answer c.answer) && eqb (bits_of made.flows.tolerance.floor) c.floor

-- A table holds where it does so on a simulator with a floor of a millisecond. (02, P5)
unfoldable pub holds_coarsely : List Step → Bool
holds_coarsely steps = gives_all (with_floor (nearest 1 1000)).flows steps

-- Half a millisecond short of 10 ms.
abbrev half_short : Float
half_short = nearest 19 2000

-- With a floor of a millisecond the read is listed half of one early, and its last half byte is never moved. (02, P5)
abbrev pub listed_early : List Step
listed_early =
    new_edge 0 1000
    ∷ sent 1 (0 ∷ []) 10 0 Uncapped
    ∷ lending 6 (Advance half_short) (Listed 1) (0 ∷ 0 ∷ 1 ∷ lent_buffer 3)
    ∷ Edge 0 says Said_variants.Edge (Found (record { capacity = whole 1000; bytes_moved = nearest 19 2; busy_transfer_seconds = half_short }))
    ∷ []

-- A latency of a millisecond is none then, and the double above it is one. (02, P5)
abbrev pub latency_is_none : List Step
latency_is_none =
    submitting 1 (Worker 0) [] 0 (nearest 1 1000) Uncapped nought Done
    ∷ submitting 2 (Worker 0) [] 0 (next_up (nearest 1 1000)) Uncapped nought Done
    ∷ lists_one 0 1
    ∷ []

-- Settled half a millisecond before its end a read has no time left then, and yet the advance to the clock is quiet and lists nobody: next_done stays where the filling put it. (02, P5)
abbrev pub done_but_unlisted : List Step
done_but_unlisted =
    new_edge 0 1000
    ∷ sent 1 (0 ∷ []) 10 0 Uncapped
    ∷ delay_is (After (nearest 1 100))
    ∷ lending 6 (Advance half_short) (Listed 0) (lent_buffer 6)
    ∷ Settle answers Done
    ∷ current 1 (Value nought)
    ∷ lending 6 (Advance half_short) (Listed 0) (lent_buffer 6)
    ∷ delay_is (After (of_bits 0x3f40_624d_d2f1_aa00))
    ∷ lending 6 (Advance (nearest 1 100)) (Listed 1) (0 ∷ 0 ∷ 1 ∷ lent_buffer 3)
    ∷ []

-- ---- bottlenecks

-- Three reads over a drive and a bus: the drive holds one up, its cap another, the bus the third; a wider drive lets the first run until the bus holds it up too. (02, P4)
abbrev pub three_reads : List Step
three_reads =
    new_edge 0 40
    ∷ new_edge 1 100
    ∷ sent 1 (0 ∷ 1 ∷ []) 1000 0 Uncapped
    ∷ sent 2 (0 ∷ 1 ∷ []) 1000 0 (AtMost (whole 10))
    ∷ sent 3 (1 ∷ []) 1000 0 Uncapped
    ∷ limited_by 1 (AtEdge 0)
    ∷ limited_by 2 AtCap
    ∷ limited_by 3 (AtEdge 1)
    ∷ runs_at 1 30
    ∷ runs_at 2 10
    ∷ runs_at 3 60
    ∷ Widen 0 (whole 60) answers Done
    ∷ limited_by 1 (AtEdge 1)
    ∷ limited_by 2 AtCap
    ∷ runs_at 1 45
    ∷ runs_at 3 45
    ∷ Bottleneck 4 answers Unknown
    ∷ []

-- A cap equal to the share does not win, so it is the edge that all three are told of; of two equal shares the lower edge wins. (02, P4)
abbrev pub told_at_equality : List Step
told_at_equality =
    new_edge 0 12
    ∷ sent 1 (0 ∷ []) 100 0 (AtMost (whole 4))
    ∷ sent 2 (0 ∷ []) 100 0 Uncapped
    ∷ sent 3 (0 ∷ []) 100 0 Uncapped
    ∷ limited_by 1 (AtEdge 0)
    ∷ limited_by 2 (AtEdge 0)
    ∷ limited_by 3 (AtEdge 0)
    ∷ new_edge 1 9
    ∷ new_edge 2 9
    ∷ sent 4 (2 ∷ 1 ∷ []) 100 0 Uncapped
    ∷ limited_by 4 (AtEdge 1)
    ∷ []

-- Whose bytes fall to B after the filling keeps its limit; the next filling leaves it none, at the rate it had. A path without edges has none, even at its cap. (02, P4)
abbrev pub told_none : List Step
told_none =
    let almost_ten = nearest 999999999 100000000 in
    new_edge 0 10
    ∷ sent 1 (0 ∷ []) 100 0 Uncapped
    ∷ delay_is (After (whole 10))
    ∷ lending 6 (Advance almost_ten) (Listed 0) (lent_buffer 6)
    ∷ Settle answers Done
    ∷ current 1 (Value nought)
    ∷ limited_by 1 (AtEdge 0)
    ∷ submitting 2 (Worker 0) (0 ∷ []) 100 nought Uncapped almost_ten Done
    ∷ submitting 3 (Worker 0) [] 100 nought (AtMost (whole 5)) almost_ten Done
    ∷ limited_by 1 Nowhere
    ∷ runs_at 1 10
    ∷ limited_by 2 (AtEdge 0)
    ∷ runs_at 2 10
    ∷ limited_by 3 Nowhere
    ∷ runs_at 3 5
    ∷ []

-- ---- the last number of a kind

-- A simulator whose kind of owner has submitted n transfers, all of them completed and collected.
abbrev pub submitted_before : Owner → ℕ → Flows
submitted_before owner n = on_tally owner (λ y. record { submitted = n; completed = n; cancelled = 0; bytes_submitted = y.bytes_submitted }) fresh

-- One more is taken after 2^64-2, and none after 2^64-1. (01, Numbers)
unfoldable pub last_taken : Owner → Bool
last_taken owner =
    gives_all (submitted_before owner (2 ^ 64 - 2))
    (submitting 1 owner [] 1 nought Uncapped nought Done
    ∷ submitting 2 owner [] 1 nought Uncapped nought (Refused 9)
    ∷ [])
    && gives_all (submitted_before owner (2 ^ 64 - 1))
    (submitting 1 owner [] 1 nought Uncapped nought (Refused 9)
    ∷ [])

-- Refusal 9, for each kind of owner: those simulators keep the invariant, and it comes neither one early nor one late. (01, Numbers)
pub record LastNumber : Type 0 where
  pub sound : (owner : Owner) (n : ℕ) → n < 2 ^ 64 → Invariant (submitted_before owner n)
  pub taken : (last_taken (Worker 0) && (last_taken Handoff && last_taken Write)) ≡ true
