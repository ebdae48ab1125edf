-- All that a call can say as numbers: which of the cases, and document 01's number or value there, a double by its bits. (01, Our forms) Definitions only.
use Rattle.std.specs.Prelude.{ℕ, cond, List, [], ◌∷◌}
use Rattle.doubles.specs.Doubles.{bits_of}
use Rattle.rules.specs.declared.Delay.{Delay}
use Rattle.rules.specs.declared.Delay.TheVariants.{After, Never}
use Rattle.rules.specs.declared.Limit.{Limit}
use Rattle.rules.specs.declared.Limit.TheVariants.{AtEdge, AtCap, Nowhere}
use Rattle.rules.specs.declared.Answer.{Answer}
use Rattle.rules.specs.declared.Answer.TheVariants.{Done, Added, Listed, Nothing, Unknown, CannotFinish, Value, Due, Limited, Refused}
use Rattle.rules.specs.declared.EdgeRead.{EdgeRead}
use Rattle.rules.specs.declared.EdgeRead.TheVariants as EdgeRead_variants
use Rattle.rules.specs.declared.Said.{Said}
use Rattle.rules.specs.declared.Said.TheVariants.{Answered, Edge, TimeLeft, Truth, Number}

-- A delay: never, or its seconds. (01, Our forms)
unfoldable pub told_delay : Delay → List ℕ
told_delay Never = 0 ∷ []
told_delay (After x) = 1 ∷ bits_of x ∷ []

-- A limit: none, the cap, or the edge's number. (02, P4)
unfoldable pub told_limit : Limit → List ℕ
told_limit Nowhere = 0 ∷ []
told_limit AtCap = 1 ∷ []
told_limit (AtEdge e) = 2 ∷ e ∷ []

-- An answer. (01, Our forms)
unfoldable pub told_answer : Answer → List ℕ
told_answer Done = 0 ∷ []
told_answer (Added n) = 1 ∷ n ∷ []
told_answer (Listed n) = 2 ∷ n ∷ []
told_answer Nothing = 3 ∷ []
told_answer Unknown = 4 ∷ []
told_answer CannotFinish = 5 ∷ []
told_answer (Value x) = 6 ∷ bits_of x ∷ []
told_answer (Due d) = 7 ∷ told_delay d
told_answer (Limited l) = 8 ∷ told_limit l
told_answer (Refused n) = 9 ∷ n ∷ []

-- An edge, or its refusal. (01, Our forms)
unfoldable pub told_edge : EdgeRead → List ℕ
told_edge (EdgeRead_variants.Found e) = 0 ∷ bits_of e.capacity ∷ bits_of e.bytes_moved ∷ bits_of e.busy_transfer_seconds ∷ []
told_edge (EdgeRead_variants.Refused n) = 1 ∷ n ∷ []

-- Whatever was said. (01, Our forms)
unfoldable pub told : Said → List ℕ
told (Answered answer) = 0 ∷ told_answer answer
told (Edge e) = 1 ∷ told_edge e
told (TimeLeft t) = 2 ∷ cond t.behind 1 0 ∷ told_answer t.answer
told (Truth b) = 3 ∷ cond b 1 0 ∷ []
told (Number n) = 4 ∷ n ∷ []
