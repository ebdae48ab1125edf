-- A submission's later half, said of the transfer that it starts. Definition only.
use Rattle.std.specs.Prelude.{ℕ}
use Rattle.rules.specs.declared.Transfer.{Transfer}
use Rattle.rules.specs.declared.Answer.TheVariants.{Done}
use Rattle.rules.specs.declared.Outcome.{Outcome}
use Rattle.rules.specs.declared.Flows.{Flows}
use Rattle.rules.specs.Refusals.{refusing, answering, refused}
use Rattle.rules.specs.Submission.{table_causes, started}

-- What the tables refuse, lowest number first, and else the work.
unfoldable pub start : Transfer → ℕ → Flows → Outcome
start t bytes f = refusing (table_causes t.id t.owner f) (refused f) (answering Done (started t bytes f))
