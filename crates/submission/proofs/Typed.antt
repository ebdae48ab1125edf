-- A cap that is handed over holds a double of 64 bits. Assumes nothing.
use mathlib.Core.List.{List}
use lib.Dec.{T}
use borrow.Author.Rules.{rules}
use mir.Val.{Val}
use denote.Laws.{Is}
use denote.Enum.Declared.{row}
use Rattle.rules.specs.contracts.Cap.{the_type}
use Rattle.rules.specs.declared.Cap.{Cap}
use Rattle.rules.specs.declared.Cap.TheVariants.{AtMost, Uncapped}
use Rattle.rules.specs.Histories.{typed_cap}

pub cap_typed : (cap : Cap) (values : List Val) → Is (row the_type) cap values → T (typed_cap cap)
unfolding typed_cap
cap_typed (AtMost c) values held = search rules
cap_typed Uncapped values held = tt
