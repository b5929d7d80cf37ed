-- What the source of a case's answers stands for.
use Rattle.std.specs.Prelude.{◌≤◌, drop, length, vec_capacity}
use Rattle.pt_case.specs.Source.{Source, Listed, Fresh, Guided}
use Rattle.pt_case.specs.declared.answer_source.Remaining.{Remaining}
use Rattle.pt_case.specs.declared.answer_source.Remaining.TheVariants as remaining

abbrev pub source_of : Remaining → Source
source_of (remaining.Listed list next) = Listed (drop next list)
source_of (remaining.Fresh supply) = Fresh supply
source_of (remaining.Guided list next supply asked) = Guided (drop next list) supply asked.items

-- the next member's number is not past the end, and at most 256 kinds are kept, for which there is room
abbrev pub IsRemaining : Remaining → Type 0
IsRemaining (remaining.Listed list next) = next ≤ length list
IsRemaining (remaining.Fresh supply) = Unit {0}
IsRemaining (remaining.Guided list next supply asked) = (next ≤ length list) × (length asked.items ≤ 256) × (256 ≤ vec_capacity asked)
