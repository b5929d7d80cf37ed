-- What a case refused.
use Rattle.std.specs.Prelude.{Option, Some, None}
use Rattle.pt_choice.specs.declared.kind.Shape.{Shape}
use Rattle.pt_case.specs.declared.refused.Refused.{Refused}
use Rattle.pt_case.specs.declared.refused.Refused.TheVariants.{Question, Entry}

-- the kind of the question, if it was one
abbrev pub kind_refused : Option Refused → Option Shape
kind_refused None = None
kind_refused (Some (Question kind)) = Some kind
kind_refused (Some Entry) = None
