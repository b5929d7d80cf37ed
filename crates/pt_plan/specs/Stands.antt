-- What stands after the choices that a call drew.
use Rattle.std.specs.Prelude.{◌≡◌, ◌⊎◌, Some, Result, Ok, Err, List, length}
use Rattle.pt_choice.specs.declared.kind.Shape.{Shape}
use Rattle.pt_case.specs.declared.refused.Refused.TheVariants.{Question, Entry}
use Rattle.pt_case.specs.declared.span.Span.{Span}
use Rattle.pt_case.specs.Region.{spans_at}
use Rattle.pt_case.specs.State.{State}
use Rattle.pt_plan.specs.Halt.{Halt, Rejection, Fault, Refusal}
use Rattle.pt_plan.specs.Plan.{Plan}
use Rattle.pt_plan.specs.Mark.{Derives, WantsAfter, RejectsAfter, FaultsAfter, CutsAfter}

-- the spans of the case as a record shows them
abbrev pub spans_now : State → List Span
spans_now case = spans_at (length case.choices) case.regions

-- After all choices of the case there stands of the plan what came of it. Where the case refused what came next, that was a choice
-- which is wanted there, or a span past the 1,024th.
abbrev pub Stands : {A : Type 0} → Plan A → State → Result A Halt → Type 0
Stands plan case (Ok value) = Derives plan case.choices value (spans_now case) case.notes
Stands plan case (Err Rejection) = RejectsAfter plan case.choices (spans_now case) case.notes
Stands plan case (Err (Fault origin)) = FaultsAfter plan case.choices origin (spans_now case) case.notes
Stands plan case (Err Refusal) =
    ((kind : Shape) × (case.refused ≡ Some (Question kind)) × WantsAfter plan case.choices kind (spans_now case) case.notes)
    ⊎ ((case.refused ≡ Some Entry) × CutsAfter plan 1024 case.choices (spans_now case) case.notes)
