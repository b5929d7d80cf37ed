-- The laws of strategies.
use Rattle.std.specs.Prelude.{Bool, true, false, Result, Ok, Err, List}
use Rattle.pt_choice.specs.declared.choice.Choice.{Choice}
use Rattle.pt_val.specs.declared.val.Val.{Val}
use Rattle.pt_case.specs.declared.note.Note.{Note}
use Rattle.pt_case.specs.declared.span.Span.{Span}
use Rattle.pt_ast.specs.declared.binding.Binding.{Binding}
use Rattle.pt_ast.specs.Trees.{StratTree}
use Rattle.pt_plan.specs.declared.stop.DrawStop.{DrawStop}
use Rattle.pt_plan.specs.declared.stop.DrawStop.TheVariants as draw
use Rattle.pt_plan.specs.Plan.{Rejects}
use Rattle.pt_plan.specs.Mark.{Derives}
use Rattle.pt_plan.specs.Every.{IsBalanced, NotesNothing}
use Rattle.pt_strat.specs.Strategy.{plan_of}
use Rattle.pt_strat.specs.Member.{IsOneOf}

-- what choices derive of a strategy is in its set
abbrev pub DerivedIsInSet : Type 0
DerivedIsInSet = (tree : StratTree) (env : List Binding) (choices : List Choice) (value : Val) (spans : List Span) (notes : List Note) →
    Derives (plan_of tree Rejects env) choices value spans notes → IsOneOf tree env value

-- a strategy leaves the spans that it entered and no others, each of them where it derives a value
abbrev pub LeavesItsSpans : Type 0
LeavesItsSpans = (tree : StratTree) (env : List Binding) → IsBalanced (plan_of tree Rejects env)

-- a strategy notes nothing
abbrev pub StaysSilent : Type 0
StaysSilent = (tree : StratTree) (env : List Binding) → NotesNothing (plan_of tree Rejects env)

-- a draw answers that the case gives no more
abbrev pub is_overrun : {A : Type 0} → Result A DrawStop → Bool
is_overrun (Ok value) = false
is_overrun (Err draw.Reject) = false
is_overrun (Err draw.Overrun) = true
is_overrun (Err (draw.Fault origin)) = false
is_overrun (Err draw.NoMemory) = false
