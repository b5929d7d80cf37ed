-- What stays of what a case had made before a call.
use Rattle.std.specs.Prelude.{◌≡◌, Bool, true, false, None, Result, Ok, Err, List, ◌++◌, map}
use Rattle.pt_choice.specs.declared.choice.Choice.{Choice}
use Rattle.pt_case.specs.declared.note.Note.{Note}
use Rattle.pt_case.specs.declared.region.Region.{Region}
use Rattle.pt_case.specs.Region.{innermost}
use Rattle.pt_case.specs.State.{State}
use Rattle.pt_plan.specs.Halt.{Halt, Rejection, Fault, Refusal}

-- a span as it was entered
abbrev pub start_of : Region → Region
start_of region = record region { to = None }

-- what was answered, entered and noted before is still there: more came behind it
pub record KeepsMade (old new : State) : Type 0 where
  pub drawn : List Choice
  pub choices : new.choices ≡ old.choices ++ drawn
  pub starts : List Region
  pub spans : map start_of new.regions ≡ map start_of old.regions ++ starts
  pub noted : List Note
  pub notes : new.notes ≡ old.notes ++ noted

-- each span that was entered before is as it was, open or left: others were entered behind it
pub record KeepsSpans (old new : State) : Type 0 where
  pub added : List Region
  pub kept : new.regions ≡ old.regions ++ added

-- and each of the others was left
pub record ReturnsSpans (old new : State) : Type 0 where
  pub added : List Region
  pub kept : new.regions ≡ old.regions ++ added
  pub left : innermost added ≡ None

-- the case refused what came next
abbrev pub is_refusal : {A : Type 0} → Result A Halt → Bool
is_refusal (Ok value) = false
is_refusal (Err Rejection) = false
is_refusal (Err (Fault origin)) = false
is_refusal (Err Refusal) = true
