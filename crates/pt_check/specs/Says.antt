-- What a call that checks answers.
use Rattle.std.specs.Prelude.{◌≡◌, Option, Some, None, Result, Ok, Err}
use Rattle.pt_val.specs.declared.place.Place.{Place}
use Rattle.pt_ast.specs.Types.{TypeTree}
use Rattle.pt_typing.specs.Steps.{right}
use Rattle.pt_typing.specs.Served.{if_same}
use Rattle.pt_typing.specs.Fault.{Fault, Unknown, Twice, Wrong, UnknownCheck}
use Rattle.pt_check.specs.declared.fault.TypeFault.{TypeFault}
use Rattle.pt_check.specs.declared.fault.TypeFault.TheVariants as code

-- the fault that is answered, if memory did not run out
abbrev pub fault_in : TypeFault → Option Fault
fault_in (code.Unknown at) = Some (Unknown at)
fault_in (code.Twice at) = Some (Twice at)
fault_in (code.Wrong at) = Some (Wrong at)
fault_in (code.UnknownCheck at) = Some (UnknownCheck at)
fault_in code.NoMemory = None

-- the fault is the one that is due
abbrev pub Blames : {A : Type 0} → Result A Fault → TypeFault → Type 0
Blames due why = (fault : Fault) → fault_in why ≡ Some fault → due ≡ Err fault

-- the answer is what is due: this value, or the fault, or that memory ran out
abbrev pub Says : {A B : Type 0} → Result A Fault → A → Result B TypeFault → Type 0
Says due value (Ok _) = due ≡ Ok value
Says due value (Err why) = Blames due why

-- the type that is found at the place has to be the one that is needed
abbrev pub fits : Place → TypeTree → TypeTree → Result (Unit {0}) Fault
fits at found needed = right at (if_same found needed tt)
