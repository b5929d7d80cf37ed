-- What the checks of the tests do.
use Rattle.std.specs.Prelude.{ℕ, pos, List}
use Rattle.pt_val.specs.declared.val.Val.TheVariants as val
use Rattle.pt_case.specs.declared.ending.Ending.{Ending}
use Rattle.pt_case.specs.declared.ending.Origin.TheVariants.{Point}
use Rattle.pt_case.specs.declared.note.Note.{Note}
use Rattle.pt_plan.specs.Asked.{asked_flag}
use Rattle.pt_plan.specs.Plan.{Plan, Faults, Notes, and_then}

-- a note of a number under this name
abbrev numbered : List ℕ → ℕ → Note
numbered name number = record { name = name; val = val.Int (pos number) }

-- it notes 1, asks for a fair boolean, notes 2, and fails
abbrev pub noting_plan : List ℕ → Plan Ending
noting_plan name = Notes (numbered name 1) (and_then (asked_flag 8) (λ flag. Notes (numbered name 2) (Faults (Point 2))))
