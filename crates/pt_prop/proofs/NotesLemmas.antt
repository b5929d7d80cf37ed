-- What may be noted on the ways through a plan.
use Rattle.std.proofs.Common.{◌≡◌, Bool, true, false, List, [], ◌∷◌}
use Rattle.pt_choice.specs.Kind.{admits}
use Rattle.pt_choice.specs.declared.choice.Choice.{Choice}
use Rattle.pt_case.specs.declared.ending.Ending.{Ending}
use Rattle.pt_case.specs.declared.note.Note.{Note}
use Rattle.pt_case.specs.Ending.{is_pass}
use Rattle.pt_plan.specs.Plan.{Plan, Gives, Rejects, Faults, Asks, Enters, Leaves, Notes, and_then}
use Rattle.pt_plan.specs.Every.{GivesOnly, NotesNothing}

-- Wherever a run of the plan may end, its notes are of these, which may depend on whether it passes.
abbrev pub NotesOnly : (Bool → List Note → Type 0) → Plan Ending → Type 0
NotesOnly Are (Gives ending) = Are (is_pass ending) []
NotesOnly Are Rejects = Are false []
NotesOnly Are (Faults origin) = Are false []
NotesOnly Are (Asks kind next) = Are false [] × ((choice : Choice) → admits kind choice ≡ true → NotesOnly Are (next choice))
NotesOnly Are (Enters label next) = Are false [] × NotesOnly Are next
NotesOnly Are (Leaves next) = NotesOnly Are next
NotesOnly Are (Notes note next) = NotesOnly (λ passed rest. Are passed (note ∷ rest)) next

-- a plan that notes nothing, and then what follows its values
pub notes-then : {A : Type 0} (Are : Bool → List Note → Type 0) (Has : A → Type 0) (plan : Plan A) (next : A → Plan Ending) →
    Are false [] → NotesNothing plan → GivesOnly Has plan → ((value : A) → Has value → NotesOnly Are (next value)) → NotesOnly Are (and_then plan next)
notes-then Are Has (Gives value) next none silent only later = later value only
notes-then Are Has Rejects next none silent only later = none
notes-then Are Has (Faults origin) next none silent only later = none
notes-then Are Has (Asks kind more) next none silent only later =
    (none, λ choice admitted. notes-then Are Has (more choice) next none (silent choice admitted) (only choice admitted) later)
notes-then Are Has (Enters label more) next none silent only later = (none, notes-then Are Has more next none silent only later)
notes-then Are Has (Leaves more) next none silent only later = notes-then Are Has more next none silent only later
notes-then Are Has (Notes note more) next none silent only later = absurd silent

-- more may be noted
pub notes-wider : (Are May : Bool → List Note → Type 0) (plan : Plan Ending) → ((passed : Bool) (notes : List Note) → Are passed notes → May passed notes) →
    NotesOnly Are plan → NotesOnly May plan
notes-wider Are May (Gives ending) wider are = wider (is_pass ending) [] are
notes-wider Are May Rejects wider are = wider false [] are
notes-wider Are May (Faults origin) wider are = wider false [] are
notes-wider Are May (Asks kind more) wider are = (wider false [] are.0, λ choice admitted. notes-wider Are May (more choice) wider (are.1 choice admitted))
notes-wider Are May (Enters label more) wider are = (wider false [] are.0, notes-wider Are May more wider are.1)
notes-wider Are May (Leaves more) wider are = notes-wider Are May more wider are
notes-wider Are May (Notes note more) wider are =
    notes-wider (λ passed rest. Are passed (note ∷ rest)) (λ passed rest. May passed (note ∷ rest)) more (λ passed rest. wider passed (note ∷ rest)) are
