-- What a property does.
use Rattle.std.specs.Prelude.{ℕ, List, codes}
use Rattle.pt_val.specs.declared.val.Val.{Val}
use Rattle.pt_case.specs.declared.ending.Ending.{Ending}
use Rattle.pt_case.specs.declared.note.Note.{Note}
use Rattle.pt_case.specs.Step.{Answer, Ask, End, Cut}
use Rattle.pt_plan.specs.Plan.{Plan, Gives, Notes, and_then}

abbrev pub value_word : List ℕ
value_word = codes "value"

-- a value as a property shows it
abbrev pub value_note : Val → Note
value_note value = record { name = value_word; val = value }

-- a value is drawn, shown and judged
abbrev pub property_plan : Plan Val → (Val → Ending) → Plan Ending
property_plan inner verdict = and_then inner (λ value. Notes (value_note value) (Gives (verdict value)))

-- the notes of an answer
abbrev pub notes_of : Answer → List Note
notes_of (Ask kind spans notes) = notes
notes_of (End ending spans notes) = notes
notes_of (Cut spans notes) = notes
