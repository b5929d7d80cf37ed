-- Some plans, for cases of what is said of plans.
use Rattle.pt_case.specs.declared.ending.Ending.{Ending}
use Rattle.pt_case.specs.declared.ending.Ending.TheVariants.{Pass}
use Rattle.pt_case.specs.declared.note.Note.{Note}
use Rattle.pt_plan.specs.Plan.{Plan, Gives, Rejects, Enters, Leaves, Notes, within}

-- two spans are entered, one in the other, and then it rejects
abbrev pub two_spans : Plan Ending
two_spans = Enters 1 (Enters 2 Rejects)

-- the caller's span is left, and another is entered
abbrev pub swapped_span : Plan Ending
swapped_span = Leaves (Enters 1 (Gives Pass))

-- a span is entered, and stays open
abbrev pub kept_span : Plan Ending
kept_span = Enters 1 (Gives Pass)

-- a note in a span
abbrev pub noting_plan : Note → Plan Ending
noting_plan note = within 1 (Notes note (Gives Pass))
