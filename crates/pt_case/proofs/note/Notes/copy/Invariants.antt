use Rattle.std.proofs.Common.{◌≡◌, take}
use Rattle.pt_case.proofs.note.Notes.copy.Given as goal

-- the notes so far are copied
abbrev pub invariant-loop-note : goal.invariant-loop-note
invariant-loop-note l = l.items.items ≡ take l.note-index l.note-items
