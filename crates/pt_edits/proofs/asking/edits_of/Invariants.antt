use Rattle.pt_edits.proofs.AskedLemmas.{SoFar}
use Rattle.pt_edits.proofs.asking.edits_of.Given as goal

-- the edits so far are those of the readings so far
abbrev pub invariant-loop-reading : goal.invariant-loop-reading
invariant-loop-reading l = record { so_far : SoFar l.verdict l.yielded l.failing l.flags l.edits }
