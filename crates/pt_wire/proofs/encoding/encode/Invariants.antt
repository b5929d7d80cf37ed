use Rattle.std.proofs.Common.{◌≡◌, ℕ, List, ◌++◌, length, take}
use Rattle.pt_wire.specs.Stored.{IsHeader, StoredOne}
use Rattle.pt_wire.proofs.encoding.encode.Given as goal

-- the header and the choices so far are written
abbrev pub invariant-loop-choice : goal.invariant-loop-choice
invariant-loop-choice l = (front held : List ℕ) × IsHeader (length l.choice-items) front × StoredOne (take l.choice-index l.choice-items) held × (l.out ≡ front ++ held)
