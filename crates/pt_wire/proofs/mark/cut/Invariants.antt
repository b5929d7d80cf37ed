use Rattle.std.proofs.Common.{take}
use Rattle.pt_wire.proofs.JoinedTexts.{Lacks}
use Rattle.pt_wire.proofs.mark.cut.Given as goal

-- no mark was met
abbrev pub invariant-loop-place : goal.invariant-loop-place
invariant-loop-place l = Lacks l.mark (take l.place l.text)
