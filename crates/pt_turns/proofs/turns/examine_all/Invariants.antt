use Rattle.std.proofs.Common.{◌≡◌, length, map, take}
use Rattle.pt_ast.specs.Plain.{plain_item}
use Rattle.pt_turns.specs.Turns.{AreExamined}
use Rattle.pt_turns.proofs.turns.examine_all.Given as goal

-- the items so far were examined
abbrev pub invariant-loop-item : goal.invariant-loop-item
invariant-loop-item g l = record {
  counted : length l.findings ≡ l.item-index;
  those : AreExamined g.C.Check.name g.C.Check.step l.checks l.seed (take l.item-index (map plain_item l.items)) l.findings;
}
