use Rattle.std.proofs.Common.{◌≤◌, take}
use Rattle.pt_explain.specs.Tally.{IsTally}
use Rattle.pt_explain.proofs.place.mark_place.Given as goal

-- none of the members so far differs
abbrev pub invariant-loop-member : goal.invariant-loop-member
invariant-loop-member g l = record {
  tally : IsTally (g.C.Check.step l.check) l.best l.place (take l.member-index l.member-items) l.tally;
  few : l.tally.tried ≤ l.member-index;
}
