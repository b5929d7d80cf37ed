use Rattle.std.proofs.Common.{◌≡◌, ◌≤◌, ◌*◌, ◌^◌, take}
use Rattle.pt_report.specs.Report.{all_shown}
use Rattle.pt_report.proofs.made.all_shown.Given as goal

-- the choices so far are counted, and fit
abbrev pub invariant-loop-finding : goal.invariant-loop-finding
invariant-loop-finding l = (l.total ≡ all_shown (take l.finding-index l.findings)) × (l.total ≤ l.finding-index * 2 ^ 64)
