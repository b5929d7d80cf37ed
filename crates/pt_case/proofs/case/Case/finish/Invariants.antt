use Rattle.std.proofs.Common.{◌≡◌, ◌≤◌, take}
use Rattle.std.specs.Prelude.{vec_capacity, vec_len}
use Rattle.pt_case.specs.Region.{spans_at}
use Rattle.pt_case.proofs.case.Case.finish.Given as goal

-- the spans of the regions so far, and room for the others
abbrev pub invariant-loop-region : goal.invariant-loop-region
invariant-loop-region l =
    (l.spans.items ≡ spans_at l.here (take l.region-index l.region-items)) × (vec_len l.spans ≡ l.region-index) × (1024 ≤ vec_capacity l.spans)
