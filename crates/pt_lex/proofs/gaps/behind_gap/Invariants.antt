use Rattle.std.proofs.Common.{◌≡◌, ◌≤◌, false, length}
use Rattle.pt_lex.specs.reading.Gap.{gap_on}
use Rattle.pt_lex.proofs.gaps.behind_gap.Given as goal

abbrev pub invariant-loop-char : goal.invariant-loop-char
invariant-loop-char l = (gap_on l.in_remark l.rest ≡ gap_on false l.text) × (length l.rest ≤ length l.text)

abbrev pub decreases-loop-char : goal.decreases-loop-char
decreases-loop-char l = length l.rest
