-- The three sorts of verdict.
use Rattle.std.specs.Prelude.{ℕ, Bool, true, false, List, count_by}
use Rattle.pt_found.specs.declared.finding.Finding.{Finding}
use Rattle.pt_found.specs.declared.finding.Verdict.{Verdict}
use Rattle.pt_found.specs.declared.finding.Verdict.TheVariants.{Passed, GaveUp, Failed}

abbrev pub has_passed : Verdict → Bool
has_passed Passed = true
has_passed GaveUp = false
has_passed (Failed shown found spent) = false

abbrev pub has_failed : Verdict → Bool
has_failed Passed = false
has_failed GaveUp = false
has_failed (Failed shown found spent) = true

abbrev pub has_given_up : Verdict → Bool
has_given_up Passed = false
has_given_up GaveUp = true
has_given_up (Failed shown found spent) = false

-- how many findings have such a verdict
abbrev pub how_many : (Verdict → Bool) → List Finding → ℕ
how_many is findings = count_by (λ finding. is finding.verdict) findings
