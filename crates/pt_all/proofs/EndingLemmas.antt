-- Endings that are found the same are one.
use Rattle.std.proofs.Common.{◌≡◌, ◌≢◌, true, false, refl, sym, ap, ◌∙◌, rules}
use Rattle.std.specs.Bool.{Decides}
use Rattle.std.proofs.lemmas.Bool.{false_from_ne_true, both_ways}
use Rattle.pt_case.specs.Ending.{is_failure}
use Rattle.pt_case.specs.declared.ending.Ending.{Ending}
use Rattle.pt_all.specs.Origins.{same_ending}

pub same-decides : (a b : Ending) → Decides (same_ending a b) (a ≡ b)
same-decides a b = (λ e. search rules, λ e. search rules)

pub same-itself : (a : Ending) → same_ending a a ≡ true
same-itself a = (same-decides a a).1 refl

pub not-same : (a b : Ending) → a ≢ b → same_ending a b ≡ false
not-same a b differ = false_from_ne_true (same_ending a b) (λ same. differ ((same-decides a b).0 same))

-- a failure ends otherwise than what does not fail
pub not-alike : (a b : Ending) → is_failure a ≡ true → is_failure b ≡ false → a ≢ b
not-alike a b fails passes alike = both_ways (is_failure b) passes (sym (ap is_failure alike) ∙ fails)
