-- The four checks of the program have names of their own.
use Rattle.std.proofs.Common.{◌≡◌, ℕ, List, [], ◌∷◌}
use Rattle.pt_run.specs.Suite.{HaveOwnNames}
use Rattle.pt_checks.specs.Checks.{never_name, always_name, sorted_pair_name}
use Rattle.pt_checks.specs.Counter.{counter_name}
use Rattle.pt_checks.proofs.NameLemmas as checks

pub own-names : {C : Type 0} (name : C → List ℕ) (never always sorted_pair counter : C) → name never ≡ never_name → name always ≡ always_name →
    name sorted_pair ≡ sorted_pair_name → name counter ≡ counter_name → HaveOwnNames name (never ∷ always ∷ sorted_pair ∷ counter ∷ [])
own-names name never always sorted_pair counter n a s c = checks.own-names name never always sorted_pair counter n a s c
