-- The four checks of the program have names of their own.
use Rattle.std.proofs.Common.{◌≡◌, ℕ, List, [], ◌∷◌, sym, ◌∙◌}
use Rattle.std.specs.List.{AllPairs}
use Rattle.pt_handed.proofs.NameLemmas.{Differ, four-names}
use Rattle.pt_checks.specs.Checks.{never_name, always_name, sorted_pair_name}
use Rattle.pt_checks.specs.Counter.{counter_name}

module _ {C : Type 0} (name : C → List ℕ) (never always sorted_pair counter : C) (n : name never ≡ never_name) (a : name always ≡ always_name)
    (s : name sorted_pair ≡ sorted_pair_name) (c : name counter ≡ counter_name) where
  never-always : Differ name never always
  never-always is = let e : never_name ≡ always_name = sym n ∙ is ∙ a in cc

  never-sorted_pair : Differ name never sorted_pair
  never-sorted_pair is = let e : never_name ≡ sorted_pair_name = sym n ∙ is ∙ s in cc

  never-counter : Differ name never counter
  never-counter is = let e : never_name ≡ counter_name = sym n ∙ is ∙ c in cc

  always-sorted_pair : Differ name always sorted_pair
  always-sorted_pair is = let e : always_name ≡ sorted_pair_name = sym a ∙ is ∙ s in cc

  always-counter : Differ name always counter
  always-counter is = let e : always_name ≡ counter_name = sym a ∙ is ∙ c in cc

  sorted_pair-counter : Differ name sorted_pair counter
  sorted_pair-counter is = let e : sorted_pair_name ≡ counter_name = sym s ∙ is ∙ c in cc

  pub own-names : AllPairs (Differ name) (never ∷ always ∷ sorted_pair ∷ counter ∷ [])
  own-names =
      four-names name never always sorted_pair counter never-always never-sorted_pair never-counter always-sorted_pair always-counter sorted_pair-counter
