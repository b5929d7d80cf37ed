-- What a second run finds again of the failures that a first one showed.
use Rattle.std.specs.Prelude.{◌≡◌, ◌≢◌, ℕ, Bool, true, List, [], ◌∷◌, Contains}
use Rattle.std.specs.List.{AllByRecursion}
use Rattle.pt_choice.specs.declared.choice.Choice.{Choice}
use Rattle.pt_ast.specs.Trees.{ItemTree}
use Rattle.pt_case.specs.Better.{IsAsGood}
use Rattle.pt_case.specs.Step.{Answer}
use Rattle.pt_case.specs.declared.record.Record.{Record}
use Rattle.pt_engine.specs.Finding.{IsReduced}
use Rattle.pt_found.specs.declared.finding.Finding.{Finding}
use Rattle.pt_found.specs.declared.finding.Found.TheVariants.{Stored}
use Rattle.pt_found.specs.declared.finding.Verdict.{Verdict}
use Rattle.pt_found.specs.declared.finding.Verdict.TheVariants.{Passed, GaveUp, Failed}
use Rattle.pt_item.specs.Item.{OfItem}
use Rattle.pt_turns.specs.Turn.{digest_of}

-- The finding is a failure that was found in the database, with no run made, and its reduction began from this very record. So what it shows
-- ends alike, with the same choices or ones that come before. Each list that is stored fails.
pub record BeginsFrom (says : List Choice → Answer → Type 0) (budget : ℕ) (shown : Record) (finding : Finding) : Type 0 where
  pub again : Record
  pub spent : Bool
  pub found : finding.verdict ≡ Failed again Stored spent
  pub no_runs : finding.seen ≡ 0
  pub reduced : IsReduced says budget shown again finding.trail spent
  pub as_good : IsAsGood again shown
  pub all_fail : AllByRecursion (λ fails. fails ≡ true) finding.failing

-- No list is stored. And where the seeds are the same, the same is found: the verdict, and how many runs were made, and how many of them passed.
pub record IsAsBefore (seed anew : ℕ) (one other : Finding) : Type 0 where
  pub none_stored : other.failing ≡ []
  pub verdict : seed ≡ anew → other.verdict ≡ one.verdict
  pub seen : seed ≡ anew → other.seen ≡ one.seen
  pub valid : seed ≡ anew → other.valid ≡ one.valid

-- After this verdict of a first finding the second one begins from the failure that was shown; and where none was, it is as before.
abbrev pub FindsAgain : (List Choice → Answer → Type 0) → (budget seed anew : ℕ) → Verdict → Finding → Finding → Type 0
FindsAgain says budget seed anew Passed one other = IsAsBefore seed anew one other
FindsAgain says budget seed anew GaveUp one other = IsAsBefore seed anew one other
FindsAgain says budget seed anew (Failed shown found spent) one other = BeginsFrom says budget shown other

module _ {C : Type 0} (name : C → List ℕ) (step : C → List Choice → Answer → Type 0) (checks : List C) (seed anew : ℕ) where
  -- there are as many of both as items, and of each item whose name's digest is that of no other the first finding is found again
  abbrev pub AreFoundAgain : List (List ℕ) → List ItemTree → List Finding → List Finding → Type 0
  AreFoundAgain earlier [] [] [] = Unit {0}
  AreFoundAgain earlier (item ∷ items) (one ∷ ones) (other ∷ others) =
      (¬ Contains earlier (digest_of item) → AllByRecursion (λ later. digest_of later ≢ digest_of item) items →
      OfItem name step checks item (λ says. FindsAgain says item.settings.shrink seed anew one.verdict one other))
      × AreFoundAgain (digest_of item ∷ earlier) items ones others
  AreFoundAgain earlier [] (one ∷ ones) others = ⊥
  AreFoundAgain earlier [] [] (other ∷ others) = ⊥
  AreFoundAgain earlier (item ∷ items) [] others = ⊥
  AreFoundAgain earlier (item ∷ items) (one ∷ ones) [] = ⊥
