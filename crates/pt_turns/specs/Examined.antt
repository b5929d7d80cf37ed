-- What is found out of one item.
use Rattle.std.specs.Prelude.{ℕ, List, false}
use Rattle.pt_choice.specs.declared.choice.Choice.{Choice}
use Rattle.pt_case.specs.Step.{Answer}
use Rattle.pt_ast.specs.Trees.{ItemTree}
use Rattle.pt_found.specs.declared.finding.Finding.{Finding}
use Rattle.pt_found.specs.declared.finding.Verdict.{Verdict}
use Rattle.pt_found.specs.declared.finding.Verdict.TheVariants.{Passed, GaveUp, Failed}
use Rattle.pt_engine.specs.Finding.{IsFinding, ReplaysItself}
use Rattle.pt_item.specs.Item.{OfItem}
use Rattle.pt_item.specs.Noted.{NotedBy}

-- a failure that is shown notes what the item's strategies, bundles and steps allow
abbrev pub ShowsItsNotes : ItemTree → Verdict → Type 0
ShowsItsNotes item Passed = Unit {0}
ShowsItsNotes item GaveUp = Unit {0}
ShowsItsNotes item (Failed shown found spent) = NotedBy item false shown.notes

-- An item was examined over these stored lists: this is the finding of the item's check under the item's name and settings, and a
-- failure that is shown replays to itself.
pub record Examined {C : Type 0} (name : C → List ℕ) (step : C → List Choice → Answer → Type 0) (checks : List C) (seed : ℕ)
    (stored : List (List Choice)) (item : ItemTree) (finding : Finding) : Type 0 where
  pub found : OfItem name step checks item (λ says.
      IsFinding says item.name.name seed item.settings.runs item.settings.shrink stored finding × ReplaysItself says finding.verdict)
  pub noted : ShowsItsNotes item finding.verdict
