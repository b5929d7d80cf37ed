-- A finding has one flag for each stored list.
use Rattle.std.proofs.Common.{◌≡◌, ℕ, List, [], ◌∷◌, length, refl, ◌∙◌, ap, suc}
use Rattle.std.proofs.lemmas.List.{length-map}
use Rattle.pt_choice.specs.declared.choice.Choice.{Choice}
use Rattle.pt_case.specs.declared.record.Record.{Record}
use Rattle.pt_case.specs.Ending.{is_failure}
use Rattle.pt_case.specs.Step.{Answer}
use Rattle.pt_ast.specs.declared.suite.Settings.{Settings}
use Rattle.pt_ast.specs.Trees.{BodyTree, Check_of, Property_of, Machine_of, ItemTree}
use Rattle.pt_found.specs.declared.finding.Finding.{Finding}
use Rattle.pt_engine.specs.Finding.{IsFinding, ReplaysItself}
use Rattle.pt_engine.specs.Outcome.{AreRecords}
use Rattle.pt_item.specs.Item.{OfBody}
use Rattle.pt_turns.specs.Examined.{Examined}

records-count : (step : List Choice → Answer → Type 0) (lists : List (List Choice)) (records : List Record) → AreRecords step lists records →
    length records ≡ length lists
records-count step [] records are = rw are refl
records-count step (list ∷ lists) [] are = elim are [ ]
records-count step (list ∷ lists) (rec ∷ records) are = ap suc (records-count step lists records are.1)

found-count : (step : List Choice → Answer → Type 0) (name : List ℕ) (seed runs budget : ℕ) (stored : List (List Choice)) (finding : Finding) →
    IsFinding step name seed runs budget stored finding → length finding.failing ≡ length stored
found-count step name seed runs budget stored finding is =
    ap length (is.flags ∙ is.is.flags) ∙ length-map is.is.records (λ rec. is_failure rec.ending) ∙ records-count step stored is.is.records is.is.replayed

module _ {C : Type 0} (name : C → List ℕ) (step : C → List Choice → Answer → Type 0) (checks : List C) (seed : ℕ) (stored : List (List Choice)) where
  body-count : (word : List ℕ) (settings : Settings) (body : BodyTree) (finding : Finding) →
      OfBody name step checks word settings body (λ says.
      IsFinding says word seed settings.runs settings.shrink stored finding × ReplaysItself says finding.verdict) →
      length finding.failing ≡ length stored
  body-count word settings Check_of finding found = found-count (step found.1) word seed settings.runs settings.shrink stored finding found.4.0
  body-count word settings (Property_of stmts) finding found = found-count _ word seed settings.runs settings.shrink stored finding found.0
  body-count word settings (Machine_of machine) finding found = found-count _ word seed settings.runs settings.shrink stored finding found.0

  pub flags-count : (item : ItemTree) (finding : Finding) → Examined name step checks seed stored item finding → length finding.failing ≡ length stored
  flags-count item finding examined = body-count item.name.name item.settings item.body finding examined.found
