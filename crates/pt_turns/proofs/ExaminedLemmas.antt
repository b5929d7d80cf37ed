-- What is found out of one item, by what is found out of its check.
use Rattle.std.proofs.Common.{◌≡◌, ℕ, Bool, true, false, List, Result, Ok, Err, subst}
use Rattle.std.specs.Prelude.{IfOk}
use Rattle.pt_choice.specs.declared.choice.Choice.{Choice}
use Rattle.pt_case.specs.declared.ending.Ending.{Ending}
use Rattle.pt_case.specs.declared.ending.Ending.TheVariants.{Pass, Reject, Overrun, Fail}
use Rattle.pt_case.specs.declared.record.Record.{Record}
use Rattle.pt_case.specs.Ending.{is_pass, is_failure}
use Rattle.pt_case.specs.Source.{Source, Listed}
use Rattle.pt_case.specs.Step.{Answer}
use Rattle.pt_case.specs.Run.{IsRecordOver}
use Rattle.pt_ast.specs.Trees.{ItemTree}
use Rattle.pt_found.specs.declared.finding.Finding.{Finding}
use Rattle.pt_found.specs.declared.finding.Verdict.{Verdict}
use Rattle.pt_found.specs.declared.finding.Verdict.TheVariants.{Passed, GaveUp, Failed}
use Rattle.pt_engine.specs.Finding.{IsFinding, ReplaysItself}
use Rattle.pt_item.specs.Item.{OfItem}
use Rattle.pt_item.specs.Check.{check_name, check_step, IsCheckOf}
use Rattle.pt_item.specs.Noted.{NotedBy}
use Rattle.pt_item.specs.declared.item_check.ItemCheck.{ItemCheck}
use Rattle.pt_item.proofs.ItemLemmas.{said-of-item}
use Rattle.pt_turns.specs.Examined.{ShowsItsNotes, Examined}

failure-no-pass : (ending : Ending) → is_failure ending ≡ true → is_pass ending ≡ false
failure-no-pass Pass is = cc
failure-no-pass Reject is = cc
failure-no-pass Overrun is = cc
failure-no-pass (Fail origin) is = cc

module _ {C : Type 0} (name : C → List ℕ) (step : C → List Choice → Answer → Type 0) (checks : List C) (item : ItemTree) (check : ItemCheck C)
    (is : IsCheckOf name checks item check)
    (notes : (item : ItemTree) (source : Source) (rec : Record) → OfItem name step checks item (λ says. IsRecordOver says source rec) →
    NotedBy item (is_pass rec.ending) rec.notes) where
  shows-notes : (verdict : Verdict) → ReplaysItself (check_step step check) verdict → ShowsItsNotes item verdict
  shows-notes Passed replays = tt
  shows-notes GaveUp replays = tt
  shows-notes (Failed shown found spent) replays =
      let of = said-of-item name step checks item (λ says. IsRecordOver says (Listed shown.choices) shown) check is replays.0 in
      let P : Bool → Type 0 = λ passed. NotedBy item passed shown.notes in
      subst P (failure-no-pass shown.ending replays.1) (notes item (Listed shown.choices) shown of)

  pub examined-of-check : (seed : ℕ) (stored : List (List Choice)) (finding : Finding) →
      IsFinding (check_step step check) (check_name name check) seed item.settings.runs item.settings.shrink stored finding →
      ReplaysItself (check_step step check) finding.verdict → Examined name step checks seed stored item finding
  examined-of-check seed stored finding found replays =
      let P : List ℕ → Type 0 = λ word. IsFinding (check_step step check) word seed item.settings.runs item.settings.shrink stored finding in
      record {
        found = said-of-item name step checks item
            (λ says. IsFinding says item.name.name seed item.settings.runs item.settings.shrink stored finding × ReplaysItself says finding.verdict)
            check is (subst P is.named found, replays);
        noted = shows-notes finding.verdict replays;
      }

  pub result-examined : {E : Type 0} (seed : ℕ) (stored : List (List Choice)) (result : Result Finding E) →
      IfOk result (IsFinding (check_step step check) (check_name name check) seed item.settings.runs item.settings.shrink stored) →
      IfOk result (λ finding. ReplaysItself (check_step step check) finding.verdict) → IfOk result (Examined name step checks seed stored item)
  result-examined seed stored (Ok finding) found replays = examined-of-check seed stored finding found replays
  result-examined seed stored (Err why) found replays = tt
