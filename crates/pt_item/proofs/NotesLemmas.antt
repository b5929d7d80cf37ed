-- What an item's records note.
use Rattle.std.proofs.Common.{ℕ, List, []}
use Rattle.pt_choice.specs.declared.choice.Choice.{Choice}
use Rattle.pt_case.specs.declared.record.Record.{Record}
use Rattle.pt_case.specs.Ending.{is_pass}
use Rattle.pt_case.specs.Source.{Source}
use Rattle.pt_case.specs.Step.{Answer}
use Rattle.pt_case.specs.Run.{IsRecordOver}
use Rattle.pt_ast.specs.declared.suite.Settings.{Settings}
use Rattle.pt_ast.specs.Trees.{StmtTree, MachineTree, BodyTree, Check_of, Property_of, Machine_of}
use Rattle.pt_plan.specs.Says.{plan_says}
use Rattle.pt_prop.specs.Property.{property_plan}
use Rattle.pt_prop.specs.Noted.{IsNoted}
use Rattle.pt_machine.specs.Machine.{machine_plan}
use Rattle.pt_machine.specs.Noted.{AreMachineNotes}
use Rattle.pt_item.specs.Item.{OfBody}
use Rattle.pt_item.specs.Noted.{NotedIn}

module _ {C : Type 0} (name : C → List ℕ) (step : C → List Choice → Answer → Type 0) (checks : List C)
    (of-property : (stmts : List StmtTree) (source : Source) (rec : Record) → IsRecordOver (plan_says (property_plan stmts)) source rec →
    IsNoted (is_pass rec.ending) stmts [] rec.notes)
    (of-machine : (machine : MachineTree) (steps : ℕ) (source : Source) (rec : Record) → IsRecordOver (plan_says (machine_plan machine steps)) source rec →
    AreMachineNotes (is_pass rec.ending) machine steps rec.notes) where
  pub body-notes : (wanted : List ℕ) (settings : Settings) (body : BodyTree) (source : Source) (rec : Record) →
      OfBody name step checks wanted settings body (λ says. IsRecordOver says source rec) → NotedIn settings body (is_pass rec.ending) rec.notes
  body-notes wanted settings Check_of source rec is = tt
  body-notes wanted settings (Property_of stmts) source rec is = of-property stmts source rec is
  body-notes wanted settings (Machine_of machine) source rec is = of-machine machine settings.steps source rec is
