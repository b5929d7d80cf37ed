-- How a call ends that asks for something.
use Rattle.std.specs.Prelude.{◌≡◌, ◌⊎◌, ℕ, List, None, map, Contains, String}
use Rattle.std.specs.declared.alloc.Global.{Global}
use Rattle.pt_choice.specs.declared.choice.Choice.{Choice}
use Rattle.pt_ast.specs.Trees.{ItemTree, SuiteTree}
use Rattle.pt_case.specs.Run.{IsRecord}
use Rattle.pt_case.specs.Step.{Answer}
use Rattle.pt_item.specs.Item.{OfItem}
use Rattle.pt_report.specs.declared.refusal.Refusal.{Refusal}
use Rattle.pt_report.specs.declared.refusal.Refusal.TheVariants.{UnknownItem}
use Rattle.pt_turns.specs.Finishes.{Finishes, StoppedShort}
use Rattle.pt_turns.specs.declared.reporting.Reported.{Reported}
use Rattle.pt_commands.specs.declared.finish.Finish.{Finish}
use Rattle.pt_commands.specs.declared.message.Message.{Message}
use Rattle.pt_commands.specs.declared.message.Message.TheVariants.{Refused, Replayed, Marked}
use Rattle.pt_commands.specs.Ends.{Lists, Sums}
use Rattle.pt_commands.specs.Explaining.{IsExplained}
use Rattle.pt_commands.specs.Message.{Tells}
use Rattle.pt_run.specs.Outside.{Outside, scene_of}
use Rattle.pt_run.specs.Suite.{IsTaken, IsTurnedDown}
use Rattle.pt_commands.specs.Words.{Asked, Run, Replay, Stored, Make, Explain, AsksRun}

-- the item is one of the suite's, and of this name
abbrev pub IsItem : SuiteTree → List ℕ → ItemTree → Type 0
IsItem suite wanted item = Contains suite.items item × (item.name.name ≡ wanted)

-- what a run leaves of a call
abbrev pub reported_of : Finish → Reported
reported_of finish = record { status = finish.status; findings = finish.findings; clash = finish.clash }

module _ {C : Type 0} (name : C → List ℕ) (step : C → List Choice → Answer → Type 0) (checks : List C) where
  -- What a replay on the item of this name has to say: the record of the list on what the item tests, or that there is no such item.
  abbrev pub Says : SuiteTree → List ℕ → List Choice → Message → Type 0
  Says suite wanted list (Replayed shown rec) =
      (item : ItemTree) × IsItem suite wanted item × (shown ≡ wanted) × OfItem name step checks item (λ says. IsRecord says list rec)
  Says suite wanted list (Refused UnknownItem) = (item : ItemTree) → IsItem suite wanted item → ⊥
  Says suite wanted list other = ⊥

  -- What is said of the choices of a list on the item of this name: what is found out of them on what the item tests, or that there is no such item.
  abbrev pub Explains : SuiteTree → List ℕ → List Choice → Message → Type 0
  Explains suite wanted list (Marked shown rec explained) =
      (item : ItemTree) × IsItem suite wanted item × (shown ≡ wanted) × OfItem name step checks item (λ says. IsExplained says list rec explained)
  Explains suite wanted list (Refused UnknownItem) = (item : ItemTree) → IsItem suite wanted item → ⊥
  Explains suite wanted list other = ⊥

  -- The suite was taken, and this was done with it; or it was not, and the call says why, and the disk is as it was.
  abbrev pub OnSuite : List ℕ → (SuiteTree → Type 0) → Outside → Outside → Finish → Type 0
  OnSuite file Does before after finish =
      ((suite : SuiteTree) × IsTaken (map name checks) before.files after.files file suite × Does suite)
      ⊎ ((refusal : Refusal) × IsTurnedDown (map name checks) before.files after.files file refusal
      × Tells (Refused refusal) finish before.sink after.sink × (after.disk ≡ before.disk))

  -- What was asked for was done, or the call says why it was not.
  abbrev pub Ends : Asked → Outside → Outside → Finish → Type 0
  Ends (Run file seed workers) before after finish =
      OnSuite file (λ suite. Finishes name step checks seed suite.items (reported_of finish) (scene_of before) (scene_of after)
      × (finish.replayed ≡ None)) before after finish
  Ends (Replay file wanted list) before after finish =
      OnSuite file (λ suite. (message : Message) × Says suite wanted list message × Tells message finish before.sink after.sink
      × (after.disk ≡ before.disk)) before after finish
  Ends Stored before after finish =
      (message : Message) × Lists before.disk after.disk message × Tells message finish before.sink after.sink
  Ends (Make seed count) before after finish = Sums name step checks seed count finish before.sink after.sink
  Ends (Explain file wanted list) before after finish =
      OnSuite file (λ suite. (message : Message) × Explains suite wanted list message × Tells message finish before.sink after.sink
      × (after.disk ≡ before.disk)) before after finish

  -- There was no memory for more of a run: the blocks of some of the first items are written, whole, and nothing more.
  pub record EndsShort (words : List (String Global)) (before after : Outside) : Type 0 where
    pub file : List ℕ
    pub seed : ℕ
    pub workers : ℕ
    pub asks : AsksRun words file seed workers
    pub suite : SuiteTree
    pub taken : IsTaken (map name checks) before.files after.files file suite
    pub stopped : StoppedShort name step checks seed suite.items (scene_of before) (scene_of after)
