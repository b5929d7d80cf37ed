-- A call of the program, and what follows of it.
use Rattle.std.specs.Prelude.{◌≡◌, ◌⊎◌, ℕ, ◌<◌, true, List, [], ◌∷◌, map, codes, Option, Some, None, String, string_bytes, if◌then◌else◌}
use Rattle.std.specs.declared.alloc.Global.{Global}
use Rattle.pt_choice.specs.Faults.{Rose}
use Rattle.pt_choice.specs.declared.choice.Choice.{Choice}
use Rattle.pt_wire.specs.Printed.{Printed}
use Rattle.pt_ast.specs.Suites.{IsTyped}
use Rattle.pt_ast.specs.Trees.{ItemTree, SuiteTree}
use Rattle.pt_parse.specs.Suites.{Reads}
use Rattle.pt_stored.specs.declared.entry.Entry.{Entry}
use Rattle.pt_case.specs.Ending.{is_failure}
use Rattle.pt_case.specs.Step.{Answer}
use Rattle.pt_case.specs.declared.record.Record.{Record}
use Rattle.pt_explain.specs.declared.explained.Explained.{Explained}
use Rattle.pt_io.specs.Files.{Shown}
use Rattle.pt_io.specs.Reading.{IsWithinLimit}
use Rattle.pt_io.specs.Sink.{Appends}
use Rattle.pt_item.specs.Item.{OfItem}
use Rattle.pt_report.specs.Listing.{IsListing}
use Rattle.pt_report.specs.Report.{IsReplay, IsReport, summary}
use Rattle.pt_report.specs.declared.refusal.Refusal.TheVariants.{Usage}
use Rattle.pt_turns.specs.Finishes as turns
use Rattle.pt_commands.specs.declared.finish.Finish.{Finish}
use Rattle.pt_commands.specs.declared.message.Message.TheVariants.{Refused}
use Rattle.pt_run.specs.Ends.{Ends, IsItem}
use Rattle.pt_commands.specs.Explaining.{IsExplained, IsExplaining}
use Rattle.pt_commands.specs.Message.{Tells}
use Rattle.pt_run.specs.Outside.{Outside}
use Rattle.pt_commands.specs.Words.{Asked, Run, Replay, Stored, Make, Explain, Asks, AskNothing}

-- a call with these words that came to an end, with what the outside showed before and after
pub record Call : Type 0 where
  pub words : List (String Global)
  pub before : Outside
  pub after : Outside
  pub finish : Finish

abbrev pub call : List (String Global) → Outside → Outside → Finish → Call
call words before after finish = record { words = words; before = before; after = after; finish = finish }

-- The words ask for nothing, and the call says so; or they ask for something, and the call ends as it must.
abbrev pub Answers : {C : Type 0} → (C → List ℕ) → (C → List Choice → Answer → Type 0) → List C → Call → Type 0
Answers name step checks call =
    (AskNothing call.words × Tells (Refused Usage) call.finish call.before.sink call.after.sink)
    ⊎ ((asked : Asked) × Asks call.words asked
    × Ends name step checks asked call.before call.after call.finish)

-- No call of the sink failed, none of the disk, and none of the files, of which steady ones fail only where they lack the suite; and no
-- two values clashed.
pub record IsQuiet (call : Call) : Type 0 where
  pub files : (call.before.files.steady ≡ true) ⊎ (Rose call.before.files.faults call.after.files.faults → ⊥)
  pub disk : Rose call.before.disk.faults call.after.disk.faults → ⊥
  pub sink : Rose call.before.sink.faults call.after.sink.faults → ⊥
  pub no_clash : call.finish.clash ≡ None

-- There is such a file, and it is the text of a well typed suite of which this is true.
pub record HasSuite (known : List (List ℕ)) (files : Shown) (file : List ℕ) (Holds : SuiteTree → Type 0) : Type 0 where
  pub content : List ℕ → Option (List ℕ)
  pub told : files.named ≡ Some content
  pub bytes : List ℕ
  pub there : content file ≡ Some bytes
  pub small : IsWithinLimit bytes
  pub suite : SuiteTree
  pub reads : Reads bytes suite
  pub typed : IsTyped known suite
  pub has : Holds suite

-- What is asked for can be done: there is the suite, where one is asked for, and it has an item of the name, where a replay or an explanation
-- asks for one.
abbrev pub IsRunnable : List (List ℕ) → Shown → Asked → Type 0
IsRunnable known files (Run file seed workers) = HasSuite known files file (λ suite. Unit {0})
IsRunnable known files (Replay file wanted list) = HasSuite known files file (λ suite. (item : ItemTree) × IsItem suite wanted item)
IsRunnable known files Stored = Unit {0}
IsRunnable known files (Make seed count) = Unit {0}
IsRunnable known files (Explain file wanted list) = HasSuite known files file (λ suite. (item : ItemTree) × IsItem suite wanted item)

module _ {C : Type 0} (name : C → List ℕ) (step : C → List Choice → Answer → Type 0) (checks : List C) where
  -- The file's suite has an item of this name, and this text shows what is found out of the choices of the list on it; the status goes with it.
  abbrev pub IsDueOfList : Shown → List ℕ → List ℕ → List Choice → ℕ → List ℕ → Type 0
  IsDueOfList files file wanted list status text =
      HasSuite (map name checks) files file (λ suite. (item : ItemTree) × IsItem suite wanted item × OfItem name step checks item (λ says.
      (rec : Record) × (explained : Option Explained) × IsExplained says list rec explained × IsExplaining wanted rec explained text
      × (status ≡ (if is_failure rec.ending then 1 else 0))))

  -- this is the whole text that is due, and the status that goes with it
  abbrev pub IsDue : Shown → Asked → Finish → List ℕ → Type 0
  IsDue files (Run file seed workers) finish text = IsReport finish.findings text × (finish.status ≡ turns.status_of finish.findings)
  IsDue files (Replay file wanted list) finish text =
      (rec : Record) × (finish.replayed ≡ Some rec) × IsReplay wanted rec text × (finish.status ≡ (if is_failure rec.ending then 1 else 0))
  IsDue files Stored finish text = (entries : List Entry) × IsListing entries text × (finish.status ≡ 0)
  IsDue files (Make seed count) finish text = (text ≡ summary finish.findings) × (finish.status ≡ turns.status_of finish.findings)
  IsDue files (Explain file wanted list) finish text = IsDueOfList files file wanted list finish.status text

  -- The status is 0 or 1, and the whole text that is due was written.
  pub record IsDone (asked : Asked) (call : Call) : Type 0 where
    pub below : call.finish.status < 2
    pub text : List ℕ
    pub due : IsDue call.before.files asked call.finish text
    pub written : Appends call.before.sink.bytes text call.after.sink.bytes

-- the words ask for a replay of this record's printed choices on the item of this name
pub record AsksAgain (words : List (String Global)) (suite name : List ℕ) (shown : Record) : Type 0 where
  pub choices : List ℕ
  pub printed : Printed shown.choices choices
  pub spelled : map string_bytes words ≡ codes "replay" ∷ suite ∷ name ∷ choices ∷ []

-- the call replayed exactly this failure, and wrote what it shows
pub record Replays (call : Call) (name : List ℕ) (shown : Record) : Type 0 where
  pub status : call.finish.status ≡ 1
  pub replayed : call.finish.replayed ≡ Some shown
  pub text : List ℕ
  pub is_text : IsReplay name shown text
  pub written : Appends call.before.sink.bytes text call.after.sink.bytes
