-- What is known of the notes of an item's records.
use Rattle.std.specs.Prelude.{Bool, List, []}
use Rattle.pt_case.specs.declared.note.Note.{Note}
use Rattle.pt_ast.specs.declared.suite.Settings.{Settings}
use Rattle.pt_ast.specs.Trees.{BodyTree, Check_of, Property_of, Machine_of, ItemTree}
use Rattle.pt_prop.specs.Noted.{IsNoted}
use Rattle.pt_machine.specs.Noted.{AreMachineNotes}

-- These are notes of what is tested: of a property's draws, or of a machine's steps. Of a check that is handed in nothing is known.
abbrev pub NotedIn : Settings → BodyTree → Bool → List Note → Type 0
NotedIn settings Check_of passed notes = Unit {0}
NotedIn settings (Property_of stmts) passed notes = IsNoted passed stmts [] notes
NotedIn settings (Machine_of machine) passed notes = AreMachineNotes passed machine settings.steps notes

-- these are notes of the item's check, which passed or did not
abbrev pub NotedBy : ItemTree → Bool → List Note → Type 0
NotedBy item passed notes = NotedIn item.settings item.body passed notes
