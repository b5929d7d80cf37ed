-- Values that are short enough to be stored.
use Rattle.std.specs.Prelude.{◌≤◌, length, ⊤}
use Rattle.pt_edits.specs.declared.edit.Edit.{Edit}
use Rattle.pt_edits.specs.declared.edit.Edit.TheVariants.{Save, Delete}

-- a value that is saved has no more bytes than a value may have
abbrev pub IsShortEdit : Edit → Type 0
IsShortEdit (Save bytes) = length bytes ≤ 65536
IsShortEdit (Delete bytes) = ⊤
