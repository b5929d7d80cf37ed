-- The turn of one item: what is stored under its name, what is found out of it, and the edits that follow.
use Rattle.std.specs.Prelude.{ℕ, List, All, Option, IfSome}
use Rattle.pt_choice.specs.declared.choice.Choice.{Choice}
use Rattle.pt_case.specs.Step.{Answer}
use Rattle.pt_ast.specs.Trees.{ItemTree}
use Rattle.pt_found.specs.declared.finding.Finding.{Finding}
use Rattle.pt_disk.specs.Folder.{reads}
use Rattle.pt_disk.specs.Moments.{Told, now}
use Rattle.pt_stored.specs.Digest.{digest_text}
use Rattle.pt_stored.specs.Stored.{IsStored}
use Rattle.pt_edits.specs.Pairs.{PairEdit, after_all}
use Rattle.pt_edits.specs.Readings.{IsSpelled, AreOfKey, AreInFileOrder, AreEdits, lists_of}
use Rattle.pt_edits.specs.declared.reading.Reading.{Reading}
use Rattle.pt_turns.specs.Examined.{Examined}

-- the digest of the item's name, under which its examples are stored
abbrev pub digest_of : ItemTree → List ℕ
digest_of item = digest_text item.name.name

-- An item's turn, on a disk that stored this before the edits that were done, where it tells: what is stored under its name then is
-- read, the item is examined over the lists that were read, and these are its edits.
pub record Turn {C : Type 0} (name : C → List ℕ) (step : C → List Choice → Answer → Type 0) (checks : List C) (seed : ℕ)
    (told : Option Told) (done : List PairEdit) (item : ItemTree) (finding : Finding) (edits : List PairEdit) : Type 0 where
  pub readings : List Reading
  pub of_key : IfSome told (λ told. AreOfKey (after_all done (IsStored (reads (now told)))) (digest_of item) readings)
  pub ordered : AreInFileOrder (digest_of item) readings
  pub spelled : All IsSpelled readings
  pub examined : Examined name step checks seed (lists_of readings) item finding
  pub edited : AreEdits (digest_of item) readings finding.verdict finding.failing edits
