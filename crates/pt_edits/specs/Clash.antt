-- Two values of one digest.
use Rattle.std.specs.Prelude.{◌≡◌, List, [], ◌∷◌, ◌++◌, Option, IfSome, ⊤}
use Rattle.pt_disk.specs.Folder.{reads}
use Rattle.pt_disk.specs.Moments.{Told, now}
use Rattle.pt_stored.specs.Digest.{AreAlike}
use Rattle.pt_stored.specs.Stored.{IsStored}
use Rattle.pt_edits.specs.Pairs.{PairEdit, after_all, digest_of, bytes_of}
use Rattle.pt_edits.specs.declared.stop.StoreStop.{StoreStop}
use Rattle.pt_edits.specs.declared.stop.StoreStop.TheVariants.{Failed, Clash, NoMemory}
use Rattle.pt_edits.specs.declared.stop.TwoValues.{TwoValues}

-- The two values differ and have one digest. The one is that of an edit which was due; the other is stored under the same key
-- by then, where the disk tells what it stored before the edits that were done, and before these.
pub record IsClashIn (done edits : List PairEdit) (told : Option Told) (two : TwoValues) : Type 0 where
  pub alike : AreAlike two.kept two.offered
  pub made : List PairEdit
  pub due : PairEdit
  pub left : List PairEdit
  pub among : edits ≡ made ++ due ∷ left
  pub offered : bytes_of due ≡ two.offered
  pub kept : IfSome told (λ told. after_all (done ++ made) (IsStored (reads (now told))) (digest_of due) two.kept)

-- where two values clash, it is in these edits
abbrev pub ClashesIn : List PairEdit → Option Told → StoreStop → Type 0
ClashesIn edits told Failed = ⊤
ClashesIn edits told (Clash two) = IsClashIn [] edits told two
ClashesIn edits told NoMemory = ⊤

abbrev pub IsNoClash : StoreStop → Type 0
IsNoClash Failed = ⊤
IsNoClash (Clash two) = ⊥
IsNoClash NoMemory = ⊤
