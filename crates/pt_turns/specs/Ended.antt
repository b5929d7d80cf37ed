-- How the turns of some items end.
use Rattle.std.specs.Prelude.{◌≡◌, ◌⊎◌, ℕ, true, false, List, [], length, slice_get, Some, Option}
use Rattle.pt_choice.specs.declared.choice.Choice.{Choice}
use Rattle.pt_choice.specs.Faults.{Rose}
use Rattle.pt_case.specs.Step.{Answer}
use Rattle.pt_ast.specs.Trees.{ItemTree}
use Rattle.pt_disk.specs.Moments.{Told, BothTell}
use Rattle.pt_found.specs.declared.finding.Finding.{Finding}
use Rattle.pt_edits.specs.Clash.{IsClashIn, ClashesIn}
use Rattle.pt_edits.specs.Made.{Made}
use Rattle.pt_edits.specs.Pairs.{PairEdit}
use Rattle.pt_edits.specs.declared.stop.StoreStop.{StoreStop}
use Rattle.pt_edits.specs.declared.stop.TwoValues.{TwoValues}
use Rattle.pt_turns.specs.declared.turns.Turned.{Turned}
use Rattle.pt_turns.specs.declared.turns.Turned.TheVariants.{All, Cut, Failed, Clashed}
use Rattle.pt_turns.specs.Blocks.{AreWritten, IsLastCut}
use Rattle.pt_turns.specs.Scene.{Scene}
use Rattle.pt_turns.specs.Turn.{Turn}
use Rattle.pt_turns.specs.Turns.{AreTurns, FirstTurns}

module _ {C : Type 0} (name : C → List ℕ) (step : C → List Choice → Answer → Type 0) (checks : List C) (seed : ℕ) where
  -- these edits are none, or those of a turn of the item, on a disk that stored this before the edits that were done
  abbrev pub AreOfTurn : Option Told → List PairEdit → ItemTree → List PairEdit → Type 0
  AreOfTurn told done item edits = (edits ≡ []) ⊎ ((finding : Finding) × Turn name step checks seed told done item finding edits)

  -- An item's turn stopped: of its edits all or some first ones were made. Where two values clash, they do in these edits.
  abbrev pub StopsIn : ItemTree → Option Told → Option Told → StoreStop → Type 0
  StopsIn item old new why =
      (edits : List PairEdit) × AreOfTurn old [] item edits × BothTell (Made edits false) old new × ClashesIn edits old why

  module _ (items : List ItemTree) where
    -- these edits are none, or those of the turn of the item after those of the findings, whose turns made the edits that were done
    abbrev pub AreOfNext : Option Told → List Finding → List PairEdit → List PairEdit → Type 0
    AreOfNext told findings done more =
        (more ≡ []) ⊎ ((next : ItemTree) × (slice_get items (length findings) ≡ Some next) × AreOfTurn told done next more)

    -- The first items had their turns, as many as there are findings, and all their edits were made. Of the next item's edits all or some
    -- first ones were made.
    pub record Halfway (findings : List Finding) (old new : Option Told) : Type 0 where
      pub edits : List PairEdit
      pub turns : FirstTurns name step checks seed old items findings edits
      pub more : List PairEdit
      pub of_next : AreOfNext old findings edits more
      pub mid : Option Told
      pub made : BothTell (Made edits true) old mid
      pub partly : BothTell (Made more false) mid new

    -- The same, and two values clash in the next item's edits.
    pub record HalfwayToClash (findings : List Finding) (two : TwoValues) (old new : Option Told) : Type 0 where
      pub half : Halfway findings old new
      pub clash : IsClashIn half.edits half.more old two

    -- All items had their turns, and each block is written; or the output failed in the block of the last finding, and no later item
    -- had its turn; or the disk failed in the next item's turn, or two values clash there, and the blocks so far are written.
    abbrev pub Ended : Turned → Scene → Scene → Type 0
    Ended (All findings) old new =
        (edits : List PairEdit) × AreTurns name step checks seed old.disk.told items findings edits
        × BothTell (Made edits true) old.disk.told new.disk.told × AreWritten findings old.sink.bytes new.sink.bytes
        × (new.sink.faults ≡ old.sink.faults) × (new.disk.faults ≡ old.disk.faults)
    Ended (Cut findings) old new =
        (edits : List PairEdit) × FirstTurns name step checks seed old.disk.told items findings edits
        × BothTell (Made edits true) old.disk.told new.disk.told × IsLastCut findings old.sink.bytes new.sink.bytes
        × Rose old.sink.faults new.sink.faults × (new.disk.faults ≡ old.disk.faults)
    Ended (Failed findings) old new =
        Halfway findings old.disk.told new.disk.told × AreWritten findings old.sink.bytes new.sink.bytes
        × (new.sink.faults ≡ old.sink.faults) × Rose old.disk.faults new.disk.faults
    Ended (Clashed findings two) old new =
        HalfwayToClash findings two old.disk.told new.disk.told × AreWritten findings old.sink.bytes new.sink.bytes
        × (new.sink.faults ≡ old.sink.faults) × (new.disk.faults ≡ old.disk.faults)

    -- There was no memory: the blocks of the findings of some first items are written, whole, and nothing more.
    pub record EndedShort (old new : Scene) : Type 0 where
      pub findings : List Finding
      pub halfway : Halfway findings old.disk.told new.disk.told
      pub written : AreWritten findings old.sink.bytes new.sink.bytes
      pub sink_quiet : new.sink.faults ≡ old.sink.faults
      pub disk_quiet : new.disk.faults ≡ old.disk.faults
