-- How the turns of some items end in a folder that was settled before them.
use Rattle.std.specs.Prelude.{◌≡◌, ℕ, true, List}
use Rattle.pt_choice.specs.declared.choice.Choice.{Choice}
use Rattle.pt_choice.specs.Faults.{Rose}
use Rattle.pt_case.specs.Step.{Answer}
use Rattle.pt_ast.specs.Trees.{ItemTree}
use Rattle.pt_disk.specs.Moments.{BothTell}
use Rattle.pt_edits.specs.Made.{Settled}
use Rattle.pt_edits.specs.Pairs.{PairEdit}
use Rattle.pt_turns.specs.declared.turns.Turned.{Turned}
use Rattle.pt_turns.specs.declared.turns.Turned.TheVariants.{All, Cut, Failed, Clashed}
use Rattle.pt_turns.specs.Blocks.{AreWritten, IsLastCut}
use Rattle.pt_turns.specs.Finishes.{IsHalted, IsClashing}
use Rattle.pt_turns.specs.Scene.{Scene}
use Rattle.pt_turns.specs.Turns.{AreTurns, FirstTurns}

module _ {C : Type 0} (name : C → List ℕ) (step : C → List Choice → Answer → Type 0) (checks : List C) (seed : ℕ) (items : List ItemTree) where
  -- the folder was settled, and then the turns ended so; or it could not be settled
  abbrev pub EndedSettled : Turned → Scene → Scene → Type 0
  EndedSettled (All findings) old new =
      (edits : List PairEdit) × AreTurns name step checks seed old.disk.told items findings edits
      × BothTell (Settled edits true) old.disk.told new.disk.told × AreWritten findings old.sink.bytes new.sink.bytes
      × (new.sink.faults ≡ old.sink.faults) × (new.disk.faults ≡ old.disk.faults)
  EndedSettled (Cut findings) old new =
      (edits : List PairEdit) × FirstTurns name step checks seed old.disk.told items findings edits
      × BothTell (Settled edits true) old.disk.told new.disk.told × IsLastCut findings old.sink.bytes new.sink.bytes
      × Rose old.sink.faults new.sink.faults × (new.disk.faults ≡ old.disk.faults)
  EndedSettled (Failed findings) old new =
      IsHalted name step checks seed items findings old.disk.told new.disk.told × AreWritten findings old.sink.bytes new.sink.bytes
      × (new.sink.faults ≡ old.sink.faults) × Rose old.disk.faults new.disk.faults
  EndedSettled (Clashed findings two) old new =
      IsClashing name step checks seed items findings two old.disk.told new.disk.told × AreWritten findings old.sink.bytes new.sink.bytes
      × (new.sink.faults ≡ old.sink.faults) × (new.disk.faults ≡ old.disk.faults)
