-- The turns of several items, one after another.
use Rattle.std.specs.Prelude.{◌≡◌, ℕ, List, [], ◌∷◌, ◌++◌, take, length, Option}
use Rattle.pt_choice.specs.declared.choice.Choice.{Choice}
use Rattle.pt_case.specs.Step.{Answer}
use Rattle.pt_ast.specs.Trees.{ItemTree}
use Rattle.pt_disk.specs.Moments.{Told}
use Rattle.pt_edits.specs.Pairs.{PairEdit}
use Rattle.pt_found.specs.declared.finding.Finding.{Finding}
use Rattle.pt_turns.specs.Examined.{Examined}
use Rattle.pt_turns.specs.Turn.{Turn}

module _ {C : Type 0} (name : C → List ℕ) (step : C → List Choice → Answer → Type 0) (checks : List C) (seed : ℕ) where
  -- each item was examined with nothing stored, in order, and these are the findings
  abbrev pub AreExamined : List ItemTree → List Finding → Type 0
  AreExamined [] [] = Unit {0}
  AreExamined (item ∷ items) (finding ∷ findings) = Examined name step checks seed [] item finding × AreExamined items findings
  AreExamined [] (finding ∷ findings) = ⊥
  AreExamined (item ∷ items) [] = ⊥

  module _ (told : Option Told) where
    -- After the edits that were done each item had its turn, in order, and these are the findings. All edits are then these, in order:
    -- those that were done, and those of each turn.
    abbrev pub AreTurnsAfter : List PairEdit → List ItemTree → List Finding → List PairEdit → Type 0
    AreTurnsAfter done [] [] all = all ≡ done
    AreTurnsAfter done (item ∷ items) (finding ∷ findings) all =
        (edits : List PairEdit) × Turn name step checks seed told done item finding edits × AreTurnsAfter (done ++ edits) items findings all
    AreTurnsAfter done [] (finding ∷ findings) all = ⊥
    AreTurnsAfter done (item ∷ items) [] all = ⊥

    -- each item had its turn, and these are the findings and all edits
    abbrev pub AreTurns : List ItemTree → List Finding → List PairEdit → Type 0
    AreTurns items findings edits = AreTurnsAfter [] items findings edits

    -- as many of the items as there are findings had their turns, the first ones
    abbrev pub FirstTurns : List ItemTree → List Finding → List PairEdit → Type 0
    FirstTurns items findings edits = AreTurns (take (length findings) items) findings edits
