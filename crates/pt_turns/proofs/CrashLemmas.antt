-- What a crash leaves in the course of a run, by what the run came to.
use Rattle.std.proofs.Common.{◌≡◌, ◌⊎◌, inl, inr, ⊎_elim, ℕ, true, false, List, [], Some, None, refl, sym, subst, append-nil}
use Rattle.pt_choice.specs.declared.choice.Choice.{Choice}
use Rattle.pt_case.specs.Step.{Answer}
use Rattle.pt_ast.specs.Trees.{ItemTree}
use Rattle.pt_disk.specs.Files.{Files}
use Rattle.pt_disk.specs.Folder.{reads, IsImage}
use Rattle.pt_disk.specs.Leaves.{IsTidy}
use Rattle.pt_disk.specs.Moments.{Told, now, IsImageSince}
use Rattle.pt_found.specs.declared.finding.Finding.{Finding}
use Rattle.pt_stored.specs.Stored.{pending}
use Rattle.pt_edits.specs.Made.{Settled, SettledAnd}
use Rattle.pt_edits.specs.Pairs.{PairEdit, IsAfterSome}
use Rattle.pt_edits.specs.declared.stop.TwoValues.{TwoValues}
use Rattle.pt_edits.proofs.CrashLemmas.{settled-since, settled-and-since, attached-since}
use Rattle.pt_turns.specs.Blocks.{AreWritten}
use Rattle.pt_turns.specs.Crash.{IsMidway}
use Rattle.pt_turns.specs.Ended.{AreOfNext}
use Rattle.pt_turns.specs.Finishes.{PartlyDone, IsHalted, IsClashing, IsCut, Finishes, StoppedShort}
use Rattle.pt_turns.specs.Scene.{Scene}
use Rattle.pt_turns.specs.Turns.{FirstTurns}
use Rattle.pt_turns.specs.declared.reporting.Reported.{Reported}
use Rattle.pt_turns.proofs.TurnsLemmas.{first-of-all}

module _ {C : Type 0} (name : C → List ℕ) (step : C → List Choice → Answer → Type 0) (checks : List C) (seed : ℕ) (items : List ItemTree)
    (start end : Told) (image : Files) (tidy : IsTidy pending (now start)) (since : IsImageSince end start.clock image) where
  abbrev Left : List Finding → Type 0
  Left findings = IsImage (now start) image ⊎ IsMidway name step checks seed items findings start image

  -- after the edits of the findings' turns, and none of the next item's
  settled-left : (findings : List Finding) (edits : List PairEdit) → FirstTurns name step checks seed (Some start) items findings edits →
      Settled edits true start end → Left findings
  settled-left findings edits turns settled = ⊎_elim
      (λ was. inl was)
      (λ some. inr (record {
        edits = edits;
        turns = turns;
        more = [];
        of_next = inl refl;
        edited = subst (λ (all : List PairEdit). IsAfterSome all (reads (now start)) image) (sym (append-nil edits)) some;
      }))
      (settled-since edits true start end image settled tidy since)

  -- and some of the next item's
  partly-left : (findings : List Finding) (edits more : List PairEdit) → FirstTurns name step checks seed (Some start) items findings edits →
      AreOfNext name step checks seed items (Some start) findings edits more → SettledAnd edits more (Some start) (Some end) → Left findings
  partly-left findings edits more turns of (None, settled, made) = absurd settled
  partly-left findings edits more turns of (Some mid, settled, made) = ⊎_elim
      (λ was. inl was)
      (λ some. inr (record { edits = edits; turns = turns; more = more; of_next = of; edited = some }))
      (settled-and-since edits more start mid end image settled made tidy since)

  halted-left : (findings : List Finding) → IsHalted name step checks seed items findings (Some start) (Some end) → Left findings
  halted-left findings (inl none) = inl (attached-since false start end image none.1 since)
  halted-left findings (inr partly) = partly-left findings partly.edits partly.more partly.turns partly.of_next partly.kept

  clashing-left : (findings : List Finding) (two : TwoValues) → IsClashing name step checks seed items findings two (Some start) (Some end) → Left findings
  clashing-left findings two clashing =
      let partly = clashing.partly in
      partly-left findings partly.edits partly.more partly.turns partly.of_next partly.kept

  module _ (old new : Scene) (from : old.disk.told ≡ Some start) (to : new.disk.told ≡ Some end) where
    cut-left : (findings : List Finding) → IsCut name step checks seed items findings old new → Left findings
    cut-left findings (inl (edits, turns, settled, written, still)) =
        settled-left findings edits (rw from at turns) (rw (from, to) at settled)
    cut-left findings (inr (inl (edits, turns, settled, written, still))) =
        settled-left findings edits (first-of-all name step checks seed (Some start) items findings edits (rw from at turns)) (rw (from, to) at settled)
    cut-left findings (inr (inr (inl (halted, rose, written)))) = halted-left findings (rw (from, to) at halted)
    cut-left findings (inr (inr (inr (two, clashing, written, still)))) = clashing-left findings two (rw (from, to) at clashing)

    pub finished-left : (reported : Reported) → Finishes name step checks seed items reported old new → Left reported.findings
    finished-left reported (inl whole) =
        settled-left reported.findings whole.edits
        (first-of-all name step checks seed (Some start) items reported.findings whole.edits (rw from at whole.turns)) (rw (from, to) at whole.kept)
    finished-left reported (inr (inl unstored)) = halted-left reported.findings (rw (from, to) at unstored.halted)
    finished-left reported (inr (inr (inl clashed))) = clashing-left reported.findings clashed.two (rw (from, to) at clashed.clashing)
    finished-left reported (inr (inr (inr unwritten))) = cut-left reported.findings unwritten.cut

    pub stopped-left : (short : StoppedShort name step checks seed items old new) →
        IsImage (now start) image
        ⊎ ((findings : List Finding) × AreWritten findings old.sink.bytes new.sink.bytes × IsMidway name step checks seed items findings start image)
    stopped-left short =
        let partly : PartlyDone name step checks seed items short.findings (Some start) (Some end) = rw (from, to) at short.partly in
        ⊎_elim
        (λ was. inl was)
        (λ midway. inr (short.findings, short.written, midway))
        (partly-left short.findings partly.edits partly.more partly.turns partly.of_next partly.kept)
