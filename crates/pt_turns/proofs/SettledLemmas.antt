-- What a settle and the turns after it come to together.
use Rattle.std.proofs.Common.{◌≡◌, ℕ, true, false, List, [], Option, Result, Ok, Err, inl, inr, refl, ◌∙◌}
use Rattle.std.specs.Prelude.{⊤, IfOk, OnErr}
use Rattle.pt_choice.specs.declared.choice.Choice.{Choice}
use Rattle.pt_case.specs.Step.{Answer}
use Rattle.pt_ast.specs.Trees.{ItemTree}
use Rattle.pt_db.specs.Attaching.{Attached}
use Rattle.pt_disk.specs.Calls.{HasCause}
use Rattle.pt_disk.specs.Moments.{Told, BothTell}
use Rattle.pt_edits.specs.declared.stop.TwoValues.{TwoValues}
use Rattle.pt_edits.proofs.MadeLemmas.{both-settled-of}
use Rattle.pt_found.specs.declared.finding.Finding.{Finding}
use Rattle.pt_io.specs.Sink.{Written}
use Rattle.pt_turns.specs.declared.turns.Turned.{Turned}
use Rattle.pt_turns.specs.declared.turns.Turned.TheVariants.{All, Cut, Failed, Clashed}
use Rattle.pt_turns.specs.Ended.{Ended, EndedShort, Halfway, HalfwayToClash}
use Rattle.pt_turns.specs.Finishes.{PartlyDone, IsClashing, StoppedShort}
use Rattle.pt_turns.specs.Scene.{Scene, scene}
use Rattle.pt_turns.specs.Settling.{EndedSettled}
use Rattle.pt_turns.proofs.BlockLemmas.{none-written}
use Rattle.pt_turns.proofs.OnwardLemmas.{onward-attached, turns-onward, of-next-onward, clash-onward}

module _ {C : Type 0} (name : C → List ℕ) (step : C → List Choice → Answer → Type 0) (checks : List C) (seed : ℕ) (items : List ItemTree) where
  module _ (old mid new : Option Told) (attached : BothTell (Attached true) old mid) where
    abbrev partly-settled : (findings : List Finding) → Halfway name step checks seed items findings mid new → PartlyDone name step checks seed items findings old new
    partly-settled findings half =
        let onward = onward-attached old mid attached in
        record {
          edits = half.edits;
          turns = turns-onward name step checks seed [] old mid _ findings half.edits onward half.turns;
          more = half.more;
          of_next = of-next-onward name step checks seed [] half.edits old mid items findings half.more onward half.of_next;
          kept = (half.mid, both-settled-of half.edits true old mid half.mid attached half.made, half.partly);
        }

    clash-settled : (findings : List Finding) (two : TwoValues) → HalfwayToClash name step checks seed items findings two mid new →
        IsClashing name step checks seed items findings two old new
    clash-settled findings two clashing = record {
      partly = partly-settled findings clashing.half;
      clash = clash-onward [] clashing.half.edits clashing.half.more two old mid (onward-attached old mid attached) clashing.clash;
    }

  module _ (old mid new : Scene) (attached : BothTell (Attached true) old.disk.told mid.disk.told) (quiet : mid.disk.faults ≡ old.disk.faults)
      (same : mid.sink ≡ old.sink) where
    pub ended-settled : (turned : Turned) → Ended name step checks seed items turned mid new → EndedSettled name step checks seed items turned old new
    ended-settled (All findings) (edits, turns, made, written, calm, still) = (
      edits,
      turns-onward name step checks seed [] old.disk.told mid.disk.told items findings edits (onward-attached old.disk.told mid.disk.told attached) turns,
      both-settled-of edits true old.disk.told mid.disk.told new.disk.told attached made,
      rw same at written,
      rw same at calm,
      still ∙ quiet,
    )
    ended-settled (Cut findings) (edits, turns, made, written, rose, still) = (
      edits,
      turns-onward name step checks seed [] old.disk.told mid.disk.told _ findings edits (onward-attached old.disk.told mid.disk.told attached) turns,
      both-settled-of edits true old.disk.told mid.disk.told new.disk.told attached made,
      rw same at written,
      rw same at rose,
      still ∙ quiet,
    )
    ended-settled (Failed findings) (half, written, calm, rose) = (
      inr (partly-settled old.disk.told mid.disk.told new.disk.told attached findings half),
      rw same at written,
      rw same at calm,
      rw quiet at rose,
    )
    ended-settled (Clashed findings two) (half, written, calm, still) = (
      clash-settled old.disk.told mid.disk.told new.disk.told attached findings two half,
      rw same at written,
      rw same at calm,
      still ∙ quiet,
    )

    pub short-settled : EndedShort name step checks seed items mid new → StoppedShort name step checks seed items old new
    short-settled short = record {
      findings = short.findings;
      partly = partly-settled old.disk.told mid.disk.told new.disk.told attached short.findings short.halfway;
      written = rw same at short.written;
      sink_quiet = rw same at short.sink_quiet;
      disk_quiet = short.disk_quiet ∙ quiet;
    }

  -- the same of what a disk shows, whose last value is known by an equation
  module _ {D : Type 0} (faults : D → ℕ) (tells : D → Option Told) (start mid new last : D) (begun over : Written) (is : last ≡ new)
      (attached : BothTell (Attached true) (tells start) (tells mid)) (quiet : faults mid ≡ faults start) where
    abbrev At : D → Written → Scene
    At disk sink = scene (faults disk) (tells disk) sink

    pub result-settled : {E : Type 0} (result : Result Turned E) →
        IfOk result (λ turned. Ended name step checks seed items turned (At mid begun) (At new over)) →
        IfOk result (λ turned. EndedSettled name step checks seed items turned (At start begun) (At last over))
    result-settled (Ok turned) ended = rw is (ended-settled (At start begun) (At mid begun) (At new over) attached quiet refl turned ended)
    result-settled (Err why) ended = tt

    pub result-short : {E : Type 0} (result : Result Turned E) → OnErr result (EndedShort name step checks seed items (At mid begun) (At new over)) →
        OnErr result (StoppedShort name step checks seed items (At start begun) (At last over))
    result-short (Ok turned) short = tt
    result-short (Err why) short = rw is (short-settled (At start begun) (At mid begun) (At new over) attached quiet refl short)

  -- the folder could not be settled
  pub not-settled : {D : Type 0} (faults : D → ℕ) (tells : D → Option Told) (start new last : D) (sink : Written) → last ≡ new →
      BothTell (Attached false) (tells start) (tells new) → HasCause ⊤ (faults start) (faults new) → (findings : List Finding) → findings ≡ [] →
      EndedSettled name step checks seed items (Failed findings) (scene (faults start) (tells start) sink) (scene (faults last) (tells last) sink)
  not-settled faults tells start new last sink is attached cause findings none =
      rw (is, none) (inl (refl, attached), none-written sink.bytes, refl, cause.rose tt)
