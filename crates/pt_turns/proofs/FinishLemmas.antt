-- What a run comes to, by how its turns ended and what was written after them.
use Rattle.std.proofs.Common.{◌≡◌, ℕ, false, List, [], Some, None, Result, Ok, Err, inl, inr, refl, ◌∙◌}
use Rattle.std.specs.Prelude.{IfOk, OnErr}
use Rattle.pt_choice.specs.declared.choice.Choice.{Choice}
use Rattle.pt_choice.specs.Faults.{Rose}
use Rattle.pt_case.specs.Step.{Answer}
use Rattle.pt_ast.specs.Trees.{ItemTree}
use Rattle.pt_edits.specs.declared.stop.TwoValues.{TwoValues}
use Rattle.pt_edits.proofs.MadeLemmas.{both-made-none}
use Rattle.pt_db.proofs.Telling.{rests-none}
use Rattle.pt_found.specs.declared.finding.Finding.{Finding}
use Rattle.pt_io.specs.Sink.{Written}
use Rattle.pt_report.specs.Refusals.{refusal_text}
use Rattle.pt_report.specs.Report.{tail}
use Rattle.pt_report.specs.declared.refusal.Refusal.TheVariants.{Database, Clash}
use Rattle.pt_turns.specs.declared.reporting.Reported.{Reported}
use Rattle.pt_turns.specs.declared.turns.Turned.TheVariants.{All, Failed, Clashed}
use Rattle.pt_turns.specs.Added.{IsAdded}
use Rattle.pt_turns.specs.Finishes.{Finishes, IsCut, StoppedShort, status_of}
use Rattle.pt_turns.specs.Scene.{DiskShown, Scene}
use Rattle.pt_turns.specs.Settling.{EndedSettled}
use Rattle.pt_turns.proofs.BlockLemmas.{written-and, written-and-part}
use Rattle.pt_turns.proofs.TurnsLemmas.{first-of-all}

-- what is added stands on the disk that the turns left
abbrev After : DiskShown → Written → Scene
After disk sink = record { disk = disk; sink = sink }

module _ {C : Type 0} (name : C → List ℕ) (step : C → List Choice → Answer → Type 0) (checks : List C) (seed : ℕ) (items : List ItemTree)
    (old mid : Scene) (findings : List Finding) where
  unwritten : (last : Written) (reported : Reported) → reported.findings ≡ findings → IsCut name step checks seed items findings old (After mid.disk last) →
      Rose old.sink.faults last.faults → reported.status ≡ 5 → reported.clash ≡ None → Finishes name step checks seed items reported old (After mid.disk last)
  unwritten last reported same cut rose ends none = inr (inr (inr (record {
    cut = rw same cut;
    cause = rose;
    ends = ends;
    no_clash = none;
  })))

  pub all-finish : (last : Written) (reported : Reported) → EndedSettled name step checks seed items (All findings) old mid →
      IsAdded findings (tail findings) (status_of findings) None reported mid.sink last → Finishes name step checks seed items reported old (After mid.disk last)
  all-finish last reported (edits, turns, kept, written, calm, still) (same, inl whole) =
      let text = written-and old.sink.bytes mid.sink.bytes last.bytes findings (tail findings) written whole.written in
      inl (record {
        edits = edits;
        turns = rw same turns;
        kept = kept;
        text = _;
        is = rw same (text.0, text.1, refl);
        written = text.2;
        sink_quiet = whole.quiet ∙ calm;
        disk_quiet = still;
        ends = rw same whole.ends;
        no_clash = whole.shown;
      })
  all-finish last reported (edits, turns, kept, written, calm, still) (same, inr part) =
      let text = written-and-part old.sink.bytes mid.sink.bytes last.bytes findings (tail findings) written part.written in
      unwritten last reported same (inr (inl (edits, turns, kept, text, still))) (rw calm at part.cause) part.ends part.no_clash

  pub failed-finish : (last : Written) (reported : Reported) → EndedSettled name step checks seed items (Failed findings) old mid →
      IsAdded findings (refusal_text Database) 6 None reported mid.sink last → Finishes name step checks seed items reported old (After mid.disk last)
  failed-finish last reported (halted, written, calm, rose) (same, inl whole) =
      let text = written-and old.sink.bytes mid.sink.bytes last.bytes findings (refusal_text Database) written whole.written in
      inr (inl (record {
        halted = rw same halted;
        cause = rose;
        written = rw same text;
        sink_quiet = whole.quiet ∙ calm;
        ends = whole.ends;
        no_clash = whole.shown;
      }))
  failed-finish last reported (halted, written, calm, rose) (same, inr part) =
      let text = written-and-part old.sink.bytes mid.sink.bytes last.bytes findings (refusal_text Database) written part.written in
      unwritten last reported same (inr (inr (inl (halted, rose, text)))) (rw calm at part.cause) part.ends part.no_clash

  pub clash-finish : (two : TwoValues) (last : Written) (reported : Reported) → EndedSettled name step checks seed items (Clashed findings two) old mid →
      IsAdded findings (refusal_text Clash) 8 (Some two) reported mid.sink last → Finishes name step checks seed items reported old (After mid.disk last)
  clash-finish two last reported (clashing, written, calm, still) (same, inl whole) =
      let text = written-and old.sink.bytes mid.sink.bytes last.bytes findings (refusal_text Clash) written whole.written in
      inr (inr (inl (record {
        two = two;
        shown = whole.shown;
        clashing = rw same clashing;
        written = rw same text;
        sink_quiet = whole.quiet ∙ calm;
        disk_quiet = still;
        ends = whole.ends;
      })))
  clash-finish two last reported (clashing, written, calm, still) (same, inr part) =
      let text = written-and-part old.sink.bytes mid.sink.bytes last.bytes findings (refusal_text Clash) written part.written in
      unwritten last reported same (inr (inr (inr (two, clashing, text, still)))) (rw calm at part.cause) part.ends part.no_clash

  -- no memory for the tail
  pub tail-short : EndedSettled name step checks seed items (All findings) old mid → StoppedShort name step checks seed items old mid
  tail-short (edits, turns, kept, written, calm, still) = record {
    findings = findings;
    partly = record {
      edits = edits;
      turns = first-of-all name step checks seed old.disk.told items findings edits turns;
      more = [];
      of_next = inl refl;
      kept = (mid.disk.told, kept, both-made-none false mid.disk.told mid.disk.told (rests-none mid.disk.told));
    };
    written = written;
    sink_quiet = calm;
    disk_quiet = still;
  }

  pub result-finish : {E : Type 0} (last : Written) (result : Result Reported E) → EndedSettled name step checks seed items (All findings) old mid →
      IfOk result (λ reported. IsAdded findings (tail findings) (status_of findings) None reported mid.sink last) →
      IfOk result (λ reported. Finishes name step checks seed items reported old (After mid.disk last))
  result-finish last (Ok reported) ended added = all-finish last reported ended added
  result-finish last (Err why) ended added = tt

  pub result-short : {S E : Type 0} (shows : S → Written) (before after : S) → shows before ≡ mid.sink → (result : Result Reported E) →
      EndedSettled name step checks seed items (All findings) old mid → OnErr result (after ≡ before) →
      OnErr result (StoppedShort name step checks seed items old (After mid.disk (shows after)))
  result-short shows before after is (Ok reported) ended none = tt
  result-short shows before after is (Err why) ended none = rw (none, is) (tail-short ended)
