-- How the turns of some items end, by how the last of them does.
use Rattle.std.proofs.Common.{◌≡◌, ℕ, ◌+◌, ◌<◌, ◌≤◌, true, false, List, [], ◌∷◌, ◌++◌, Some, Result, Ok, Err, length, take, map, get_or, inr, refl, sym, ◌∙◌, ap, subst, append-nil}
use Rattle.std.specs.Prelude.{slice_get, IsErrOf, OnErr}
use Rattle.std.proofs.lemmas.List.{length-map, get_or-map}
use Rattle.std.proofs.lemmas.Option.{slice_get_read}
use Rattle.pt_choice.specs.declared.choice.Choice.{Choice}
use Rattle.pt_choice.specs.Faults.{Rose}
use Rattle.pt_case.specs.Step.{Answer}
use Rattle.pt_ast.specs.declared.suite.Item.{Item}
use Rattle.pt_ast.specs.Plain.{plain_item}
use Rattle.pt_disk.specs.Calls.{HasCause}
use Rattle.pt_disk.specs.Moments.{BothTell}
use Rattle.pt_found.specs.declared.finding.Finding.{Finding}
use Rattle.pt_io.specs.Sink.{Appends, AppendsPart}
use Rattle.pt_report.specs.Report.{IsBlock}
use Rattle.pt_db.proofs.Telling.{rests-none}
use Rattle.pt_edits.specs.Made.{Made}
use Rattle.pt_edits.specs.Pairs.{PairEdit}
use Rattle.pt_edits.specs.declared.stop.StoreStop.{StoreStop}
use Rattle.pt_edits.specs.declared.stop.StoreStop.TheVariants as stop
use Rattle.pt_edits.specs.declared.stop.TwoValues.{TwoValues}
use Rattle.pt_edits.proofs.MadeLemmas.{both-made-none, both-made-then, both-made-some}
use Rattle.pt_turns.specs.declared.turns.Turned.TheVariants.{All, Cut, Failed, Clashed}
use Rattle.pt_turns.specs.Blocks.{AreWritten}
use Rattle.pt_turns.specs.Ended.{AreOfTurn, StopsIn, AreOfNext, Halfway, HalfwayToClash, Ended, EndedShort}
use Rattle.pt_turns.specs.Scene.{DiskShown, Scene}
use Rattle.pt_turns.specs.Turn.{Turn}
use Rattle.pt_turns.specs.Turns.{AreTurns}
use Rattle.pt_turns.proofs.BlockLemmas.{none-written, written-more, last-cut}
use Rattle.pt_turns.proofs.OnwardLemmas.{onward-made, turn-onward, of-turn-onward, clash-onward}
use Rattle.pt_turns.proofs.TurnsLemmas.{next-turns, all-turns}

-- what a call says of its answer, by the answer
pub cause-rose : {T : Type 0} (why : StoreStop) (before now : ℕ) → why ≡ stop.Failed → HasCause (IsErrOf {T = T} (Err why) stop.Failed) before now →
    Rose before now
cause-rose why before now is cause = cause.rose (ap (λ e. Err e) is)

pub cause-quiet : {T : Type 0} (why : StoreStop) (before now : ℕ) → (why ≡ stop.Failed → ⊥) →
    HasCause (IsErrOf {T = T} (Err why) stop.Failed) before now → now ≡ before
cause-quiet why before now other cause = cause.quiet (λ same. other (cc same))

pub cause-ok : {T : Type 0} (answer : T) (before now : ℕ) → HasCause (IsErrOf (Ok answer) stop.Failed) before now → now ≡ before
cause-ok answer before now cause = cause.quiet (λ same. cc same)

pub on-err : {T E : Type 0} (result : Result T E) (P : Type 0) → P → OnErr result P
on-err (Ok answer) P holds = tt
on-err (Err why) P holds = holds

module _ {C : Type 0} (name : C → List ℕ) (step : C → List Choice → Answer → Type 0) (checks : List C) (seed : ℕ) (items : List Item) where
  -- this many first items had their turns, and all their edits were made
  pub record HaveTurned (count : ℕ) (findings : List Finding) (old new : DiskShown) : Type 0 where
    pub counted : length findings ≡ count
    pub edits : List PairEdit
    pub turns : AreTurns name step checks seed old.told (take count (map plain_item items)) findings edits
    pub made : BothTell (Made edits true) old.told new.told
    pub quiet : new.faults ≡ old.faults

  -- and their blocks are written
  pub record SoFar (count : ℕ) (findings : List Finding) (old new : Scene) : Type 0 where
    pub turned : HaveTurned count findings old.disk new.disk
    pub written : AreWritten findings old.sink.bytes new.sink.bytes
    pub quiet : new.sink.faults ≡ old.sink.faults

  -- at the start no item has had its turn
  pub none-so-far : (findings : List Finding) → findings ≡ [] → (old : Scene) → SoFar 0 findings old old
  none-so-far findings none old = rw none (record {
    turned = record {
      counted = refl;
      edits = [];
      turns = refl;
      made = both-made-none true old.disk.told old.disk.told (rests-none old.disk.told);
      quiet = refl;
    };
    written = none-written old.sink.bytes;
    quiet = refl;
  })

  pub all-ended : (count : ℕ) (findings : List Finding) (old new : Scene) → length items ≤ count → SoFar count findings old new →
      Ended name step checks seed (map plain_item items) (All findings) old new
  all-ended count findings old new past so =
      let turned = so.turned in
      let turns = all-turns name step checks seed old.disk.told items findings turned.edits count past turned.turns in
      (turned.edits, turns, turned.made, so.written, so.quiet, turned.quiet)

  module _ (count : ℕ) (item : Item) (within : count < length items) (at : item ≡ get_or items count item) where
    -- the item at a place is the next
    next-stands : (findings : List Finding) → length findings ≡ count → slice_get (map plain_item items) (length findings) ≡ Some (plain_item item)
    next-stands findings counted =
        let trees = map plain_item items in
        let read : plain_item item ≡ get_or trees count (plain_item item) = sym (get_or-map plain_item items count item (plain_item item) within ∙ ap plain_item (sym at)) in
        rw counted (slice_get_read trees (length items) count (plain_item item) (sym (length-map items plain_item)) within read)

    -- a turn more
    pub turn-more : (findings new : List Finding) (finding : Finding) (edits : List PairEdit) (old mid last : DiskShown) →
        new ≡ findings ++ finding ∷ [] → HaveTurned count findings old mid → Turn name step checks seed mid.told [] (plain_item item) finding edits →
        BothTell (Made edits true) mid.told last.told → last.faults ≡ mid.faults → HaveTurned (count + 1) new old last
    turn-more findings new finding edits old mid last pushed so turn made quiet =
        let P : List PairEdit → Type 0 = λ done. Turn name step checks seed old.told done (plain_item item) finding edits in
        let its = subst P (append-nil so.edits)
        (turn-onward name step checks seed so.edits [] old.told mid.told (plain_item item) finding edits (onward-made so.edits old.told mid.told so.made) turn) in
        let next = next-turns name step checks seed old.told items findings new so.edits item finding edits count so.counted within at pushed so.turns its in
        record {
          counted = next.0;
          edits = so.edits ++ edits;
          turns = next.1;
          made = both-made-then so.edits edits true old.told mid.told last.told so.made made;
          quiet = quiet ∙ so.quiet;
        }

    -- the edits of the next item's turn are those after the turns so far
    next-of : (findings : List Finding) (more : List PairEdit) (old mid : DiskShown) (so : HaveTurned count findings old mid) →
        AreOfTurn name step checks seed mid.told [] (plain_item item) more →
        AreOfNext name step checks seed (map plain_item items) old.told findings so.edits more
    next-of findings more old mid so of =
        let P : List PairEdit → Type 0 = λ done. AreOfTurn name step checks seed old.told done (plain_item item) more in
        let onward = onward-made so.edits old.told mid.told so.made in
        let its = subst P (append-nil so.edits)
        (of-turn-onward name step checks seed so.edits [] old.told mid.told (plain_item item) more onward of) in
        inr (plain_item item, next-stands findings so.counted, its)

    -- some edits of the next item
    abbrev halfway-more : (findings : List Finding) (more : List PairEdit) (old mid last : DiskShown) → HaveTurned count findings old mid →
        AreOfTurn name step checks seed mid.told [] (plain_item item) more → BothTell (Made more false) mid.told last.told →
        Halfway name step checks seed (map plain_item items) findings old.told last.told
    halfway-more findings more old mid last so of partly = record {
      edits = so.edits;
      turns = rw so.counted so.turns;
      more = more;
      of_next = next-of findings more old mid so of;
      mid = mid.told;
      made = so.made;
      partly = partly;
    }

    pub failed-ended : (findings : List Finding) (old mid new : Scene) → SoFar count findings old mid →
        StopsIn name step checks seed (plain_item item) mid.disk.told new.disk.told stop.Failed → Rose mid.disk.faults new.disk.faults →
        new.sink ≡ mid.sink → Ended name step checks seed (map plain_item items) (Failed findings) old new
    failed-ended findings old mid new so stops rose same = (
      halfway-more findings stops.0 old.disk mid.disk new.disk so.turned stops.1 stops.2,
      rw same so.written,
      rw same so.quiet,
      rw so.turned.quiet at rose,
    )

    pub memory-ended : (findings : List Finding) (old mid new : Scene) → SoFar count findings old mid →
        StopsIn name step checks seed (plain_item item) mid.disk.told new.disk.told stop.NoMemory → new.disk.faults ≡ mid.disk.faults →
        new.sink ≡ mid.sink → EndedShort name step checks seed (map plain_item items) old new
    memory-ended findings old mid new so stops quiet same = record {
      findings = findings;
      halfway = halfway-more findings stops.0 old.disk mid.disk new.disk so.turned stops.1 stops.2;
      written = rw same so.written;
      sink_quiet = rw same so.quiet;
      disk_quiet = quiet ∙ so.turned.quiet;
    }

    pub clash-ended : (findings : List Finding) (two : TwoValues) (old mid new : Scene) → SoFar count findings old mid →
        StopsIn name step checks seed (plain_item item) mid.disk.told new.disk.told (stop.Clash two) → new.disk.faults ≡ mid.disk.faults →
        new.sink ≡ mid.sink → Ended name step checks seed (map plain_item items) (Clashed findings two) old new
    clash-ended findings two old mid new so stops quiet same =
        let done = so.turned.edits in
        let clash = clash-onward done [] stops.0 two old.disk.told mid.disk.told (onward-made done old.disk.told mid.disk.told so.turned.made) stops.3 in
        let halfway : HalfwayToClash name step checks seed (map plain_item items) findings two old.disk.told new.disk.told = record {
          half = halfway-more findings stops.0 old.disk mid.disk new.disk so.turned stops.1 stops.2;
          clash = rw append-nil at clash;
        } in
        (halfway, rw same so.written, rw same so.quiet, quiet ∙ so.turned.quiet)

    module _ (findings new : List Finding) (finding : Finding) (edits : List PairEdit) (old mid : Scene) (so : SoFar count findings old mid)
        (turn : Turn name step checks seed mid.disk.told [] (plain_item item) finding edits) where
      -- the turn was taken and its block is written
      pub so-more : (last : Scene) (block : List ℕ) → new ≡ findings ++ finding ∷ [] → BothTell (Made edits true) mid.disk.told last.disk.told → last.disk.faults ≡ mid.disk.faults →
          IsBlock finding block → Appends mid.sink.bytes block last.sink.bytes → last.sink.faults ≡ mid.sink.faults → SoFar (count + 1) new old last
      so-more last block pushed made quiet is more calm = record {
        turned = turn-more findings new finding edits old.disk mid.disk last.disk pushed so.turned turn made quiet;
        written = written-more old.sink.bytes mid.sink.bytes last.sink.bytes findings new finding block pushed so.written is more;
        quiet = calm ∙ so.quiet;
      }

      -- the turn was taken, and there was no memory for its finding
      pub push-ended : (last : Scene) → BothTell (Made edits true) mid.disk.told last.disk.told → last.disk.faults ≡ mid.disk.faults →
          last.sink ≡ mid.sink → EndedShort name step checks seed (map plain_item items) old last
      push-ended last made quiet same =
          memory-ended findings old mid last so (edits, inr (finding, turn), both-made-some edits mid.disk.told last.disk.told made, tt) quiet same

      -- a first part of it is
      pub cut-ended : (last : Scene) (block : List ℕ) → new ≡ findings ++ finding ∷ [] → BothTell (Made edits true) mid.disk.told last.disk.told → last.disk.faults ≡ mid.disk.faults →
          IsBlock finding block → AppendsPart mid.sink.bytes block last.sink.bytes → Rose mid.sink.faults last.sink.faults →
          Ended name step checks seed (map plain_item items) (Cut new) old last
      cut-ended last block pushed made quiet is part rose =
          let turned = turn-more findings new finding edits old.disk mid.disk last.disk pushed so.turned turn made quiet in (
            turned.edits,
            rw turned.counted turned.turns,
            turned.made,
            last-cut old.sink.bytes mid.sink.bytes last.sink.bytes findings new finding block pushed so.written is part,
            rw so.quiet at rose,
            turned.quiet,
          )
