-- What is said of a moment, said from an earlier one: the edits in between are done then.
use Rattle.std.proofs.Common.{inl, inr, ℕ, true, List, [], ◌∷◌, ◌++◌, Option, Some, None, refl, sym, subst, append_assoc}
use Rattle.std.specs.Prelude.{◌↔◌, IfSome}
use Rattle.pt_choice.specs.declared.choice.Choice.{Choice}
use Rattle.pt_case.specs.Step.{Answer}
use Rattle.pt_ast.specs.Trees.{ItemTree}
use Rattle.pt_found.specs.declared.finding.Finding.{Finding}
use Rattle.pt_disk.specs.Files.{Files}
use Rattle.pt_disk.specs.Folder.{reads}
use Rattle.pt_disk.specs.Moments.{Told, now, BothTell}
use Rattle.pt_disk.specs.Calls.{Rests}
use Rattle.pt_stored.specs.Stored.{IsStored}
use Rattle.pt_db.specs.Attaching.{Attached}
use Rattle.pt_db.proofs.Telling.{both-weaker}
use Rattle.pt_edits.specs.Clash.{IsClashIn, ClashesIn}
use Rattle.pt_edits.specs.Made.{Made}
use Rattle.pt_edits.specs.Pairs.{PairEdit, after_all, digest_of, IsAfter}
use Rattle.pt_edits.specs.Readings.{AreOfKey}
use Rattle.pt_edits.specs.declared.reading.Reading.{Reading}
use Rattle.pt_edits.specs.declared.stop.StoreStop.{StoreStop}
use Rattle.pt_edits.specs.declared.stop.StoreStop.TheVariants.{Failed, Clash, NoMemory}
use Rattle.pt_edits.specs.declared.stop.TwoValues.{TwoValues}
use Rattle.pt_edits.proofs.MadeLemmas.{after-settle, both-made-none}
use Rattle.pt_edits.proofs.SetLemmas.{after-all-same, after-all-append, is-after-none}
use Rattle.pt_turns.specs.Ended.{AreOfTurn, AreOfNext}
use Rattle.pt_turns.specs.Turn.{Turn, digest_of as turn_digest}
use Rattle.pt_turns.specs.Turns.{AreTurnsAfter}

-- the disks tell the same files, after these edits
abbrev pub IsOnward : List PairEdit → Option Told → Option Told → Type 0
IsOnward done = BothTell (λ old mid. IsAfter done (reads (now old)) (reads (now mid)))

abbrev MovedOn : List PairEdit → Told → Told → Type 0
MovedOn done old mid = IsAfter done (reads (now old)) (reads (now mid))

pub onward-made : (done : List PairEdit) (old mid : Option Told) → BothTell (Made done true) old mid → IsOnward done old mid
onward-made done old mid made = both-weaker (Made done true) (MovedOn done) old mid (λ a b made. made.edited refl) made

pub onward-rests : (old mid : Option Told) → Rests old mid → IsOnward [] old mid
onward-rests old mid rests = onward-made [] old mid (both-made-none true old mid rests)

pub onward-attached : (old mid : Option Told) → BothTell (Attached true) old mid → IsOnward [] old mid
onward-attached old mid attached = both-weaker (Attached true) (MovedOn []) old mid (λ a b attached. is-after-none (reads (now a)) (reads (now b)) (after-settle a b attached)) attached

-- the set after more edits
pairs-onward : (done more : List PairEdit) (old mid : Files) → IsAfter done old mid → (d b : List ℕ) →
    after_all more (IsStored mid) d b ↔ after_all (done ++ more) (IsStored old) d b
pairs-onward done more old mid is d b =
    let moved = after-all-same more (IsStored mid) (after_all done (IsStored old)) is.stored d b in
    let joined = after-all-append done more (IsStored old) d b in (
      λ has. joined.1 (moved.0 has),
      λ has. moved.1 (joined.0 has),
    )

pub of-key-onward : (done more : List PairEdit) (digest : List ℕ) (readings : List Reading) (old mid : Option Told) → IsOnward done old mid →
    IfSome mid (λ told. AreOfKey (after_all more (IsStored (reads (now told)))) digest readings) →
    IfSome old (λ told. AreOfKey (after_all (done ++ more) (IsStored (reads (now told)))) digest readings)
of-key-onward done more digest readings None None onward of = tt
of-key-onward done more digest readings (Some old) (Some mid) onward of = λ b.
    let moved = pairs-onward done more (reads (now old)) (reads (now mid)) onward digest b in
    (λ has. moved.0 ((of b).0 has), λ has. (of b).1 (moved.1 has))
of-key-onward done more digest readings None (Some mid) onward of = absurd onward
of-key-onward done more digest readings (Some old) None onward of = absurd onward

kept-onward : (done more : List PairEdit) (d b : List ℕ) (old mid : Option Told) → IsOnward done old mid →
    IfSome mid (λ told. after_all more (IsStored (reads (now told))) d b) →
    IfSome old (λ told. after_all (done ++ more) (IsStored (reads (now told))) d b)
kept-onward done more d b None None onward kept = tt
kept-onward done more d b (Some old) (Some mid) onward kept = (pairs-onward done more (reads (now old)) (reads (now mid)) onward d b).0 kept
kept-onward done more d b None (Some mid) onward kept = absurd onward
kept-onward done more d b (Some old) None onward kept = absurd onward

pub clash-onward : (done more edits : List PairEdit) (two : TwoValues) (old mid : Option Told) → IsOnward done old mid →
    IsClashIn more edits mid two → IsClashIn (done ++ more) edits old two
clash-onward done more edits two old mid onward clash =
    let kept = kept-onward done (more ++ clash.made) (digest_of clash.due) two.kept old mid onward clash.kept in
    let P : List PairEdit → Type 0 = λ all. IfSome old (λ told. after_all all (IsStored (reads (now told))) (digest_of clash.due) two.kept) in
    record {
      alike = clash.alike;
      made = clash.made;
      due = clash.due;
      left = clash.left;
      among = clash.among;
      offered = clash.offered;
      kept = subst P (sym (append_assoc done more clash.made)) kept;
    }

pub clashes-onward : (edits : List PairEdit) (old mid : Option Told) (stop : StoreStop) → IsOnward [] old mid → ClashesIn edits mid stop → ClashesIn edits old stop
clashes-onward edits old mid Failed onward clash = tt
clashes-onward edits old mid (Clash two) onward clash = clash-onward [] [] edits two old mid onward clash
clashes-onward edits old mid NoMemory onward clash = tt

module _ {C : Type 0} (name : C → List ℕ) (step : C → List Choice → Answer → Type 0) (checks : List C) (seed : ℕ) where
  pub turn-onward : (done more : List PairEdit) (old mid : Option Told) (item : ItemTree) (finding : Finding) (edits : List PairEdit) →
      IsOnward done old mid → Turn name step checks seed mid more item finding edits → Turn name step checks seed old (done ++ more) item finding edits
  turn-onward done more old mid item finding edits onward turn = record {
    readings = turn.readings;
    of_key = of-key-onward done more (turn_digest item) turn.readings old mid onward turn.of_key;
    ordered = turn.ordered;
    spelled = turn.spelled;
    examined = turn.examined;
    edited = turn.edited;
  }

  pub of-turn-onward : (done more : List PairEdit) (old mid : Option Told) (item : ItemTree) (edits : List PairEdit) → IsOnward done old mid →
      AreOfTurn name step checks seed mid more item edits → AreOfTurn name step checks seed old (done ++ more) item edits
  of-turn-onward done more old mid item edits onward (inl none) = inl none
  of-turn-onward done more old mid item edits onward (inr (finding, turn)) =
      inr (finding, turn-onward done more old mid item finding edits onward turn)

  pub of-next-onward : (done more : List PairEdit) (old mid : Option Told) (items : List ItemTree) (findings : List Finding) (edits : List PairEdit) →
      IsOnward done old mid → AreOfNext name step checks seed items mid findings more edits →
      AreOfNext name step checks seed items old findings (done ++ more) edits
  of-next-onward done more old mid items findings edits onward (inl none) = inl none
  of-next-onward done more old mid items findings edits onward (inr (next, stands, of)) =
      inr (next, stands, of-turn-onward done more old mid next edits onward of)

  pub turns-onward : (more : List PairEdit) (old mid : Option Told) (items : List ItemTree) (findings : List Finding) (all : List PairEdit) →
      IsOnward [] old mid → AreTurnsAfter name step checks seed mid more items findings all → AreTurnsAfter name step checks seed old more items findings all
  turns-onward more old mid [] [] all onward turns = turns
  turns-onward more old mid [] (finding ∷ findings) all onward turns = elim turns [ ]
  turns-onward more old mid (item ∷ items) [] all onward turns = elim turns [ ]
  turns-onward more old mid (item ∷ items) (finding ∷ findings) all onward turns = (
    turns.0,
    turn-onward [] more old mid item finding turns.0 onward turns.1,
    turns-onward (more ++ turns.0) old mid items findings all onward turns.2,
  )
