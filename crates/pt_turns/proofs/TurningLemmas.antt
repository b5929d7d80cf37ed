-- One item's turn, by the calls that it makes.
use Rattle.std.proofs.Common.{◌≡◌, inl, inr, ℕ, Bool, true, false, List, [], map, Option, Result, Err, refl, subst}
use Rattle.std.specs.Prelude.{All, IfSome, IfErr}
use Rattle.pt_choice.specs.declared.choice.Choice.{Choice}
use Rattle.pt_case.specs.Step.{Answer}
use Rattle.pt_ast.specs.Trees.{ItemTree}
use Rattle.pt_disk.specs.Calls.{Rests}
use Rattle.pt_disk.specs.Folder.{reads}
use Rattle.pt_disk.specs.Moments.{Told, now, BothTell}
use Rattle.pt_stored.specs.Stored.{IsStored}
use Rattle.pt_found.specs.declared.finding.Finding.{Finding}
use Rattle.pt_edits.specs.Clash.{ClashesIn, IsNoClash}
use Rattle.pt_edits.specs.Made.{Made}
use Rattle.pt_edits.specs.Pairs.{PairEdit, under}
use Rattle.pt_edits.specs.Readings.{AreOfKey, AreInFileOrder, IsSpelled, AreEdits, lists_of}
use Rattle.pt_edits.specs.declared.edit.Edit.{Edit}
use Rattle.pt_edits.specs.declared.reading.Reading.{Reading}
use Rattle.pt_edits.specs.declared.stop.StoreStop.{StoreStop}
use Rattle.pt_edits.specs.declared.stop.StoreStop.TheVariants.{Failed, Clash, NoMemory}
use Rattle.pt_edits.proofs.MadeLemmas.{both-made-none, both-made-then}
use Rattle.pt_turns.specs.Ended.{StopsIn}
use Rattle.pt_turns.specs.Examined.{Examined}
use Rattle.pt_turns.specs.Turn.{Turn, digest_of}
use Rattle.pt_turns.proofs.OnwardLemmas.{onward-rests, clashes-onward}

-- edits that were made after a call that reads
pub made-after-reading : (edits : List PairEdit) (ok : Bool) (old mid new : Option Told) → Rests old mid → BothTell (Made edits ok) mid new →
    BothTell (Made edits ok) old new
made-after-reading edits ok old mid new rests made = both-made-then [] edits ok old mid new (both-made-none true old mid rests) made

-- what holds of a refusal
pub err-holds : {A E : Type 0} (result : Result A E) (P : E → Type 0) (why : E) → result ≡ Err why → P why → IfErr result P
err-holds result P why is holds = rw is holds

module _ {C : Type 0} (name : C → List ℕ) (step : C → List Choice → Answer → Type 0) (checks : List C) (seed : ℕ) (item : ItemTree) where
  -- nothing was edited
  pub memory-stop : (old new : Option Told) → Rests old new → StopsIn name step checks seed item old new NoMemory
  memory-stop old new rests = ([], inl refl, both-made-none false old new rests, tt)

  pub reading-stop : (old new : Option Told) (stop : StoreStop) → IsNoClash stop → Rests old new → StopsIn name step checks seed item old new stop
  reading-stop old new Failed none rests = ([], inl refl, both-made-none false old new rests, tt)
  reading-stop old new (Clash two) none rests = absurd none
  reading-stop old new NoMemory none rests = memory-stop old new rests

  module _ (digest : List ℕ) (same : digest ≡ digest_of item) where
    -- what was read under the item's name, found and asked for is the turn
    pub turn-of : (old : Option Told) (readings : List Reading) (stored : List (List Choice)) (finding : Finding) (edits : List Edit) →
        IfSome old (λ told. AreOfKey (IsStored (reads (now told))) digest readings) → AreInFileOrder digest readings → All IsSpelled readings →
        stored ≡ lists_of readings → Examined name step checks seed stored item finding →
        ((digest : List ℕ) → AreEdits digest readings finding.verdict finding.failing (map (under digest) edits)) →
        Turn name step checks seed old [] item finding (map (under (digest_of item)) edits)
    turn-of old readings stored finding edits of ordered spelled lists examined asked =
        let Of : List ℕ → Type 0 = λ digest. IfSome old (λ told. AreOfKey (IsStored (reads (now told))) digest readings) in
        let Ordered : List ℕ → Type 0 = λ digest. AreInFileOrder digest readings in
        let Found : List (List Choice) → Type 0 = λ stored. Examined name step checks seed stored item finding in
        record {
          readings = readings;
          of_key = subst Of same of;
          ordered = subst Ordered same ordered;
          spelled = spelled;
          examined = subst Found lists examined;
          edited = asked (digest_of item);
        }

    -- edits were made of what is stored under the item's name, after a call that reads
    pub turn-made : (edits : List Edit) (ok : Bool) (old mid new : Option Told) → Rests old mid → BothTell (Made (map (under digest) edits) ok) mid new →
        BothTell (Made (map (under (digest_of item)) edits) ok) old new
    turn-made edits ok old mid new rests made =
        let P : List ℕ → Type 0 = λ digest. BothTell (Made (map (under digest) edits) ok) mid new in
        made-after-reading (map (under (digest_of item)) edits) ok old mid new rests (subst P same made)

    pub making-stop : (finding : Finding) (edits : List Edit) (old mid new : Option Told) (stop : StoreStop) → Rests old mid →
        Turn name step checks seed old [] item finding (map (under (digest_of item)) edits) →
        BothTell (Made (map (under digest) edits) false) mid new → ClashesIn (map (under digest) edits) mid stop →
        StopsIn name step checks seed item old new stop
    making-stop finding edits old mid new stop rests turn made clash =
        let all = map (under (digest_of item)) edits in
        let P : List ℕ → Type 0 = λ digest. ClashesIn (map (under digest) edits) mid stop in (
          all,
          inr (finding, turn),
          turn-made edits false old mid new rests made,
          clashes-onward all old mid stop (onward-rests old mid rests) (subst P same clash),
        )
