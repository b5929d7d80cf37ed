-- Where two values clash among edits.
use Rattle.std.proofs.Common.{true, ℕ, List, [], ◌∷◌, ◌++◌, Option, Some, None, refl, sym, ◌∙◌, ap, append_assoc}
use Rattle.std.specs.Prelude.{IfSome}
use Rattle.pt_disk.specs.Folder.{reads}
use Rattle.pt_disk.specs.Moments.{Told, now, BothTell}
use Rattle.pt_stored.specs.Stored.{IsStored}
use Rattle.pt_edits.specs.Clash.{IsClashIn, ClashesIn}
use Rattle.pt_edits.specs.Made.{Made}
use Rattle.pt_edits.specs.Pairs.{PairEdit, after_all, digest_of}
use Rattle.pt_edits.specs.declared.stop.StoreStop.{StoreStop}
use Rattle.pt_edits.specs.declared.stop.StoreStop.TheVariants.{Failed, Clash, NoMemory}
use Rattle.pt_edits.specs.declared.stop.TwoValues.{TwoValues}
use Rattle.pt_edits.proofs.SetLemmas.{after-all-same, after-all-append}

kept-since : (done made : List PairEdit) (d b : List ℕ) (old mid : Option Told) → BothTell (Made done true) old mid →
    IfSome mid (λ told. after_all made (IsStored (reads (now told))) d b) → IfSome old (λ told. after_all (done ++ made) (IsStored (reads (now told))) d b)
kept-since done made d b None None both kept = tt
kept-since done made d b (Some old) (Some mid) both kept =
    (after-all-append done made (IsStored (reads (now old))) d b).1
    ((after-all-same made (IsStored (reads (now mid))) (after_all done (IsStored (reads (now old)))) (both.edited refl).stored d b).0 kept)
kept-since done made d b None (Some mid) both kept = absurd both
kept-since done made d b (Some old) None both kept = absurd both

-- a clash in edits that were begun after others were done
pub clash-since : (done edits : List PairEdit) (old mid : Option Told) (two : TwoValues) → BothTell (Made done true) old mid → IsClashIn [] edits mid two → IsClashIn done edits old two
clash-since done edits old mid two both clash = record {
  alike = clash.alike;
  made = clash.made;
  due = clash.due;
  left = clash.left;
  among = clash.among;
  offered = clash.offered;
  kept = kept-since done clash.made (digest_of clash.due) two.kept old mid both clash.kept;
}

-- the edits that were done, those with the clash and those that follow are one list
pub clash-among : (done edits after : List PairEdit) (told : Option Told) (two : TwoValues) → IsClashIn done edits told two → IsClashIn [] (done ++ (edits ++ after)) told two
clash-among done edits after told two clash = record {
  alike = clash.alike;
  made = done ++ clash.made;
  due = clash.due;
  left = clash.left ++ after;
  among = ap (λ (l : List PairEdit). done ++ (l ++ after)) clash.among ∙ ap (λ (l : List PairEdit). done ++ l) (append_assoc clash.made (clash.due ∷ clash.left) after)
      ∙ sym (append_assoc done clash.made (clash.due ∷ (clash.left ++ after)));
  offered = clash.offered;
  kept = clash.kept;
}

pub clashes-among : (done edits after : List PairEdit) (old mid : Option Told) (why : StoreStop) → BothTell (Made done true) old mid → ClashesIn edits mid why →
    ClashesIn (done ++ (edits ++ after)) old why
clashes-among done edits after old mid Failed both clash = tt
clashes-among done edits after old mid (Clash two) both clash = clash-among done edits after old two (clash-since done edits old mid two both clash)
clashes-among done edits after old mid NoMemory both clash = tt
