-- What a settle does to a folder.
use Rattle.std.proofs.Common.{◌≡◌, ⊎_elim, Bool, true, Option, refl, sym, ap, subst}
use Rattle.pt_disk.specs.Files.{Files}
use Rattle.pt_disk.specs.Folder.{Folder, After, reads, IsImage}
use Rattle.pt_disk.specs.Moments.{Told, now, Elapsed, IsWithin, BothTell}
use Rattle.pt_disk.specs.Calls.{Changed, Changes}
use Rattle.pt_disk.specs.Leaves.{IsTidy, IsAtRest}
use Rattle.pt_disk.specs.declared.change.Change.TheVariants.{Settle}
use Rattle.pt_disk.proofs.Folders.{only-settled, reads-image}
use Rattle.pt_disk.proofs.Settling.{settle-image}
use Rattle.pt_disk.proofs.Times.{elapsed-weaker, elapsed-now}
use Rattle.pt_stored.specs.Stored.{SameStored, pending}
use Rattle.pt_stored.proofs.SetLemmas.{same-stored}
use Rattle.pt_db.specs.Attaching.{Attached}
use Rattle.pt_db.proofs.Telling.{both-weaker}

-- the images of a folder are images of the start
abbrev LeftBy : Folder → Folder → Type 0
LeftBy start folder = (image : Files) → IsImage folder image → IsImage start image

settled-left : (start folder : Folder) → IsWithin start (After Settle start) folder → LeftBy start folder
settled-left start folder within image left = ⊎_elim (λ before. before) (settle-image start image) (within.images image left)

settled-tidy : (start folder : Folder) → IsTidy pending start → IsWithin start (After Settle start) folder → IsTidy pending folder
settled-tidy start folder tidy within name unsynced = ⊎_elim (tidy name) (tidy name) (within.unsynced name unsynced)

settled-rests : (start : Folder) → IsTidy pending start → IsAtRest pending (After Settle start)
settled-rests start tidy = only-settled pending (IsImage start) (reads start) start (record { images = λ image left. left; tidy = tidy }) (λ n other. refl)

-- of a folder at rest a crash leaves the stored set
pub rest-kept : (folder : Folder) (image : Files) → IsAtRest pending folder → IsImage folder image → SameStored (reads folder) image
rest-kept folder image rests left = same-stored (reads folder) image (rests.images image left)

attached : (ok : Bool) (old new : Told) → Changed (After Settle) ok old new → Attached ok old new
attached ok old new changed =
    let moments : Elapsed (LeftBy (now old)) old new =
    elapsed-weaker (IsWithin (now old) (After Settle (now old))) (LeftBy (now old)) old new (settled-left (now old)) changed.moments in
    let rests : IsTidy pending (now old) → ok ≡ true → IsAtRest pending (now new) =
    λ tidy went. subst (IsAtRest pending) (sym (changed.done went)) (settled-rests (now old) tidy) in
    record {
      moments = moments;
      settled = changed.done;
      same = λ went name. ap (λ (f : Folder). reads f name) (changed.done went);
      image = elapsed-now (LeftBy (now old)) old new moments (λ image left. left) (reads (now new)) (reads-image (now new));
      tidy = λ tidy. elapsed-weaker (IsWithin (now old) (After Settle (now old))) (IsTidy pending) old new (λ folder. settled-tidy (now old) folder tidy) changed.moments;
      rests = rests;
      kept = λ tidy went image left. rest-kept (now new) image (rests tidy went) left;
    }

pub attaches : (ok : Bool) (old new : Option Told) → Changes (After Settle) ok old new → BothTell (Attached ok) old new
attaches ok old new = both-weaker (Changed (After Settle) ok) (Attached ok) old new (attached ok)
