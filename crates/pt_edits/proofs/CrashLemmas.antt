-- What a crash leaves of a folder that was settled and edited.
use Rattle.std.proofs.Common.{◌≡◌, ◌⊎◌, inl, inr, ⊎_elim, Bool, true, false, List, ◌++◌, refl}
use Rattle.pt_disk.specs.Files.{Files}
use Rattle.pt_disk.specs.Folder.{Folder, reads, IsImage}
use Rattle.pt_disk.specs.Moments.{Told, now, Elapsed, IsImageSince}
use Rattle.pt_disk.specs.Leaves.{Leaves, IsTidy}
use Rattle.pt_disk.proofs.Folders.{leaves-weaker}
use Rattle.pt_disk.proofs.Times.{elapsed-then, elapsed-weaker, elapsed-now, elapsed-images}
use Rattle.pt_stored.specs.Stored.{pending}
use Rattle.pt_db.specs.Attaching.{Attached}
use Rattle.pt_edits.specs.Pairs.{PairEdit, IsAfter, IsAfterSome}
use Rattle.pt_edits.specs.Made.{Made, Settled}
use Rattle.pt_edits.proofs.MadeLemmas.{LeavesSome, LeavesOrSome, rest-some}
use Rattle.pt_edits.proofs.SetLemmas.{is-after-then, some-of-first, some-of-more}

-- it was settled and edited, and then edited more
pub settled-then : (edits more : List PairEdit) (old mid new : Told) → Settled edits true old mid → Made more false mid new → IsTidy pending (now old) →
    Elapsed (LeavesOrSome (edits ++ more) (now old)) old new
settled-then edits more old mid new settled made tidy =
    let start = reads (now old) in
    let half = reads (now mid) in
    let Left : Files → Type 0 = λ image. IsImage (now old) image ⊎ IsAfterSome (edits ++ more) start image in
    elapsed-then (LeavesOrSome (edits ++ more) (now old)) old mid new
    (elapsed-weaker (LeavesOrSome edits (now old)) (LeavesOrSome (edits ++ more) (now old)) old mid
    (λ folder. leaves-weaker pending (λ image. IsImage (now old) image ⊎ IsAfterSome edits start image) Left folder
    (λ image left. ⊎_elim (λ was. inl was) (λ some. inr (some-of-first edits more start image some)) left))
    (settled.any_moment tidy))
    (elapsed-weaker (LeavesSome more (now mid)) (LeavesOrSome (edits ++ more) (now old)) mid new
    (λ folder. leaves-weaker pending (IsAfterSome more half) Left folder
    (λ image some. inr (some-of-more edits more start half image (settled.edited refl) some)))
    (made.any_moment (settled.rests tidy refl)))

since-some : (edits : List PairEdit) (old new : Told) (image : Files) → Elapsed (LeavesOrSome edits (now old)) old new → IsImageSince new old.clock image →
    IsImage (now old) image ⊎ IsAfterSome edits (reads (now old)) image
since-some edits old new image elapsed since = ⊎_elim
    (λ was. inl was)
    (λ later. later.1.images image later.2)
    (elapsed-images (LeavesOrSome edits (now old)) old new elapsed image since)

-- since then a crash leaves what it might have left at the start, or the stored set from then after some first ones of the edits
pub settled-since : (edits : List PairEdit) (ok : Bool) (old new : Told) (image : Files) → Settled edits ok old new → IsTidy pending (now old) →
    IsImageSince new old.clock image → IsImage (now old) image ⊎ IsAfterSome edits (reads (now old)) image
settled-since edits ok old new image settled tidy since = since-some edits old new image (settled.any_moment tidy) since

pub settled-and-since : (edits more : List PairEdit) (old mid new : Told) (image : Files) → Settled edits true old mid → Made more false mid new →
    IsTidy pending (now old) → IsImageSince new old.clock image → IsImage (now old) image ⊎ IsAfterSome (edits ++ more) (reads (now old)) image
settled-and-since edits more old mid new image settled made tidy since =
    since-some (edits ++ more) old new image (settled-then edits more old mid new settled made tidy) since

-- where the folder was not settled, a crash leaves what it might have left at the start
pub attached-since : (ok : Bool) (old new : Told) (image : Files) → Attached ok old new → IsImageSince new old.clock image → IsImage (now old) image
attached-since ok old new image attached since = ⊎_elim
    (λ was. was)
    (λ later. later.1 image later.2)
    (elapsed-images (λ folder. (image : Files) → IsImage folder image → IsImage (now old) image) old new attached.moments image since)

-- at the end a crash leaves the stored set from the start after all of the first edits, and some first ones of the others
pub settled-and-left : (edits more : List PairEdit) (old mid new : Told) (image : Files) → Settled edits true old mid → Made more false mid new →
    IsTidy pending (now old) → IsImage (now new) image →
    (made left : List PairEdit) × (more ≡ made ++ left) × IsAfter (edits ++ made) (reads (now old)) image
settled-and-left edits more old mid new image settled made tidy is =
    let rests = settled.rests tidy refl in
    let leaves = elapsed-now (LeavesSome more (now mid)) mid new (made.any_moment rests) (rest-some more (now mid) rests) in
    let some = leaves.images image is in (
      some.0,
      some.1,
      some.2,
      is-after-then edits some.0 (reads (now old)) (reads (now mid)) image (settled.edited refl) some.3,
    )
