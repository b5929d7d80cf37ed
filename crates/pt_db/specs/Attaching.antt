-- What an attach does to a folder.
use Rattle.std.specs.Prelude.{◌≡◌, ℕ, Bool, true, List}
use Rattle.pt_disk.specs.Files.{Files}
use Rattle.pt_disk.specs.Folder.{After, reads, IsImage}
use Rattle.pt_disk.specs.Moments.{Told, now, Elapsed}
use Rattle.pt_disk.specs.Leaves.{IsTidy, IsAtRest}
use Rattle.pt_disk.specs.declared.change.Change.TheVariants.{Settle}
use Rattle.pt_stored.specs.Stored.{SameStored, pending}

-- The folder was settled, or the call failed.
pub record Attached (ok : Bool) (old new : Told) : Type 0 where
  -- at each moment since the start a crash leaves what it might have left then
  pub moments : Elapsed (λ folder. (image : Files) → IsImage folder image → IsImage (now old) image) old new
  pub settled : ok ≡ true → now new ≡ After Settle (now old)
  pub same : ok ≡ true → (name : List ℕ) → reads (now new) name ≡ reads (now old) name
  -- what reads give is an image of the start, also after a failed call
  pub image : IsImage (now old) (reads (now new))
  -- where the disk was tidy at the start
  pub tidy : IsTidy pending (now old) → Elapsed (IsTidy pending) old new
  pub rests : IsTidy pending (now old) → ok ≡ true → IsAtRest pending (now new)
  pub kept : IsTidy pending (now old) → ok ≡ true → (image : Files) → IsImage (now new) image → SameStored (reads (now new)) image
