-- What edits of the stored set do to a folder.
use Rattle.std.specs.Prelude.{◌≡◌, ◌⊎◌, Bool, true, false, List, Option}
use Rattle.pt_disk.specs.Folder.{reads, IsImage}
use Rattle.pt_disk.specs.Moments.{Told, now, Elapsed, BothTell}
use Rattle.pt_disk.specs.Leaves.{Leaves, IsAtRest, IsTidy}
use Rattle.pt_stored.specs.Stored.{pending}
use Rattle.pt_edits.specs.Pairs.{PairEdit, IsAfter, IsAfterSome}

-- The edits were made, in order; or some first ones of them, and perhaps a part of the next one.
pub record Made (edits : List PairEdit) (ok : Bool) (old new : Told) : Type 0 where
  pub edited : ok ≡ true → IsAfter edits (reads (now old)) (reads (now new))
  -- where the disk was at rest at the start: it is at rest again
  pub rests : IsAtRest pending (now old) → ok ≡ true → IsAtRest pending (now new)
  -- and at each moment since the start a crash leaves the files from then after some first ones of the edits
  pub any_moment : IsAtRest pending (now old) → Elapsed (Leaves pending (IsAfterSome edits (reads (now old)))) old new

-- The folder was settled, and then edits were made, all or some first ones of them.
pub record Settled (edits : List PairEdit) (ok : Bool) (old new : Told) : Type 0 where
  pub edited : ok ≡ true → IsAfter edits (reads (now old)) (reads (now new))
  -- where the disk was tidy at the start: it is at rest
  pub rests : IsTidy pending (now old) → ok ≡ true → IsAtRest pending (now new)
  -- and at each moment since the start a crash leaves what it might have left then, or the files from then after some first ones of
  -- the edits
  pub any_moment : IsTidy pending (now old) →
      Elapsed (Leaves pending (λ image. IsImage (now old) image ⊎ IsAfterSome edits (reads (now old)) image)) old new

-- The folder was settled and the first edits were made; and then, of some more, all or some first ones.
abbrev pub SettledAnd : List PairEdit → List PairEdit → Option Told → Option Told → Type 0
SettledAnd edits more old new =
    (mid : Option Told) × BothTell (Settled edits true) old mid × BothTell (Made more false) mid new
