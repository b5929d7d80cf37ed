-- What the calls of a disk do.
use Rattle.std.specs.Prelude.{◌≡◌, ◌↔◌, ◌≤◌, ℕ, Bool, true, List, Contains, AllPairs, take, Option, IsSome, IfSome}
use Rattle.std.specs.Option.{option_map}
use Rattle.std.specs.Ordering.{nat_cmp}
use Rattle.std.specs.declared.cmp.Ordering.TheVariants.{Less}
use Rattle.std.specs.Cmp.Lexicographic.{slice_cmp}
use Rattle.pt_choice.specs.Faults.{Rose}
use Rattle.pt_disk.specs.Folder.{Folder, reads}
use Rattle.pt_disk.specs.Moments.{Told, now, Elapsed, IsWithin, BothTell}

-- the count of faults rose where the call failed, and is as before where it did not
pub record HasCause (failed : Type 0) (before now : ℕ) : Type 0 where
  pub later : before ≤ now
  pub rose : failed → Rose before now
  pub quiet : ¬ failed → now ≡ before

-- a call that reads: at each moment the folder is as it was
abbrev pub Rests : Option Told → Option Told → Type 0
Rests = BothTell (λ old new. Elapsed (λ folder. folder ≡ now old) old new)

-- The call changed the folder so, or it failed and left what a stop within it may leave.
pub record Changed (change : Folder → Folder) (ok : Bool) (old new : Told) : Type 0 where
  pub done : ok ≡ true → now new ≡ change (now old)
  pub moments : Elapsed (IsWithin (now old) (change (now old))) old new

abbrev pub Changes : (Folder → Folder) → Bool → Option Told → Option Told → Type 0
Changes change ok = BothTell (Changed change ok)

-- each name stands before all later ones in byte order, and so it stands there once
abbrev pub AreOrdered : List (List ℕ) → Type 0
AreOrdered = AllPairs (λ one other. slice_cmp nat_cmp one other ≡ Less)

-- where the disk tells, these are the names that are there
abbrev pub AreNames : Option Told → List (List ℕ) → Type 0
AreNames told names = IfSome told (λ told. (name : List ℕ) → Contains names name ↔ IsSome (reads (now told) name))

-- where the disk tells, this is the first part of the name's file, or the name is absent
abbrev pub IsFirstPart : Option Told → List ℕ → ℕ → Option (List ℕ) → Type 0
IsFirstPart told name cap read = IfSome told (λ told. read ≡ option_map (λ bytes. take cap bytes) (reads (now told) name))

-- where the disk tells, the name is there
abbrev pub IsThere : Option Told → List ℕ → Type 0
IsThere told name = IfSome told (λ told. IsSome (reads (now told) name))
