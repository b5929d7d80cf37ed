-- Why a call of a store gives no answer, and what it leaves.
use Rattle.std.specs.Prelude.{◌≡◌, ℕ, Bool, true, List, Option, IfSome, ⊤}
use Rattle.pt_disk.specs.Folder.{reads}
use Rattle.pt_disk.specs.Moments.{Told, now}
use Rattle.pt_stored.specs.Digest.{AreAlike}
use Rattle.pt_stored.specs.Stored.{IsClash}
use Rattle.pt_db.specs.declared.fault.StoreFault.{StoreFault}
use Rattle.pt_db.specs.declared.fault.StoreFault.TheVariants.{Disk, Dead, Clash, NoMemory}

-- a store is dead once a call of its disk failed, and else as it was
pub record Dies (failed : Type 0) (before now : Bool) : Type 0 where
  pub dead : failed → now ≡ true
  pub same : ¬ failed → now ≡ before

abbrev pub IsNoClash : StoreFault → Type 0
IsNoClash Disk = ⊤
IsNoClash Dead = ⊤
IsNoClash (Clash kept offered) = ⊥
IsNoClash NoMemory = ⊤

abbrev pub IsNoDeath : StoreFault → Type 0
IsNoDeath Disk = ⊤
IsNoDeath Dead = ⊥
IsNoDeath (Clash kept offered) = ⊤
IsNoDeath NoMemory = ⊤

-- the cause lies outside the store: in the disk or in want of memory
abbrev pub IsOutside : StoreFault → Type 0
IsOutside Disk = ⊤
IsOutside Dead = ⊥
IsOutside (Clash kept offered) = ⊥
IsOutside NoMemory = ⊤

-- a clash is shown where the file of this name holds another value of the same digest as the one that was offered
abbrev pub ShowsClash : Option Told → List ℕ → List ℕ → StoreFault → Type 0
ShowsClash told name value Disk = ⊤
ShowsClash told name value Dead = ⊤
ShowsClash told name value (Clash kept offered) = (offered ≡ value) × AreAlike kept offered × IfSome told (λ told. IsClash (reads (now told)) name value kept)
ShowsClash told name value NoMemory = ⊤

-- the file of this name holds no other value of this value's digest
abbrev pub HasNoClash : Option Told → List ℕ → List ℕ → Type 0
HasNoClash told name value = IfSome told (λ told. (kept : List ℕ) → ¬ IsClash (reads (now told)) name value kept)
