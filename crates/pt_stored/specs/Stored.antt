-- The stored set of a folder's files.
use Rattle.std.specs.Prelude.{◌≡◌, ◌⊎◌, ◌↔◌, ◌≤◌, ℕ, List, length, codes, Some}
use Rattle.pt_disk.specs.Files.{Files}
use Rattle.pt_stored.specs.Digest.{IsDigest, digest_text, file_name, AreAlike}

-- the value is stored under a key of this digest
pub record IsStored (files : Files) (digest bytes : List ℕ) : Type 0 where
  pub key : IsDigest digest
  pub short : length bytes ≤ 65536
  pub file : files (file_name digest bytes) ≡ Some bytes

-- the pair is this one
abbrev pub IsPair : List ℕ → List ℕ → List ℕ → List ℕ → Type 0
IsPair digest bytes d b = (d ≡ digest) × (b ≡ bytes)

-- the stored set is the same
abbrev pub SameStored : Files → Files → Type 0
SameStored old new = (d b : List ℕ) → IsStored new d b ↔ IsStored old d b

-- the stored set is the same with this pair
abbrev pub StoredWith : List ℕ → List ℕ → Files → Files → Type 0
StoredWith digest bytes old new = (d b : List ℕ) → IsStored new d b ↔ (IsStored old d b ⊎ IsPair digest bytes d b)

-- the stored set is the same without this pair
abbrev pub StoredWithout : List ℕ → List ℕ → Files → Files → Type 0
StoredWithout digest bytes old new = (d b : List ℕ) → IsStored new d b ↔ (IsStored old d b × ¬ IsPair digest bytes d b)

-- the spare file, which is no example
abbrev pub pending : List ℕ
pending = codes "pending"

-- the file of this name holds no value of this value's digest
abbrev pub HasNoneAlike : Files → List ℕ → List ℕ → Type 0
HasNoneAlike files name bytes = (b : List ℕ) → length b ≤ 65536 → files name ≡ Some b → digest_text b ≡ digest_text bytes → ⊥

-- the file of this name holds another value of this value's digest
pub record IsClash (files : Files) (name bytes kept : List ℕ) : Type 0 where
  pub short : length kept ≤ 65536
  pub there : files name ≡ Some kept
  pub alike : AreAlike kept bytes
