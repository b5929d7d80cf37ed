-- When a file is an example, whatever folder it lies in.
use Rattle.std.specs.Prelude.{◌≡◌, ◌≤◌, ℕ, List, length}
use Rattle.pt_stored.specs.Digest.{IsDigest, file_name}

-- the file of this name and these bytes is a value of a key of this digest
pub record IsExampleOf (digest name bytes : List ℕ) : Type 0 where
  pub key : IsDigest digest
  pub short : length bytes ≤ 65536
  pub named : name ≡ file_name digest bytes

-- the file is an example
abbrev pub IsExample : List ℕ → List ℕ → Type 0
IsExample name bytes = (digest : List ℕ) × IsExampleOf digest name bytes
