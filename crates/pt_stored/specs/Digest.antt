-- Digests of keys and values, as text, and the names that are made of them.
use Rattle.std.specs.Prelude.{◌≡◌, ◌≢◌, ◌&&◌, ◌||◌, ℕ, nat_le, Bool, List, ◌∷◌, ◌++◌, length}
use Rattle.std.specs.List.{AllPass}
use Rattle.hex.specs.Hex.{encode_lower}
use Rattle.sha2.specs.Sha256.{sha256}

abbrev pub is_lower_digit : ℕ → Bool
is_lower_digit c = (nat_le 48 c && nat_le c 57) || (nat_le 97 c && nat_le c 102)

-- 64 lower-case hexadecimal digits
pub record IsDigest (text : List ℕ) : Type 0 where
  pub long : length text ≡ 64
  pub digits : AllPass is_lower_digit text

-- the hexadecimal text of the digest of some bytes
abbrev pub digest_text : List ℕ → List ℕ
digest_text bytes = encode_lower (sha256 bytes)

-- the name of the file of a value that is stored under a key of this digest
abbrev pub file_name : List ℕ → List ℕ → List ℕ
file_name digest bytes = digest ++ 45 ∷ digest_text bytes

-- the name is two digests with a dash between them
pub record IsNameOf (name key value : List ℕ) : Type 0 where
  pub key_digest : IsDigest key
  pub value_digest : IsDigest value
  pub joined : name ≡ key ++ 45 ∷ value

-- the name has the form of an example's
abbrev pub IsExampleName : List ℕ → Type 0
IsExampleName name = (key value : List ℕ) × IsNameOf name key value

-- two values differ and have one digest
pub record AreAlike (one other : List ℕ) : Type 0 where
  pub differ : one ≢ other
  pub alike : sha256 one ≡ sha256 other
