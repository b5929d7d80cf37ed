-- Which names a file of a folder may have.
use Rattle.std.specs.Prelude.{◌≢◌, ◌↔◌, ◌≤◌, ◌<◌, ℕ, List, [], ◌∷◌, ◌++◌, length, All, Contains}
use Rattle.std.specs.Str.{IsUtf8}

-- text of 1 to 255 bytes, none of them NUL or a slash, and not the folder itself, `.`, or the one that it lies in, `..`
pub record IsFileName (name : List ℕ) : Type 0 where
  pub text : IsUtf8 name
  pub some : 0 < length name
  pub short : length name ≤ 255
  pub plain : All (λ byte. (byte ≢ 0) × (byte ≢ 47)) name
  pub not_itself : name ≢ 46 ∷ []
  pub not_above : name ≢ 46 ∷ 46 ∷ []

-- the path of the file of this name in this folder
abbrev pub path_in : List ℕ → List ℕ → List ℕ
path_in folder name = folder ++ 47 ∷ name

-- a name is in the one list exactly where it is in the other
abbrev pub HaveSame : List (List ℕ) → List (List ℕ) → Type 0
HaveSame one other = (name : List ℕ) → Contains one name ↔ Contains other name
