-- What the calls of a folder ask of a file system.
use Rattle.std.specs.Prelude.{◌≡◌, ◌⊎◌, ◌∷◌, [], ℕ, Bool, if◌then◌else◌, List, length}
use Rattle.pt_real.specs.FileNames.{HaveSame}
use Rattle.pt_real.specs.Asked.{Asked, Made, Opened, Ended, Listed, Locked, and_did, and_synced, and_unlocked}

-- the folder that the machine calls the current one
abbrev pub here : List ℕ
here = 46 ∷ []

-- a folder that was not seen before is made, and then the one in which its name stands is synced
abbrev pub made_first : Bool → List ℕ → Asked → Asked
made_first made folder asked = if made then asked else and_synced here (and_did (Made folder) asked)

-- and then its lock is taken, where it is not held
abbrev pub locked_first : Bool → Bool → List ℕ → Asked → Asked
locked_first made held folder asked = if held then made_first made folder asked else and_did (Locked folder) (made_first made folder asked)

-- the lock was given back last, where it was held
abbrev pub IsGivenBack : Bool → Asked → Type 0
IsGivenBack held now = (before : Asked) × (now ≡ and_unlocked held before)

-- the file of this path was opened and gave these bytes, and they are as many as were asked for, or all
abbrev pub IsReadUpTo : ℕ → List ℕ → List ℕ → Asked → Asked → Type 0
IsReadUpTo cap path bytes old now = ((now ≡ and_did (Opened path bytes) old) × (length bytes ≡ cap)) ⊎ (now ≡ and_did Ended (and_did (Opened path bytes) old))

-- the folder was listed, and these are the names that it gave
abbrev pub IsListed : List (List ℕ) → List ℕ → Asked → Asked → Type 0
IsListed names folder old now = (listed : List (List ℕ)) × (now ≡ and_did (Listed folder listed) old) × HaveSame names listed
