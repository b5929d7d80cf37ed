-- What a file system was asked for and did, newest first.
use Rattle.std.specs.Prelude.{◌++◌, ◌∷◌, [], ℕ, Bool, if◌then◌else◌, List, Option}
use Rattle.std.specs.Option.{option_map}

-- A call that was done. An opened file stands with the bytes that it gave since, and a created one with those that it took.
pub data Call : Type 0 where
  Made : (folder : List ℕ) → Call
  Opened : (path given : List ℕ) → Call
  Ended : Call
  Created : (path taken : List ℕ) → Call
  Absent : (path : List ℕ) → Call
  Synced : Call
  Renamed : (from to : List ℕ) → Call
  Removed : (path : List ℕ) → Call
  Listed : (folder : List ℕ) → (names : List (List ℕ)) → Call
  Locked : (folder : List ℕ) → Call
  Unlocked : Call

-- the calls so far, where the file system tells them
abbrev pub Asked : Type 0
Asked = Option (List Call)

abbrev pub and_did : Call → Asked → Asked
and_did call = option_map (λ calls. call ∷ calls)

-- the file of the newest call gave or took these bytes more
abbrev pub with_more : List ℕ → List Call → List Call
with_more more [] = []
with_more more (Opened path given ∷ calls) = Opened path (given ++ more) ∷ calls
with_more more (Ended ∷ calls) = Ended ∷ calls
with_more more (Created path taken ∷ calls) = Created path (taken ++ more) ∷ calls
with_more more (Absent path ∷ calls) = Absent path ∷ calls
with_more more (Synced ∷ calls) = Synced ∷ calls
with_more more (Renamed from to ∷ calls) = Renamed from to ∷ calls
with_more more (Removed path ∷ calls) = Removed path ∷ calls
with_more more (Made folder ∷ calls) = Made folder ∷ calls
with_more more (Listed folder names ∷ calls) = Listed folder names ∷ calls
with_more more (Locked folder ∷ calls) = Locked folder ∷ calls
with_more more (Unlocked ∷ calls) = Unlocked ∷ calls

abbrev pub and_more : List ℕ → Asked → Asked
and_more more = option_map (with_more more)

-- bytes were given, or none, and then the file has no more
abbrev pub and_gave : List ℕ → Asked → Asked
and_gave [] asked = and_did Ended asked
and_gave (byte ∷ bytes) asked = and_more (byte ∷ bytes) asked

-- the file was opened, or is absent
abbrev pub and_opened : Bool → List ℕ → Asked → Asked
and_opened there path = and_did (if there then Opened path [] else Absent path)

-- the file of this path was opened and synced
abbrev pub and_synced : List ℕ → Asked → Asked
and_synced path asked = and_did Synced (and_did (Opened path []) asked)

-- the lock of this folder was taken, or it was not asked for
abbrev pub and_locked : Bool → List ℕ → Asked → Asked
and_locked took folder asked = if took then and_did (Locked folder) asked else asked

abbrev pub and_unlocked : Bool → Asked → Asked
and_unlocked held asked = if held then and_did Unlocked asked else asked
