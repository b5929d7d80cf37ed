-- What the words of a command line ask for.
use Rattle.std.specs.Prelude.{◌≡◌, ℕ, ◌^◌, ◌<◌, ◌≤◌, List, [], ◌∷◌, length, map, codes, String, string_bytes}
use Rattle.std.specs.Fmt.{decimal}
use Rattle.std.specs.declared.alloc.Global.{Global}
use Rattle.pt_choice.specs.declared.choice.Choice.{Choice}
use Rattle.pt_wire.specs.Printed.{Printed}

-- A run of a suite with a seed and so many workers; a replay of a list of choices on an item of a suite; what the database holds;
-- the examination of a suite of so many items that is made of a seed; or which choices of a list matter on an item of a suite.
pub data Asked : Type 0 where
  Run : (suite : List ℕ) (seed workers : ℕ) → Asked
  Replay : (suite item : List ℕ) (list : List Choice) → Asked
  Stored : Asked
  Make : (seed count : ℕ) → Asked
  Explain : (suite item : List ℕ) (list : List Choice) → Asked

-- The words ask for a run of this suite with this seed and so many workers. A number is written in decimal, with no
-- sign and no leading zero.
pub record AsksRun (words : List (String Global)) (suite : List ℕ) (seed workers : ℕ) : Type 0 where
  pub spelled : map string_bytes words ≡ codes "run" ∷ suite ∷ decimal seed ∷ decimal workers ∷ []
  pub seed_fits : seed < 2 ^ 64
  pub one_or_more : 1 ≤ workers
  pub at_most : workers ≤ 16

-- The words ask for a replay on this item of this suite of the list that their last one spells.
pub record AsksReplay (words : List (String Global)) (suite item : List ℕ) (list : List Choice) : Type 0 where
  pub word : List ℕ
  pub spelled : map string_bytes words ≡ codes "replay" ∷ suite ∷ item ∷ word ∷ []
  pub printed : Printed list word
  pub few : length list ≤ 256

-- The words ask for what the database holds.
abbrev pub AsksStored : List (String Global) → Type 0
AsksStored words = map string_bytes words ≡ codes "stored" ∷ []

-- The words ask for the suite of so many items that is made of this seed.
pub record AsksMake (words : List (String Global)) (seed count : ℕ) : Type 0 where
  pub spelled : map string_bytes words ≡ codes "make" ∷ decimal seed ∷ decimal count ∷ []
  pub seed_fits : seed < 2 ^ 64
  pub one_or_more : 1 ≤ count
  pub at_most : count ≤ 200

-- The words ask which choices matter of the list that their last one spells, on this item of this suite.
pub record AsksExplain (words : List (String Global)) (suite item : List ℕ) (list : List Choice) : Type 0 where
  pub word : List ℕ
  pub spelled : map string_bytes words ≡ codes "explain" ∷ suite ∷ item ∷ word ∷ []
  pub printed : Printed list word
  pub few : length list ≤ 256

-- the words ask for this
abbrev pub Asks : List (String Global) → Asked → Type 0
Asks words (Run suite seed workers) = AsksRun words suite seed workers
Asks words (Replay suite item list) = AsksReplay words suite item list
Asks words Stored = AsksStored words
Asks words (Make seed count) = AsksMake words seed count
Asks words (Explain suite item list) = AsksExplain words suite item list

-- the words ask for nothing
abbrev pub AskNothing : List (String Global) → Type 0
AskNothing words = (asked : Asked) → Asks words asked → ⊥

-- the words ask for what needs no file, and for what needs no disk
abbrev pub AskNoFile : List (String Global) → Type 0
AskNoFile words = (suite item : List ℕ) (seed workers : ℕ) (list : List Choice) →
    (AsksRun words suite seed workers → ⊥) × (AsksReplay words suite item list → ⊥) × (AsksExplain words suite item list → ⊥)

abbrev pub AskNoDisk : List (String Global) → Type 0
AskNoDisk words = (suite : List ℕ) (seed workers : ℕ) → (AsksRun words suite seed workers → ⊥) × (AsksStored words → ⊥)
