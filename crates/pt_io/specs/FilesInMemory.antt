-- What contracts see of files in memory.
use Rattle.std.specs.Prelude.{ℕ, ◌==◌, List, [], length, drop, Contains, Option, Some, find, slice_index_or, nat_eq}
use Rattle.std.specs.Option.{option_map}
use Rattle.std.specs.Cmp.Lexicographic.{pointwise}
use Rattle.pt_choice.specs.Faults.{next_count}
use Rattle.pt_io.specs.Files.{Shown}

-- the files by name, the calls that are to fail, how many calls there were, how many times a file was chosen, what is
-- left of the chosen file, and how many calls failed
pub record FilesInMemory : Type 0 where
  pub files : List (List ℕ × List ℕ)
  pub failing : List ℕ
  pub calls : ℕ
  pub chosen : ℕ
  pub left : List ℕ
  pub faults : ℕ

-- the bytes of the first file of this name
abbrev pub content_of : List (List ℕ × List ℕ) → List ℕ → Option (List ℕ)
content_of files name = option_map (λ file. file.1) (find (λ file. pointwise nat_eq file.0 name) files)

-- the bytes of the file at a place, and none past the last
abbrev pub bytes_at : List (List ℕ × List ℕ) → ℕ → List ℕ
bytes_at files place = (slice_index_or files place ([], [])).1

-- they tell everything, and are steady where no call is to fail
abbrev pub shown : FilesInMemory → Shown
shown m = record { faults = m.faults; chosen = m.chosen; named = Some (content_of m.files); left = Some m.left; steady = length m.failing == 0 }

-- the next call is to fail
abbrev pub FailsNext : FilesInMemory → Type 0
FailsNext m = Contains m.failing (next_count m.calls)

-- a file of these bytes was chosen
abbrev pub after_choose : FilesInMemory → List ℕ → FilesInMemory
after_choose m bytes = record m { calls = next_count m.calls; chosen = next_count m.chosen; left = bytes }

-- a file was to be chosen, and the call failed
abbrev pub after_no_choose : FilesInMemory → FilesInMemory
after_no_choose m = record m { calls = next_count m.calls; chosen = next_count m.chosen; left = []; faults = next_count m.faults }

-- so many bytes were read
abbrev pub after_read : FilesInMemory → ℕ → FilesInMemory
after_read m n = record m { calls = next_count m.calls; left = drop n m.left }

-- bytes were to be read, and the call failed
abbrev pub after_no_read : FilesInMemory → FilesInMemory
after_no_read m = record m { calls = next_count m.calls; faults = next_count m.faults }
