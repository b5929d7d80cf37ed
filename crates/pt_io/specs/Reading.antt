-- Which files are read whole.
use Rattle.std.specs.Prelude.{ℕ, ◌<◌, ◌≤◌, List, length}

-- a file that is read whole has at most 1,048,576 bytes
abbrev pub IsWithinLimit : List ℕ → Type 0
IsWithinLimit bytes = length bytes ≤ 1048576

-- and one that is too large has more
abbrev pub IsPastLimit : List ℕ → Type 0
IsPastLimit bytes = 1048576 < length bytes
