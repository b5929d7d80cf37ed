-- Counts of calls and of faults, which stand still at the greatest u64.
use Rattle.std.specs.Prelude.{ℕ, ◌+◌, ◌-◌, ◌^◌, ◌≤◌, min}

-- one more
abbrev pub next_count : ℕ → ℕ
next_count count = min (count + 1) (2 ^ 64 - 1)

-- a count has risen
abbrev pub Rose : ℕ → ℕ → Type 0
Rose before now = next_count before ≤ now
