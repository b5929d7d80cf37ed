-- Tables of names.
use Rattle.std.specs.Prelude.{ℕ, List, map}
use Rattle.std.specs.Borrow.{Bor}

-- the entries of a table, without where their names lie in memory
abbrev pub named : List (Bor (List ℕ) × ℕ) → List (List ℕ × ℕ)
named entries = map (λ entry. (entry.0.now, entry.1)) entries
