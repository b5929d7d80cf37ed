-- Numbers in groups of seven bits, the low ones first.
use Rattle.std.specs.Prelude.{◌≡◌, ℕ, ◌+◌, ◌*◌, ◌<◌, ◌≤◌, List, [], ◌∷◌}

-- A byte below 128 is the last group. One from 128 on has a group, and the bytes after it spell what stands above
-- the group, which isn't 0: so each number has one spelling.
abbrev pub IsLeb128 : ℕ → List ℕ → Type 0
IsLeb128 number [] = ⊥
IsLeb128 number (byte ∷ []) = (byte < 128) × (number ≡ byte)
IsLeb128 number (byte ∷ next ∷ others) =
    (low high : ℕ) × (low < 128) × (0 < high) × (byte ≡ 128 + low) × (number ≡ low + 128 * high) × IsLeb128 high (next ∷ others)

-- the same of a number within these bounds
abbrev pub IsLeb128Within : ℕ → ℕ → ℕ → List ℕ → Type 0
IsLeb128Within least most number bytes = IsLeb128 number bytes × (least ≤ number) × (number ≤ most)
