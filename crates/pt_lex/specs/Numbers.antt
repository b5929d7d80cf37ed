-- Numbers.
use Rattle.std.specs.Prelude.{ℕ, ◌+◌, ◌*◌, ◌-◌, ◌==◌, ◌&&◌, ◌||◌, not, Bool, false, List, [], ◌∷◌, length}
use Rattle.std.specs.List.{list_all}
use Rattle.pt_val.specs.Name.{is_digit}

-- `0`, or a digit from 1 to 9 and further digits
abbrev pub is_number : List ℕ → Bool
is_number [] = false
is_number (first ∷ rest) = is_digit first && list_all is_digit rest && (not (first == 48) || length rest == 0)

-- the number that digits stand for, behind those of another
abbrev pub number_on : ℕ → List ℕ → ℕ
number_on front [] = front
number_on front (digit ∷ digits) = number_on (10 * front + (digit - 48)) digits

-- the greatest number that is kept
abbrev pub most_number : ℕ
most_number = 18446744073709551615
