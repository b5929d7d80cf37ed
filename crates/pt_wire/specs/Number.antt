-- Numbers that are read a digit at a time.
use Rattle.std.specs.Prelude.{ℕ, List, [], Option, Some, None}
use Rattle.std.specs.Fmt.{decimal}

-- the digits that were read so far, of a number or of none
abbrev pub digits_of : Option ℕ → List ℕ
digits_of None = []
digits_of (Some number) = decimal number
