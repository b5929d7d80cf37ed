-- What a hasher is fed.
use Rattle.std.specs.Prelude.{ℕ, List, [], ◌∷◌, ◌++◌, length}
use Rattle.std.specs.Hash as fed
use Rattle.std.specs.Hash.{HashWrites}

-- the number of bytes, and then all of them in one piece
abbrev pub octets_input : List ℕ → HashWrites
octets_input octets = fed.usize (length octets) ++ octets ∷ []
