-- Where something stands in a text.
use Rattle.std.specs.Prelude.{ℕ, ◌+◌, ◌==◌, if◌then◌else◌, List, [], ◌∷◌, length, reverse}
use Rattle.std.specs.List.{count_by}
use Rattle.std.specs.Str.{encode_utf8_all}
use Rattle.pt_val.specs.declared.place.Place.{Place}

-- the characters before the first line feed
abbrev pub up_to_feed : List ℕ → List ℕ
up_to_feed [] = []
up_to_feed (char ∷ text) = if char == 10 then [] else char ∷ up_to_feed text

-- the place behind a text: lines from 1 on, each ended by a line feed, and columns in bytes from 1 on
abbrev pub place_behind : List ℕ → Place
place_behind text = record { line = 1 + count_by (λ char. char == 10) text; column = 1 + length (encode_utf8_all (up_to_feed (reverse text))) }
