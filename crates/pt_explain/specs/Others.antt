-- The choices that are tried in place of one.
use Rattle.std.specs.Prelude.{ℕ, ◌+◌, ◌-◌, ◌/◌, not, nat_lt, if◌then◌else◌, ℤ, pos, negsuc, ◌+ℤ◌, ◌-ℤ◌, neg_ℤ, Option, Some, None, List, [], ◌∷◌, ◌++◌, map, take, length, slice_get}
use Rattle.pt_choice.specs.declared.choice.Choice.{Choice}
use Rattle.pt_choice.specs.declared.choice.Choice.TheVariants as choice
use Rattle.pt_choice.specs.Same.{same_choice}
use Rattle.pt_cand.specs.Each.{each_once}

-- small and round numbers, the neighbours, the double and the negative
abbrev pub other_integers : ℤ → List ℤ
other_integers value = pos 0 ∷ pos 1 ∷ negsuc 0 ∷ pos 2 ∷ pos 10 ∷ pos 100
    ∷ (value +ℤ pos 1) ∷ (value -ℤ pos 1) ∷ (value +ℤ value) ∷ neg_ℤ value ∷ []

-- one place more, below 64 places
abbrev pub longer : List ℕ → List (List ℕ)
longer octets = if nat_lt (length octets) 64 then (octets ++ 0 ∷ []) ∷ [] else []

-- the last place raised by one, below 255
abbrev pub raised : List ℕ → ℕ → List (List ℕ)
raised front last = if nat_lt last 255 then (front ++ (last + 1) ∷ []) ∷ [] else []

-- the last place zero, and raised by one, where there is one
abbrev pub last_changed : List ℕ → Option ℕ → List (List ℕ)
last_changed front None = []
last_changed front (Some last) = (front ++ 0 ∷ []) ∷ raised front last

-- none, the first half, one place more, and the last place changed
abbrev pub other_octets : List ℕ → List (List ℕ)
other_octets octets = [] ∷ take (length octets / 2) octets ∷ longer octets
    ++ last_changed (take (length octets - 1) octets) (slice_get octets (length octets - 1))

-- all of them in order, repeats and the choice itself among them
abbrev pub replacements : Choice → List Choice
replacements (choice.Bool value) = choice.Bool (not value) ∷ []
replacements (choice.Int value) = map (λ v. choice.Int v) (other_integers value)
replacements (choice.Bytes octets) = map (λ o. choice.Bytes o) (other_octets octets)
replacements (choice.Text octets) = map (λ o. choice.Text o) (other_octets octets)

-- each once, and without the choice itself
abbrev pub others : Choice → List Choice
others given = each_once same_choice (given ∷ []) (replacements given)
