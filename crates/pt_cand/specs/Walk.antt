-- The steps of a walk.
use Rattle.std.specs.Prelude.{◌≡◌, ℕ, ◌+◌, List, [], ◌∷◌, Option, Some, None, Result, Ok, Err}
use Rattle.pt_choice.specs.declared.choice.Choice.{Choice}
use Rattle.pt_choice.specs.declared.memory.NoMemory.{NoMemory}
use Rattle.pt_cand.specs.declared.cursor.Cursor.{Cursor}
use Rattle.pt_cand.specs.declared.cursor.Found.{Found}
use Rattle.pt_cand.specs.Edit.{edited}

-- the first of the lists is handed out, or there is none, or they all stay
abbrev pub Hands : List (List Choice) → Result (Option (List Choice)) NoMemory → List (List Choice) → Type 0
Hands old (Ok (Some list)) new = old ≡ list ∷ new
Hands old (Ok None) new = (old ≡ []) × (new ≡ [])
Hands old (Err refused) new = new ≡ old

-- where a place begins
abbrev pub start_of : ℕ → Cursor
start_of place = record { place = place; inner = 0; slot = 0 }

-- the same place, where so many inner ones were passed
abbrev pub past : Cursor → ℕ → Cursor
past cursor inner = record { place = cursor.place; inner = inner; slot = 0 }

-- the first of the lists that are left was found, or none is left
abbrev pub Finds : (Cursor → List (List Choice)) → List Choice → Cursor → Option Found → Type 0
Finds left choices cursor None = left cursor ≡ []
Finds left choices cursor (Some found) = left cursor ≡ edited choices found.edit ∷ left found.next

-- the first of the lists that are left was found at this place, or none is left at it
abbrev pub FindsHere : (Cursor → List (List Choice)) → List Choice → Cursor → Option Found → Type 0
FindsHere left choices cursor None = left cursor ≡ left (start_of (cursor.place + 1))
FindsHere left choices cursor (Some found) = left cursor ≡ edited choices found.edit ∷ left found.next
