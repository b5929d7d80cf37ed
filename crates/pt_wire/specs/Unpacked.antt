-- What a stored entry of either version holds.
use Rattle.std.specs.Prelude.{◌≡◌, ◌⊎◌, ◌↔◌, ℕ, ◌≤◌, true, List, length, Option, Some, None}
use Rattle.pt_choice.specs.declared.choice.Choice.{Choice}
use Rattle.pt_wire.specs.declared.unpacking.Unpacked.{Unpacked}
use Rattle.pt_wire.specs.Stored.{Stored, StoredOne}

-- the bytes spell a list of at most 256 choices, in one version or the other
abbrev pub Unpacks : List ℕ → List Choice → Type 0
Unpacks bytes list = (Stored list bytes ⊎ StoredOne list bytes) × (length list ≤ 256)

-- the bytes spell a list in version 1
abbrev pub IsOld : List ℕ → Type 0
IsOld bytes = (list : List Choice) × StoredOne list bytes

-- what is answered for an entry: its list and whether it is old, or that it unpacks to none
abbrev pub IsUnpacked : List ℕ → Option Unpacked → Type 0
IsUnpacked bytes None = (list : List Choice) → Unpacks bytes list → ⊥
IsUnpacked bytes (Some entry) = Unpacks bytes entry.list × ((entry.old ≡ true) ↔ IsOld bytes)
