-- What a reader of lists of choices may answer.
use Rattle.std.specs.Prelude.{◌≡◌, ℕ, ◌<◌, ◌≤◌, MatchBool, List, length, Result, Ok, Err}
use Rattle.pt_choice.specs.declared.choice.Choice.{Choice}
use Rattle.pt_wire.specs.declared.fault.WireFault.{WireFault}
use Rattle.pt_wire.specs.declared.fault.WireFault.TheVariants as fault
use Rattle.pt_wire.specs.declared.fault.Stop.{Stop}
use Rattle.pt_wire.specs.declared.fault.Stop.TheVariants as stop
use Rattle.pt_wire.specs.declared.gathered.Gathered.{Gathered}
use Rattle.pt_wire.specs.Spelling.{FailsAt}

-- reading stopped at the place where it fails, or for want of memory
abbrev pub StopsAt : {A : Type 0} → (A → List ℕ → Type 0) → List ℕ → Stop → Type 0
StopsAt Spells bytes (stop.At place) = FailsAt Spells bytes place
StopsAt Spells bytes stop.NoMemory = Unit {0}

-- What a reader answers for these bytes: the list that they spell, that they spell one of more than 256 choices, or
-- the place from which they spell none. Want of memory may come at any time.
abbrev pub Reads : (List Choice → List ℕ → Type 0) → List ℕ → Result (List Choice) WireFault → Type 0
Reads Spells bytes (Ok list) = Spells list bytes × (length list ≤ 256)
Reads Spells bytes (Err fault.TooLong) = (list : List Choice) × Spells list bytes × (256 < length list)
Reads Spells bytes (Err (fault.NotSpelling place)) = FailsAt Spells bytes place
Reads Spells bytes (Err fault.NoMemory) = Unit {0}

-- what may be answered for bytes that spell this list
abbrev pub IsAnswerFor : List Choice → Result (List Choice) WireFault → Type 0
IsAnswerFor list (Ok found) = (found ≡ list) × (length list ≤ 256)
IsAnswerFor list (Err fault.TooLong) = 256 < length list
IsAnswerFor list (Err (fault.NotSpelling place)) = ⊥
IsAnswerFor list (Err fault.NoMemory) = Unit {0}

-- all of these choices were gathered: they are kept, or they are more than 256
abbrev pub IsGathered : List Choice → Gathered → Type 0
IsGathered all gathered = MatchBool gathered.too_long (256 < length all) ((all ≡ gathered.list) × (length all ≤ 256))
