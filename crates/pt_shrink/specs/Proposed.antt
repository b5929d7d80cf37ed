-- What proposers hand out.
use Rattle.std.specs.Prelude.{◌≡◌, ℕ, ◌-◌, false, List, length}
use Rattle.std.specs.List.{Contains}
use Rattle.pt_choice.specs.declared.choice.Choice.{Choice}
use Rattle.pt_case.specs.declared.record.Record.{Record}
use Rattle.pt_cand.specs.Candidates.{IsCandidate}
use Rattle.pt_shrink.specs.declared.slots.Proposal.{Proposal}
use Rattle.pt_shrink.specs.declared.slots.Slots.{Slots}
use Rattle.pt_shrink.specs.declared.slots.Slots.TheVariants.{Listed, Varied}

-- it is a candidate, or is said to be a stranger
abbrev pub IsHonest : Record → Proposal → Type 0
IsHonest best proposal = proposal.stranger ≡ false → IsCandidate best proposal.list

-- what is still to come of a pass are candidates
abbrev pub AreHonest : Record → Slots → Type 0
AreHonest best (Listed walk) = (list : List Choice) → Contains walk list → IsCandidate best list
AreHonest best (Varied variations) = Unit {0}

-- at most so many slots are left
abbrev pub slots_left : Slots → ℕ
slots_left (Listed walk) = length walk
slots_left (Varied variations) = length variations.all.items - variations.next
