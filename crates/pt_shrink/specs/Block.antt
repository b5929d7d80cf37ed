-- A block of lists that are tried side by side.
use Rattle.std.specs.Prelude.{◌≡◌, ◌≤◌, ℕ, Bool, false, List, [], ◌∷◌}
use Rattle.std.specs.List.{count_by}
use Rattle.pt_choice.specs.declared.choice.Choice.{Choice}
use Rattle.pt_case.specs.declared.record.Record.{Record}
use Rattle.pt_cand.specs.Candidates.{IsCandidate}
use Rattle.pt_found.specs.Trail.{lists_of, AreNew}
use Rattle.pt_shrink.specs.declared.log.Log.{Log}
use Rattle.pt_shrink.specs.declared.block.Block.{Block}

-- each list has a mark, and is a candidate where it is not marked as a stranger
abbrev pub AreMarked : Record → List (List Choice) → List Bool → Type 0
AreMarked best [] marks = marks ≡ []
AreMarked best (list ∷ lists) [] = ⊥
AreMarked best (list ∷ lists) (stranger ∷ marks) = (stranger ≡ false → IsCandidate best list) × AreMarked best lists marks

-- how many are marked as strangers
abbrev pub strangers_in : List Bool → ℕ
strangers_in marks = count_by (λ stranger. stranger) marks

-- The lists may be tried together: none was tried, none stands twice, and all their strangers may be tried in vain.
pub record IsBlock (best : Record) (log : Log) (block : Block) : Type 0 where
  pub new : AreNew (lists_of log.trail) block.lists
  pub marked : AreMarked best block.lists block.marks
  pub counted : block.strangers ≡ strangers_in block.marks
  pub few : block.strangers ≤ log.allowed
