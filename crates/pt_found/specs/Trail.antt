-- What a trail of tried lists says, read from its front.
use Rattle.std.specs.Prelude.{◌≡◌, ◌⊎◌, ◌≤◌, ℕ, suc, ◌*◌, true, false, List, [], ◌∷◌, ◌++◌, map, length}
use Rattle.std.specs.List.{Contains, count_by}
use Rattle.pt_choice.specs.declared.choice.Choice.{Choice}
use Rattle.pt_case.specs.Step.{Answer}
use Rattle.pt_case.specs.Better.{IsBetter}
use Rattle.pt_case.specs.declared.record.Record.{Record}
use Rattle.pt_cand.specs.Candidates.{IsCandidate}
use Rattle.pt_found.specs.Tried.{Tried}

-- the lists in order
abbrev pub lists_of : List Tried → List (List Choice)
lists_of trail = map (λ entry. entry.list) trail

-- how many entries are marked accepted
abbrev pub accepted_in : List Tried → ℕ
accepted_in trail = count_by (λ entry. entry.accepted) trail

-- no list is one of these, or of those before it
abbrev pub AreNew : List (List Choice) → List (List Choice) → Type 0
AreNew seen [] = Unit {0}
AreNew seen (list ∷ lists) = (¬ Contains seen list) × AreNew (seen ++ list ∷ []) lists

-- The trail leads from the one record to the other. A list that is better than the best so far is marked accepted, and its record
-- is the best from then on; the others are not marked. No more than so many of these were no candidates of the best so far.
abbrev pub Leads : (List Choice → Answer → Type 0) → Record → List Tried → ℕ → Record → Type 0
Leads step best [] strangers last = last ≡ best
Leads step best (entry ∷ trail) strangers last =
    ((better : IsBetter step entry.list best) × (entry.accepted ≡ true) × Leads step better.rec trail strangers last)
    ⊎ (((¬ IsBetter step entry.list best) × (entry.accepted ≡ false) × IsCandidate best entry.list × Leads step best trail strangers last)
    ⊎ ((¬ IsBetter step entry.list best) × (entry.accepted ≡ false) × ((fewer : ℕ) × (strangers ≡ suc fewer) × Leads step best trail fewer last)))

-- A legal trail, and the best record that it leaves of the first.
pub record IsLegal (step : List Choice → Answer → Type 0) (budget : ℕ) (first : Record) (trail : List Tried) (best : Record) : Type 0 where
  pub once : AreNew [] (lists_of trail)
  pub short : length trail ≤ budget
  pub strangers : ℕ
  pub leads : Leads step first trail strangers best
  pub few : strangers ≤ 20 * accepted_in trail

-- the budget is used up, and a candidate of the best was not tried
abbrev pub IsSpent : ℕ → List Tried → Record → Type 0
IsSpent budget trail best =
    (length trail ≡ budget) × ((list : List Choice) × IsCandidate best list × (¬ Contains (lists_of trail) list))
