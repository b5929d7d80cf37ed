-- The first of several lists that is better than a record.
use Rattle.std.specs.Prelude.{◌≡◌, ◌⊎◌, ◌<◌, ◌≤◌, ℕ, Option, Some, None, List, length, slice_get}
use Rattle.pt_choice.specs.declared.choice.Choice.{Choice}
use Rattle.pt_case.specs.Step.{Answer}
use Rattle.pt_case.specs.Run.{IsRecord}
use Rattle.pt_case.specs.Better.{IsBetter}
use Rattle.pt_case.specs.declared.record.Record.{Record}
use Rattle.pt_par.specs.declared.hit.Hit.{Hit}

-- the record of a list that is better; none where it is not
abbrev pub IsBetterRecord : (List Choice → Answer → Type 0) → List Choice → Record → Option Record → Type 0
IsBetterRecord step list best None = ¬ IsBetter step list best
IsBetterRecord step list best (Some rec) = IsRecord step list rec × IsBetter step list best

module _ (step : List Choice → Answer → Type 0) (best : Record) (lists : List (List Choice)) where
  -- the list at this place is better
  abbrev pub IsBetterAt : ℕ → Type 0
  IsBetterAt place = (list : List Choice) × (slice_get lists place ≡ Some list) × IsBetter step list best

  -- a place whose list is better, with the list's record
  pub record IsHit (hit : Hit) : Type 0 where
    pub list : List Choice
    pub stands : slice_get lists hit.at ≡ Some list
    pub is : IsRecord step list hit.rec
    pub better : IsBetter step list best

  -- the least place whose list is better, with its record; none where no list is better
  abbrev pub IsLeast : Option Hit → Type 0
  IsLeast None = (place : ℕ) → ¬ IsBetterAt place
  IsLeast (Some hit) = IsHit hit × ((place : ℕ) → place < hit.at → ¬ IsBetterAt place)

  -- what the word may hold that workers share: the number of lists, or a place whose list is better
  abbrev pub MayHold : ℕ → Type 0
  MayHold word = (word ≡ length lists) ⊎ IsBetterAt word

  -- the place's list is not better, or a list before it is
  abbrev pub IsSettled : ℕ → Type 0
  IsSettled place = (¬ IsBetterAt place) ⊎ ((lower : ℕ) × (lower < place) × IsBetterAt lower)

  -- a hit, if there is one, and each of these places before it is settled
  abbrev pub Covers : (ℕ → Type 0) → Option Hit → Type 0
  Covers Mine None = (place : ℕ) → Mine place → IsSettled place
  Covers Mine (Some hit) = IsHit hit × ((place : ℕ) → Mine place → place < hit.at → IsSettled place)

-- of two hits the one at the lower place, or the one that there is
abbrev pub IsEarlier : Option Hit → Option Hit → Option Hit → Type 0
IsEarlier None other hit = hit ≡ other
IsEarlier (Some one) None hit = hit ≡ Some one
IsEarlier (Some one) (Some other) hit = ((one.at ≤ other.at) × (hit ≡ Some one)) ⊎ ((other.at ≤ one.at) × (hit ≡ Some other))
