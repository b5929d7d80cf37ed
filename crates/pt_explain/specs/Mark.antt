-- Which choices of a failing record matter.
use Rattle.std.specs.Prelude.{◌≡◌, ◌⊎◌, ℕ, ◌+◌, ◌≤◌, Some, List, [], ◌∷◌, ◌++◌, length, slice_get}
use Rattle.pt_choice.specs.declared.choice.Choice.{Choice}
use Rattle.pt_case.specs.Step.{Answer}
use Rattle.pt_case.specs.declared.record.Record.{Record}
use Rattle.pt_explain.specs.declared.mark.Mark.{Mark}
use Rattle.pt_explain.specs.declared.mark.Mark.TheVariants.{Free, Bound, Untried}
use Rattle.pt_explain.specs.Others.{others}
use Rattle.pt_explain.specs.Replaced.{IsRepaired, FailsAlike, Differs}

-- each of these members that counts fails alike, and so many count
abbrev pub AllAlike : (List Choice → Answer → Type 0) → Record → ℕ → List Choice → ℕ → Type 0
AllAlike step best place [] tried = tried ≡ 0
AllAlike step best place (member ∷ members) tried =
    (IsRepaired step best place member × AllAlike step best place members tried)
    ⊎ (FailsAlike step best place member × (fewer : ℕ) × (tried ≡ fewer + 1) × AllAlike step best place members fewer)

-- the first of these members that counts and does not fail alike has this choice
pub record IsBound (step : List Choice → Answer → Type 0) (best : Record) (place : ℕ) (members : List Choice) (by : Choice) : Type 0 where
  pub front : List Choice
  pub member : Choice
  pub back : List Choice
  pub split : members ≡ front ++ member ∷ back
  pub tried : ℕ
  pub earlier : AllAlike step best place front tried
  pub differs : Differs step best place member by

-- the mark of a place where these members are tried
abbrev pub IsMark : (List Choice → Answer → Type 0) → Record → ℕ → List Choice → Mark → Type 0
IsMark step best place members Untried = AllAlike step best place members 0
IsMark step best place members (Free tried) = (1 ≤ tried) × AllAlike step best place members tried
IsMark step best place members (Bound by) = IsBound step best place members by

-- one mark for each place, by the members that are tried in place of the choice there
pub record AreMarks (step : List Choice → Answer → Type 0) (best : Record) (marks : List Mark) : Type 0 where
  pub as_many : length marks ≡ length best.choices
  pub each : (place : ℕ) (given : Choice) (mark : Mark) → slice_get best.choices place ≡ Some given → slice_get marks place ≡ Some mark →
      IsMark step best place (others given) mark
