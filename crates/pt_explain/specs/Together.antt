-- All free choices replaced at once.
use Rattle.std.specs.Prelude.{◌≡◌, ◌↔◌, IsTrue, ℕ, Bool, true, false, Option, Some, None, List, ◌∷◌, ◌++◌, length, slice_get}
use Rattle.std.specs.List.{list_any}
use Rattle.pt_choice.specs.declared.choice.Choice.{Choice}
use Rattle.pt_case.specs.Step.{Answer}
use Rattle.pt_case.specs.Run.{IsRecord}
use Rattle.pt_case.specs.declared.record.Record.{Record}
use Rattle.pt_explain.specs.declared.mark.Mark.{Mark}
use Rattle.pt_explain.specs.declared.mark.Mark.TheVariants.{Free, Bound, Untried}
use Rattle.pt_explain.specs.Others.{others}
use Rattle.pt_explain.specs.Replaced.{Counts}
use Rattle.pt_explain.specs.Mark.{AllAlike}

-- this is the first of the members that counts
pub record IsFirst (step : List Choice → Answer → Type 0) (best : Record) (place : ℕ) (members : List Choice) (member : Choice) : Type 0 where
  pub front : List Choice
  pub back : List Choice
  pub split : members ≡ front ++ member ∷ back
  pub earlier : AllAlike step best place front 0
  pub rec : Record
  pub choice : Choice
  pub counts : Counts step best place member rec choice

-- At a free place the first member that counts stands, as it was tried, and elsewhere the choice itself.
abbrev pub StandsAt : (List Choice → Answer → Type 0) → Record → ℕ → Choice → Mark → Choice → Type 0
StandsAt step best place given (Free tried) choice = IsFirst step best place (others given) choice
StandsAt step best place given (Bound by) choice = choice ≡ given
StandsAt step best place given Untried choice = choice ≡ given

-- the choices with all free ones replaced
pub record IsTogether (step : List Choice → Answer → Type 0) (best : Record) (marks : List Mark) (list : List Choice) : Type 0 where
  pub as_long : length list ≡ length best.choices
  pub each : (place : ℕ) (given : Choice) (mark : Mark) (choice : Choice) → slice_get best.choices place ≡ Some given →
      slice_get marks place ≡ Some mark → slice_get list place ≡ Some choice → StandsAt step best place given mark choice

abbrev pub is_free : Mark → Bool
is_free (Free tried) = true
is_free (Bound by) = false
is_free Untried = false

-- the record of the choices with all free ones replaced fails with the same origin, or it does not
pub record SaysTogether (step : List Choice → Answer → Type 0) (best : Record) (marks : List Mark) (alike : Bool) : Type 0 where
  pub list : List Choice
  pub replaced : IsTogether step best marks list
  pub rec : Record
  pub is : IsRecord step list rec
  pub says : IsTrue alike ↔ (rec.ending ≡ best.ending)

-- none where no choice is free, and else whether all free ones together fail alike
abbrev pub AreTogether : (List Choice → Answer → Type 0) → Record → List Mark → Option Bool → Type 0
AreTogether step best marks None = list_any is_free marks ≡ false
AreTogether step best marks (Some alike) = (list_any is_free marks ≡ true) × SaysTogether step best marks alike
