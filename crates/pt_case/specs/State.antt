-- What a case has come to while its run goes.
use Rattle.std.specs.Prelude.{◌≡◌, ◌⊎◌, ◌<◌, ◌≤◌, ℕ, true, Option, Some, None, is_some, List, [], ◌∷◌, ◌++◌, length}
use Rattle.std.specs.Option.{option_or}
use Rattle.pt_choice.specs.Kind.{admits}
use Rattle.pt_choice.specs.declared.choice.Choice.{Choice}
use Rattle.pt_choice.specs.declared.kind.Shape.{Shape}
use Rattle.pt_case.specs.declared.note.Note.{Note}
use Rattle.pt_case.specs.declared.region.Region.{Region}
use Rattle.pt_case.specs.declared.refused.Refused.{Refused}
use Rattle.pt_case.specs.Source.{Source, Listed, answer_to, left_after}
use Rattle.pt_case.specs.Region.{innermost, leave_innermost}

-- where the next answers come from, what was made so far, and what the case refused, if it did
pub record State : Type 0 where
  pub left : Source
  pub choices : List Choice
  pub regions : List Region
  pub notes : List Note
  pub refused : Option Refused

-- nothing was asked, entered or noted yet
abbrev pub new_state : Source → State
new_state source = record { left = source; choices = []; regions = []; notes = []; refused = None }

-- nothing was asked, entered or noted yet
pub record IsNew (case : State) : Type 0 where
  pub no_choices : case.choices ≡ []
  pub no_regions : case.regions ≡ []
  pub no_notes : case.notes ≡ []
  pub going : case.refused ≡ None

-- no question is answered any more
abbrev pub IsOver : State → Type 0
IsOver case = (is_some case.refused ≡ true) ⊎ ((case.left ≡ Listed []) ⊎ (256 ≤ length case.choices))

-- no span is entered any more
abbrev pub IsFilled : State → Type 0
IsFilled case = (is_some case.refused ≡ true) ⊎ (length case.regions ≡ 1024)

-- the case after this choice answered a question of this kind
abbrev pub after_draw : State → Shape → Choice → State
after_draw case kind choice = record case { left = left_after case.left kind; choices = case.choices ++ choice ∷ [] }

-- the case after a span of this label was entered, below the innermost open one
abbrev pub after_enter : State → ℕ → State
after_enter case label = record case {
  regions = case.regions
      ++ record { label = label; from = length case.choices; to = None; parent = innermost case.regions } ∷ [];
}

-- the case after its innermost open span was left, which ends after the last choice
abbrev pub after_leave : State → State
after_leave case = record case { regions = leave_innermost (length case.choices) case.regions }

-- the case after this note
abbrev pub after_note : State → Note → State
after_note case note = record case { notes = case.notes ++ note ∷ [] }

-- the case after it refused this; what it refused first stays
abbrev pub stopped_at : State → Refused → State
stopped_at case refused = record case { refused = option_or case.refused (Some refused) }

-- a question of this kind was answered by this choice
pub record Answered (old : State) (kind : Shape) (choice : Choice) (new : State) : Type 0 where
  pub answer : answer_to old.left kind ≡ Some choice
  pub admitted : admits kind choice ≡ true
  pub room : length old.choices < 256
  pub going : old.refused ≡ None
  pub kept : new ≡ after_draw old kind choice

-- a span of this label was entered
pub record Entered (old : State) (label : ℕ) (new : State) : Type 0 where
  pub room : length old.regions < 1024
  pub going : old.refused ≡ None
  pub kept : new ≡ after_enter old label
