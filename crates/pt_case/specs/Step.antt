-- What a check means: its answer to each list of choices.
use Rattle.std.specs.Prelude.{◌≡◌, ℕ, ◌≤◌, true, Option, Some, None, List, length, take, slice_get}
use Rattle.pt_choice.specs.Kind.{admits}
use Rattle.pt_choice.specs.declared.choice.Choice.{Choice}
use Rattle.pt_choice.specs.declared.kind.Shape.{Shape}
use Rattle.pt_case.specs.declared.ending.Ending.{Ending}
use Rattle.pt_case.specs.declared.span.Span.{Span}
use Rattle.pt_case.specs.declared.note.Note.{Note}

-- A check asks for a choice of a kind, or it ends, or it has entered 1,024 spans and wants one more. The spans and the notes are
-- those made so far, and a span that is still open ends after the last choice.
pub data Answer : Type 0 where
  Ask : (kind : Shape) (spans : List Span) (notes : List Note) → Answer
  End : (ending : Ending) (spans : List Span) (notes : List Note) → Answer
  Cut : (spans : List Span) (notes : List Note) → Answer

-- the kind that is asked for, if one is
abbrev pub kind_asked : Answer → Option Shape
kind_asked (Ask kind spans notes) = Some kind
kind_asked (End ending spans notes) = None
kind_asked (Cut spans notes) = None

-- the check's one answer after these choices
pub record Says (step : List Choice → Answer → Type 0) (path : List Choice) (answer : Answer) : Type 0 where
  pub said : step path answer
  pub only : (other : Answer) → step path other → other ≡ answer

-- after these choices the check asks for a choice of this kind
abbrev pub AsksFor : (List Choice → Answer → Type 0) → List Choice → Shape → Type 0
AsksFor step path kind = (spans : List Span) × (notes : List Note) × Says step path (Ask kind spans notes)

-- after the first i choices the check asks for the i-th of these kinds, and the path's choice is admitted
pub record IsAsked (step : List Choice → Answer → Type 0) (path : List Choice) (kinds : List Shape) : Type 0 where
  pub as_many : length kinds ≡ length path
  pub short : length path ≤ 256
  pub each : (i : ℕ) (kind : Shape) (choice : Choice) → slice_get kinds i ≡ Some kind → slice_get path i ≡ Some choice →
      (admits kind choice ≡ true) × AsksFor step (take i path) kind
