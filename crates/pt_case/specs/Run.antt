-- What a run of a check leaves.
use Rattle.std.specs.Prelude.{◌≡◌, ◌⊎◌, ◌≤◌, false, Option, Some, None, List, [], length}
use Rattle.pt_choice.specs.declared.choice.Choice.{Choice}
use Rattle.pt_choice.specs.declared.kind.Shape.{Shape}
use Rattle.pt_rng.specs.Supplied.{Supplied}
use Rattle.pt_case.specs.declared.ending.Ending.{Ending}
use Rattle.pt_case.specs.declared.ending.Ending.TheVariants.{Overrun}
use Rattle.pt_case.specs.declared.span.Span.{Span}
use Rattle.pt_case.specs.declared.note.Note.{Note}
use Rattle.pt_case.specs.declared.record.Record.{Record}
use Rattle.pt_case.specs.declared.refused.Refused.{Refused}
use Rattle.pt_case.specs.declared.refused.Refused.TheVariants.{Question, Entry}
use Rattle.pt_case.specs.Ending.{is_overrun}
use Rattle.pt_case.specs.Source.{Source, Listed, Fresh, AnswersAll}
use Rattle.pt_case.specs.Region.{spans_at}
use Rattle.pt_case.specs.Step.{Answer, Ask, End, Cut, Says, IsAsked, kind_asked}
use Rattle.pt_case.specs.State.{State}

-- the path goes no further: the check ends; or it wants a span more than 1,024; or the list is used up, or 256 choices were made
abbrev pub IsWhole : List Choice → Source → Answer → Type 0
IsWhole path left (Ask kind spans notes) = (left ≡ Listed []) ⊎ (256 ≤ length path)
IsWhole path left (End ending spans notes) = Unit {0}
IsWhole path left (Cut spans notes) = length spans ≡ 1024

-- The path that the check goes where its questions are answered by the source, as far as it goes. This is left of the source
-- then, and this is the check's answer after the whole path.
pub record IsFollowed (step : List Choice → Answer → Type 0) (source : Source) (path : List Choice) (left : Source) (answer : Answer) : Type 0 where
  pub kinds : List Shape
  pub asked : IsAsked step path kinds
  pub answered : AnswersAll source kinds path left
  pub says : Says step path answer
  pub whole : IsWhole path left answer

-- A run that came to this answer has its spans and notes, and ended as it says; where it does not end, with Overrun. A check that
-- says Overrun by itself has no ending.
abbrev pub Shows : Answer → Ending → List Span → List Note → Type 0
Shows (Ask kind said noted) ending spans notes = (ending ≡ Overrun) × (spans ≡ said) × (notes ≡ noted)
Shows (Cut said noted) ending spans notes = (ending ≡ Overrun) × (spans ≡ said) × (notes ≡ noted)
Shows (End ended said noted) ending spans notes = (is_overrun ended ≡ false) × (ending ≡ ended) × (spans ≡ said) × (notes ≡ noted)

-- what the case refuses where the check's last answer is this
abbrev pub refused_at : Answer → Option Refused
refused_at (Ask kind spans notes) = Some (Question kind)
refused_at (Cut spans notes) = Some Entry
refused_at (End ending spans notes) = None

-- From the one state to the other the check ran to this ending.
pub record Ran (step : List Choice → Answer → Type 0) (old new : State) (ending : Ending) : Type 0 where
  pub answer : Answer
  pub followed : IsFollowed step old.left new.choices new.left answer
  pub shown : Shows answer ending (spans_at (length new.choices) new.regions) new.notes
  pub refused : new.refused ≡ refused_at answer

-- the record of the check's run over a source
pub record IsRecordOver (step : List Choice → Answer → Type 0) (source : Source) (rec : Record) : Type 0 where
  pub left : Source
  pub answer : Answer
  pub followed : IsFollowed step source rec.choices left answer
  pub shown : Shows answer rec.ending rec.spans rec.notes

-- the record of a list
abbrev pub IsRecord : (List Choice → Answer → Type 0) → List Choice → Record → Type 0
IsRecord step list rec = IsRecordOver step (Listed list) rec

-- the record of the run over a supply
abbrev pub IsRun : (List Choice → Answer → Type 0) → Supplied → Record → Type 0
IsRun step supply rec = IsRecordOver step (Fresh supply) rec

-- after the choices of the list's record the check asks for this kind, or it asks for none
pub record AsksAfter (step : List Choice → Answer → Type 0) (list : List Choice) (asked : Option Shape) : Type 0 where
  pub path : List Choice
  pub left : Source
  pub answer : Answer
  pub followed : IsFollowed step (Listed list) path left answer
  pub kind : asked ≡ kind_asked answer
