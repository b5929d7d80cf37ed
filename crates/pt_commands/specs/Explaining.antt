-- What is found out of the choices of a list.
use Rattle.std.specs.Prelude.{◌≡◌, ◌↔◌, ℕ, true, List, Option, IsSome, IfSome, MatchOption}
use Rattle.pt_choice.specs.declared.choice.Choice.{Choice}
use Rattle.pt_case.specs.Ending.{is_failure}
use Rattle.pt_case.specs.Run.{IsRecord}
use Rattle.pt_case.specs.Step.{Answer}
use Rattle.pt_case.specs.declared.record.Record.{Record}
use Rattle.pt_explain.specs.Mark.{AreMarks}
use Rattle.pt_explain.specs.Together.{AreTogether}
use Rattle.pt_explain.specs.declared.explained.Explained.{Explained}
use Rattle.pt_report.specs.Explaining.{IsExplanation}
use Rattle.pt_report.specs.Report.{IsReplay}

-- This is the record of the list, and where it fails, and there alone, its choices are marked.
pub record IsExplained (step : List Choice → Answer → Type 0) (list : List Choice) (rec : Record) (explained : Option Explained) : Type 0 where
  pub is : IsRecord step list rec
  pub there : IsSome explained ↔ (is_failure rec.ending ≡ true)
  pub marks : IfSome explained (λ e. AreMarks step rec e.marks)
  pub together : IfSome explained (λ e. AreTogether step rec e.marks e.together)

-- the text of a replay, and of a failure the marks besides
abbrev pub IsExplaining : List ℕ → Record → Option Explained → List ℕ → Type 0
IsExplaining name rec explained text = MatchOption explained (IsReplay name rec text) (λ e. IsExplanation name rec e text)
