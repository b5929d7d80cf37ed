-- The marks of a failure can be printed.
use Rattle.std.proofs.Common.{◌≡◌, ℕ, false, List, length, get_or, Some, subst, arith}
use Rattle.std.specs.Prelude.{All, Option, None, IfSome}
use Rattle.std.proofs.lemmas.Option.{slice_get_within, slice_get-get_or, get_or_from_slice_get}
use Rattle.pt_choice.specs.Limits.{IsInLimits}
use Rattle.pt_choice.specs.declared.choice.Choice.{Choice}
use Rattle.pt_choice.specs.declared.choice.Choice.TheVariants as choice
use Rattle.pt_case.specs.Step.{Answer}
use Rattle.pt_case.specs.declared.record.Record.{Record}
use Rattle.pt_explain.specs.Mark.{IsMark, AreMarks}
use Rattle.pt_explain.specs.Others.{others}
use Rattle.pt_explain.specs.declared.explained.Explained.{Explained}
use Rattle.pt_explain.specs.declared.mark.Mark.{Mark}
use Rattle.pt_explain.specs.declared.mark.Mark.TheVariants.{Free, Bound, Untried}
use Rattle.pt_report.specs.Explaining.{IsPrintable}

-- the choice in a mark stands in a record
printable_mark : (step : List Choice → Answer → Type 0) (best : Record) (place : ℕ) (members : List Choice) (mark : Mark) →
    IsMark step best place members mark → IsPrintable mark
printable_mark step best place members (Free tried) is = tt
printable_mark step best place members Untried is = tt
printable_mark step best place members (Bound by) is =
    let rec = is.differs.rec in
    let there = is.differs.counts.moved.there in
    subst IsInLimits (get_or_from_slice_get rec.choices place by by there) (rec.in_limits place by (slice_get_within rec.choices place by there))

pub printable : (step : List Choice → Answer → Type 0) (best : Record) (marks : List Mark) → AreMarks step best marks → All IsPrintable marks
printable step best marks are place other within =
    let given = slice_get-get_or best.choices place (choice.Bool false) (omega (arith, within, are.as_many)) in
    printable_mark step best place (others (get_or best.choices place (choice.Bool false))) (get_or marks place other)
    (are.each place (get_or best.choices place (choice.Bool false)) (get_or marks place other) given (slice_get-get_or marks place other within))

-- so what is found out of a record can be told
pub tellable : (step : List Choice → Answer → Type 0) (best : Record) (explained : Option Explained) →
    IfSome explained (λ e. AreMarks step best e.marks) → IfSome explained (λ e. (length e.marks ≡ length best.choices) × All IsPrintable e.marks)
tellable step best None are = tt
tellable step best (Some e) are = (are.as_many, printable step best e.marks are)
