-- The text of which choices of a failure matter.
use Rattle.std.specs.Prelude.{◌≡◌, ℕ, ◌+◌, Bool, true, false, Option, Some, None, List, [], ◌∷◌, ◌++◌, codes, ⊤}
use Rattle.std.specs.List.{concat}
use Rattle.std.specs.Fmt.{decimal}
use Rattle.pt_choice.specs.Limits.{IsInLimits}
use Rattle.pt_choice.specs.declared.choice.Choice.{Choice}
use Rattle.pt_wire.specs.Printed.{PrintedChoice}
use Rattle.pt_case.specs.declared.record.Record.{Record}
use Rattle.pt_explain.specs.declared.explained.Explained.{Explained}
use Rattle.pt_explain.specs.declared.mark.Mark.{Mark}
use Rattle.pt_explain.specs.declared.mark.Mark.TheVariants.{Free, Bound, Untried}
use Rattle.pt_report.specs.Report.{IsReplay, line}

-- the choice in the mark, if there is one, has a spelling
abbrev pub IsPrintable : Mark → Type 0
IsPrintable (Free tried) = ⊤
IsPrintable (Bound by) = IsInLimits by
IsPrintable Untried = ⊤

-- what a mark says of its choice
abbrev pub IsMarkText : Mark → List ℕ → Type 0
IsMarkText (Free tried) text = text ≡ concat (codes "free, " ∷ decimal tried ∷ codes " tried" ∷ [])
IsMarkText (Bound by) text = (printed : List ℕ) × PrintedChoice by printed × (text ≡ codes "bound by " ++ printed)
IsMarkText Untried text = text ≡ codes "untried"

-- the line of a place: its number, its choice, and what the mark says of it
abbrev pub IsMarkLine : ℕ → Choice → Mark → List ℕ → Type 0
IsMarkLine place choice mark text =
    (printed said : List ℕ) × PrintedChoice choice printed × IsMarkText mark said
    × (text ≡ line (codes "  " ∷ decimal place ∷ codes ": " ∷ printed ∷ codes " " ∷ said ∷ []))

-- the lines of all places from this one on, in order
abbrev pub AreMarkLines : ℕ → List Choice → List Mark → List ℕ → Type 0
AreMarkLines place [] [] text = text ≡ []
AreMarkLines place (choice ∷ choices) (mark ∷ marks) text =
    (one rest : List ℕ) × IsMarkLine place choice mark one × AreMarkLines (place + 1) choices marks rest × (text ≡ one ++ rest)
AreMarkLines place choices marks text = ⊥

-- whether all free choices together fail alike, where any is free
abbrev pub together_line : Option Bool → List ℕ
together_line None = []
together_line (Some true) = line (codes "  together: fails alike" ∷ [])
together_line (Some false) = line (codes "  together: differs" ∷ [])

-- what an explanation of a failure shows: what a replay shows, the line of each choice with its mark, and what is said of all free ones
abbrev pub IsExplanation : List ℕ → Record → Explained → List ℕ → Type 0
IsExplanation name rec explained text =
    (shown lines : List ℕ) × IsReplay name rec shown × AreMarkLines 0 rec.choices explained.marks lines
    × (text ≡ shown ++ (lines ++ together_line explained.together))
