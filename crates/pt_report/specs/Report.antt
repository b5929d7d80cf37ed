-- The texts of findings and of replays.
use Rattle.std.specs.Prelude.{◌≡◌, ℕ, Bool, List, [], ◌∷◌, ◌++◌, length, sum_by, codes, if◌then◌else◌}
use Rattle.std.specs.List.{concat, flat_map}
use Rattle.std.specs.Fmt.{decimal}
use Rattle.pt_val.specs.Text.{text_of}
use Rattle.pt_val.specs.declared.place.Place.{Place}
use Rattle.pt_wire.specs.Printed.{Printed}
use Rattle.pt_case.specs.declared.ending.Ending.{Ending}
use Rattle.pt_case.specs.declared.ending.Ending.TheVariants as ending
use Rattle.pt_case.specs.declared.ending.Origin.{Origin}
use Rattle.pt_case.specs.declared.ending.Origin.TheVariants.{Suite, Point}
use Rattle.pt_case.specs.declared.ending.What.{What}
use Rattle.pt_case.specs.declared.ending.What.TheVariants.{Assert, Invariant, Overflow, Division, Index, Cost, Bounds}
use Rattle.pt_case.specs.declared.note.Note.{Note}
use Rattle.pt_case.specs.declared.record.Record.{Record}
use Rattle.pt_found.specs.declared.finding.Finding.{Finding}
use Rattle.pt_found.specs.declared.finding.Found.{Found}
use Rattle.pt_found.specs.declared.finding.Found.TheVariants.{Stored, Run}
use Rattle.pt_found.specs.declared.finding.Verdict.{Verdict}
use Rattle.pt_found.specs.declared.finding.Verdict.TheVariants.{Passed, GaveUp, Failed}
use Rattle.pt_report.specs.Sorts.{has_passed, has_failed, has_given_up, how_many}

-- these pieces, one after another, and a line feed
abbrev pub line : List (List ℕ) → List ℕ
line pieces = concat pieces ++ 10 ∷ []

-- a place of a text, as `L:C`
abbrev pub place_text : Place → List ℕ
place_text place = concat (decimal place.line ∷ codes ":" ∷ decimal place.column ∷ [])

-- the word for what went wrong at a place of a suite
abbrev pub what_text : What → List ℕ
what_text Assert = codes "assert"
what_text Invariant = codes "invariant"
what_text Overflow = codes "overflow"
what_text Division = codes "division"
what_text Index = codes "index"
what_text Cost = codes "cost"
what_text Bounds = codes "bounds"

-- where a failure comes from: `L:C (WORD)` or `point K`
abbrev pub origin_text : Origin → List ℕ
origin_text (Suite what place) = concat (place_text place ∷ codes " (" ∷ what_text what ∷ codes ")" ∷ [])
origin_text (Point point) = codes "point " ++ decimal point

-- how a case ended
abbrev pub ending_text : Ending → List ℕ
ending_text ending.Pass = codes "passed"
ending_text ending.Reject = codes "rejected"
ending_text ending.Overrun = codes "overrun"
ending_text (ending.Fail origin) = codes "failed at " ++ origin_text origin

-- the line of a note
abbrev pub note_line : Note → List ℕ
note_line note = line (codes "  " ∷ note.name ∷ codes " = " ∷ text_of note.val ∷ [])

-- What is shown of a record: the line of each note, in order, and then that of the choices.
pub record AreShown (rec : Record) (text : List ℕ) : Type 0 where
  pub choices : List ℕ
  pub printed : Printed rec.choices choices
  pub is : text ≡ flat_map note_line rec.notes ++ line (codes "  choices: " ∷ choices ∷ [])

-- the line on where a failure was found
abbrev pub found_line : Found → List ℕ
found_line Stored = line (codes "  found in the database" ∷ [])
found_line (Run run) = line (codes "  found in run " ∷ decimal run ∷ [])

-- how far a failure was reduced: as far as the passes go, or until the budget was spent
abbrev pub reduced_text : Bool → ℕ → List ℕ
reduced_text spent budget = if spent then concat (codes "budget of " ∷ decimal budget ∷ codes " spent" ∷ []) else codes "minimal"

-- the first line of a failure
abbrev pub failed_line : Finding → Record → Bool → List ℕ
failed_line finding shown spent =
    line (finding.name ∷ codes ": " ∷ ending_text shown.ending ∷ codes ", " ∷ reduced_text spent finding.budget ∷ [])

-- the lines of one finding, with its verdict
abbrev pub IsVerdict : Finding → Verdict → List ℕ → Type 0
IsVerdict finding Passed text = text ≡ line (finding.name ∷ codes ": passed, " ∷ decimal finding.valid ∷ codes " valid" ∷ [])
IsVerdict finding GaveUp text =
    text ≡ line (finding.name ∷ codes ": gave up, " ∷ decimal finding.valid ∷ codes " of " ∷ decimal finding.runs
    ∷ codes " valid in " ∷ decimal finding.seen ∷ codes " runs" ∷ [])
IsVerdict finding (Failed shown found spent) text =
    (lines : List ℕ) × AreShown shown lines × (text ≡ failed_line finding shown spent ++ (found_line found ++ lines))

-- the lines of one finding
abbrev pub IsBlock : Finding → List ℕ → Type 0
IsBlock finding text = IsVerdict finding finding.verdict text

-- the lines of some findings, in order
abbrev pub AreBlocks : List Finding → List ℕ → Type 0
AreBlocks [] text = text ≡ []
AreBlocks (finding ∷ findings) text =
    (block rest : List ℕ) × IsBlock finding block × AreBlocks findings rest × (text ≡ block ++ rest)

-- how many findings passed, failed and gave up
abbrev pub counts_text : ℕ → ℕ → ℕ → List ℕ
counts_text passed failed gave_up =
    concat (decimal passed ∷ codes " passed, " ∷ decimal failed ∷ codes " failed, " ∷ decimal gave_up ∷ codes " gave up" ∷ [])

-- the last line of a run
abbrev pub tail : List Finding → List ℕ
tail findings =
    line (counts_text (how_many has_passed findings) (how_many has_failed findings) (how_many has_given_up findings) ∷ [])

-- the whole report of a run
abbrev pub IsReport : List Finding → List ℕ → Type 0
IsReport findings text = (blocks : List ℕ) × AreBlocks findings blocks × (text ≡ blocks ++ tail findings)

-- what a replay on an item of this name shows
abbrev pub IsReplay : List ℕ → Record → List ℕ → Type 0
IsReplay name rec text =
    (lines : List ℕ) × AreShown rec lines × (text ≡ line (name ∷ codes ": " ∷ ending_text rec.ending ∷ []) ++ lines)

-- how many choices a verdict shows
abbrev pub choices_shown : Verdict → ℕ
choices_shown Passed = 0
choices_shown GaveUp = 0
choices_shown (Failed shown found spent) = length shown.choices

-- how many choices the findings show together
abbrev pub all_shown : List Finding → ℕ
all_shown findings = sum_by (λ finding. choices_shown finding.verdict) findings

-- the one line on a suite that was made
abbrev pub summary : List Finding → List ℕ
summary findings =
    line (decimal (length findings) ∷ codes " items: "
    ∷ counts_text (how_many has_passed findings) (how_many has_failed findings) (how_many has_given_up findings)
    ∷ codes ", " ∷ decimal (all_shown findings) ∷ codes " choices shown" ∷ [])
