-- What a record notes of a check that goes by a plan.
use Rattle.std.proofs.Common.{◌≡◌, ℕ, ◌+◌, Bool, true, false, Option, Some, None, List, [], ◌∷◌, ◌++◌, length, refl, sym, ◌∙◌, ap, subst, append_assoc, append-nil}
use Rattle.std.specs.Prelude.{nat_eq, if◌then◌else◌}
use Rattle.std.specs.Option.{option_or, option_map}
use Rattle.pt_choice.specs.declared.choice.Choice.{Choice}
use Rattle.pt_case.specs.declared.ending.Ending.{Ending}
use Rattle.pt_case.specs.Ending.{is_pass}
use Rattle.pt_case.specs.declared.note.Note.{Note}
use Rattle.pt_case.specs.declared.record.Record.{Record}
use Rattle.pt_case.specs.declared.region.Region.{Region}
use Rattle.pt_case.specs.declared.span.Span.{Span}
use Rattle.pt_case.specs.Region.{leave_innermost, spans_at}
use Rattle.pt_case.specs.Source.{Source}
use Rattle.pt_case.specs.Step.{Answer, Ask, End, Cut}
use Rattle.pt_case.specs.Run.{Shows, IsRecordOver}
use Rattle.pt_plan.specs.Plan.{Plan, Gives, Rejects, Faults, Asks, Enters, Leaves, Notes}
use Rattle.pt_plan.specs.Mark.{Mark, Derived, Rejected, Faulted, Wanted, entered, mark_from, cut_from}
use Rattle.pt_plan.specs.Says.{answer_at, plan_says}
use Rattle.pt_plan.proofs.MarkLemmas.{some-admitted}
use Rattle.pt_prop.proofs.NotesLemmas.{NotesOnly}

-- the notes of an answer
abbrev notes_in : Answer → List Note
notes_in (Ask kind spans notes) = notes
notes_in (End ending spans notes) = notes
notes_in (Cut spans notes) = notes

-- it passes there
abbrev passes : Answer → Bool
passes (Ask kind spans notes) = false
passes (End ending spans notes) = is_pass ending
passes (Cut spans notes) = false

-- the notes before, and then some of these
abbrev Behind : (List Note → Type 0) → List Note → List Note → Type 0
Behind Are before notes = (rest : List Note) × (notes ≡ before ++ rest) × Are rest

nothing-behind : (Are : List Note → Type 0) (before : List Note) → Are [] → Behind Are before before
nothing-behind Are before none = ([], sym (append-nil before), none)

one-behind : (Are : List Note → Type 0) (before : List Note) (note : Note) (notes : List Note) → Behind (λ rest. Are (note ∷ rest)) (before ++ note ∷ []) notes →
    Behind Are before notes
one-behind Are before note notes found = (note ∷ found.0, found.1 ∙ append_assoc before (note ∷ []) found.0, found.2)

out-some : {X : Type 0} {one other : X} → Some one ≡ Some other → one ≡ other
out-some is = cc

-- what stands at the end
ends-here : (Are : Bool → List Note → Type 0) (before : List Note) (last mark : Mark Ending) → notes_in (answer_at last) ≡ before →
    Are (passes (answer_at last)) [] → Some last ≡ Some mark → Behind (Are (passes (answer_at mark))) before (notes_in (answer_at mark))
ends-here Are before last mark same none is =
    subst (λ m. Behind (Are (passes (answer_at m))) before (notes_in (answer_at m))) (out-some is)
    (subst (λ n. Behind (Are (passes (answer_at last))) before n) (sym same) (nothing-behind (Are (passes (answer_at last))) before none))

-- what stands after choices
mark-notes : (Are : Bool → List Note → Type 0) (plan : Plan Ending) (here : ℕ) (regions : List Region) (before : List Note) (choices : List Choice) (mark : Mark Ending) →
    NotesOnly Are plan → mark_from plan here regions before choices ≡ Some mark →
    Behind (Are (passes (answer_at mark))) before (notes_in (answer_at mark))
mark-notes Are (Gives value) here regions before [] mark only is = ends-here Are before (Derived value (spans_at here regions) before) mark refl only is
mark-notes Are (Gives value) here regions before (choice ∷ choices) mark only is = cc
mark-notes Are Rejects here regions before [] mark only is = ends-here Are before (Rejected (spans_at here regions) before) mark refl only is
mark-notes Are Rejects here regions before (choice ∷ choices) mark only is = cc
mark-notes Are (Faults origin) here regions before [] mark only is = ends-here Are before (Faulted origin (spans_at here regions) before) mark refl only is
mark-notes Are (Faults origin) here regions before (choice ∷ choices) mark only is = cc
mark-notes Are (Asks kind next) here regions before [] mark only is = ends-here Are before (Wanted kind (spans_at here regions) before) mark refl only.0 is
mark-notes Are (Asks kind next) here regions before (choice ∷ choices) mark only is =
    let way = some-admitted kind choice (mark_from (next choice) (here + 1) regions before choices) mark is in
    mark-notes Are (next choice) (here + 1) regions before choices mark (only.1 choice way.0) way.1
mark-notes Are (Enters label next) here regions before choices mark only is = mark-notes Are next here (entered label here regions) before choices mark only.1 is
mark-notes Are (Leaves next) here regions before choices mark only is = mark-notes Are next here (leave_innermost here regions) before choices mark only is
mark-notes Are (Notes note next) here regions before choices mark only is =
    one-behind (Are (passes (answer_at mark))) before note (notes_in (answer_at mark))
    (mark-notes (λ passed rest. Are passed (note ∷ rest)) next here regions (before ++ note ∷ []) choices mark only is)

-- and where a span too many is wanted
cut-notes : (Are : Bool → List Note → Type 0) (count : ℕ) (plan : Plan Ending) (here : ℕ) (regions : List Region) (before : List Note) (choices : List Choice)
    (made : List Span × List Note) → NotesOnly Are plan → cut_from count plan here regions before choices ≡ Some made → Behind (Are false) before made.1
cut-notes Are count (Gives value) here regions before choices made only is = cc
cut-notes Are count Rejects here regions before choices made only is = cc
cut-notes Are count (Faults origin) here regions before choices made only is = cc
cut-notes Are count (Asks kind next) here regions before [] made only is = cc
cut-notes Are count (Asks kind next) here regions before (choice ∷ choices) made only is =
    let way = some-admitted kind choice (cut_from count (next choice) (here + 1) regions before choices) made is in
    cut-notes Are count (next choice) (here + 1) regions before choices made (only.1 choice way.0) way.1
cut-notes Are count (Enters label next) here regions before [] made only is =
    at (nat_eq count (length regions)) (λ later. cut-notes Are count next here (entered label here regions) before [] made only.1 later) is
  where
    at : (full : Bool) → (cut_from count next here (entered label here regions) before [] ≡ Some made → Behind (Are false) before made.1) →
        (if full then Some (spans_at here regions, before) else cut_from count next here (entered label here regions) before []) ≡ Some made → Behind (Are false) before made.1
    at true later is =
        let same : (spans_at here regions, before) ≡ made = cc in subst (λ (m : List Span × List Note). Behind (Are false) before m.1) same (nothing-behind (Are false) before only.0)
    at false later is = later is
cut-notes Are count (Enters label next) here regions before (choice ∷ choices) made only is =
    cut-notes Are count next here (entered label here regions) before (choice ∷ choices) made only.1 is
cut-notes Are count (Leaves next) here regions before choices made only is = cut-notes Are count next here (leave_innermost here regions) before choices made only is
cut-notes Are count (Notes note next) here regions before choices made only is =
    one-behind (Are false) before note made.1 (cut-notes (λ passed rest. Are passed (note ∷ rest)) count next here regions (before ++ note ∷ []) choices made only is)

-- all notes stand behind none
all-notes : (Are : List Note → Type 0) (notes : List Note) → Behind Are [] notes → Are notes
all-notes Are notes found = subst Are (sym found.1) found.2

-- so each answer has such notes
says-notes : (Are : Bool → List Note → Type 0) (plan : Plan Ending) (choices : List Choice) (answer : Answer) → NotesOnly Are plan → plan_says plan choices answer →
    Are (passes answer) (notes_in answer)
says-notes Are plan choices answer only said =
    at (cut_from 1024 plan 0 [] [] choices) (mark_from plan 0 [] [] choices)
    (λ made is. all-notes (Are false) made.1 (cut-notes Are 1024 plan 0 [] [] choices made only is))
    (λ mark is. all-notes (Are (passes (answer_at mark))) (notes_in (answer_at mark)) (mark-notes Are plan 0 [] [] choices mark only is)) said
  where
    at : (cut : Option (List Span × List Note)) (mark : Option (Mark Ending)) → ((made : List Span × List Note) → cut ≡ Some made → Are false made.1) →
        ((m : Mark Ending) → mark ≡ Some m → Are (passes (answer_at m)) (notes_in (answer_at m))) →
        option_or (option_map (λ made. Cut made.0 made.1) cut) (option_map answer_at mark) ≡ Some answer → Are (passes answer) (notes_in answer)
    at (Some made) mark cuts marks said =
        let same : Cut made.0 made.1 ≡ answer = cc in subst (λ a. Are (passes a) (notes_in a)) same (cuts made refl)
    at None (Some mark) cuts marks said = let same : answer_at mark ≡ answer = cc in subst (λ a. Are (passes a) (notes_in a)) same (marks mark refl)
    at None None cuts marks said = cc

-- a run shows what its last answer says
shown-notes : (answer : Answer) (ending : Ending) (spans : List Span) (notes : List Note) → Shows answer ending spans notes → notes ≡ notes_in answer
shown-notes (Ask kind said noted) ending spans notes shows = shows.2
shown-notes (Cut said noted) ending spans notes shows = shows.2
shown-notes (End ended said noted) ending spans notes shows = shows.3

shown-passes : (answer : Answer) (ending : Ending) (spans : List Span) (notes : List Note) → Shows answer ending spans notes → is_pass ending ≡ passes answer
shown-passes (Ask kind said noted) ending spans notes shows = ap is_pass shows.0
shown-passes (Cut said noted) ending spans notes shows = ap is_pass shows.0
shown-passes (End ended said noted) ending spans notes shows = ap is_pass shows.1

-- and so does each record
pub record-notes : (Are : Bool → List Note → Type 0) (plan : Plan Ending) → NotesOnly Are plan → (source : Source) (rec : Record) →
    IsRecordOver (plan_says plan) source rec → Are (is_pass rec.ending) rec.notes
record-notes Are plan only source rec is =
    subst (λ passed. Are passed rec.notes) (sym (shown-passes is.answer rec.ending rec.spans rec.notes is.shown))
    (subst (Are (passes is.answer)) (sym (shown-notes is.answer rec.ending rec.spans rec.notes is.shown))
    (says-notes Are plan rec.choices is.answer only is.followed.says.said))
