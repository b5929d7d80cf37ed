-- What stands after exactly these choices of a plan.
use Rattle.std.specs.Prelude.{◌≡◌, ℕ, ◌+◌, nat_eq, Option, Some, None, List, [], ◌∷◌, ◌++◌, length, if◌then◌else◌}
use Rattle.pt_choice.specs.Kind.{admits}
use Rattle.pt_choice.specs.declared.choice.Choice.{Choice}
use Rattle.pt_choice.specs.declared.kind.Shape.{Shape}
use Rattle.pt_case.specs.declared.ending.Origin.{Origin}
use Rattle.pt_case.specs.declared.note.Note.{Note}
use Rattle.pt_case.specs.declared.region.Region.{Region}
use Rattle.pt_case.specs.declared.span.Span.{Span}
use Rattle.pt_case.specs.Region.{innermost, leave_innermost, spans_at}
use Rattle.pt_plan.specs.Plan.{Plan, Gives, Rejects, Faults, Asks, Enters, Leaves, Notes}

-- A value, a rejection or a fault ends it there, or a further choice is asked for. Each has the spans and the notes so far; a
-- span that is still open ends after the last choice.
pub data Mark (A : Type 0) : Type 0 where
  Derived : (value : A) (spans : List Span) (notes : List Note) → Mark A
  Rejected : (spans : List Span) (notes : List Note) → Mark A
  Faulted : (origin : Origin) (spans : List Span) (notes : List Note) → Mark A
  Wanted : (kind : Shape) (spans : List Span) (notes : List Note) → Mark A

-- the spans of a mark
abbrev pub spans_of : {A : Type 0} → Mark A → List Span
spans_of (Derived value spans notes) = spans
spans_of (Rejected spans notes) = spans
spans_of (Faulted origin spans notes) = spans
spans_of (Wanted kind spans notes) = spans

-- the plan goes no further here
abbrev pub IsLast : {A : Type 0} → Mark A → Type 0
IsLast (Derived value spans notes) = Unit {0}
IsLast (Rejected spans notes) = Unit {0}
IsLast (Faulted origin spans notes) = Unit {0}
IsLast (Wanted kind spans notes) = ⊥

-- the mark, where no choice is left over
abbrev pub only_here : {A : Type 0} → Mark A → List Choice → Option (Mark A)
only_here mark [] = Some mark
only_here mark (choice ∷ choices) = None

-- the spans, and one more that is entered here
abbrev pub entered : ℕ → ℕ → List Region → List Region
entered label here regions = regions ++ record { label = label; from = here; to = None; parent = innermost regions } ∷ []

-- What stands after these further choices, where so many were made before, with these spans and notes. Nothing does where the
-- plan ended before them, or a choice is not of the kind that was asked for.
abbrev pub mark_from : {A : Type 0} → Plan A → ℕ → List Region → List Note → List Choice → Option (Mark A)
mark_from (Gives value) here regions notes choices = only_here (Derived value (spans_at here regions) notes) choices
mark_from Rejects here regions notes choices = only_here (Rejected (spans_at here regions) notes) choices
mark_from (Faults origin) here regions notes choices = only_here (Faulted origin (spans_at here regions) notes) choices
mark_from (Asks kind next) here regions notes [] = Some (Wanted kind (spans_at here regions) notes)
mark_from (Asks kind next) here regions notes (choice ∷ choices) =
    if admits kind choice then mark_from (next choice) (here + 1) regions notes choices else None
mark_from (Enters label next) here regions notes choices = mark_from next here (entered label here regions) notes choices
mark_from (Leaves next) here regions notes choices = mark_from next here (leave_innermost here regions) notes choices
mark_from (Notes note next) here regions notes choices = mark_from next here regions (notes ++ note ∷ []) choices

-- The spans and the notes so far where, after exactly these further choices, so many spans were entered in all and another is
-- wanted before the next choice or the end.
abbrev pub cut_from : {A : Type 0} → ℕ → Plan A → ℕ → List Region → List Note → List Choice → Option (List Span × List Note)
cut_from count (Gives value) here regions notes choices = None
cut_from count Rejects here regions notes choices = None
cut_from count (Faults origin) here regions notes choices = None
cut_from count (Asks kind next) here regions notes [] = None
cut_from count (Asks kind next) here regions notes (choice ∷ choices) =
    if admits kind choice then cut_from count (next choice) (here + 1) regions notes choices else None
cut_from count (Enters label next) here regions notes [] =
    if nat_eq count (length regions) then Some (spans_at here regions, notes)
    else cut_from count next here (entered label here regions) notes []
cut_from count (Enters label next) here regions notes (choice ∷ choices) =
    cut_from count next here (entered label here regions) notes (choice ∷ choices)
cut_from count (Leaves next) here regions notes choices = cut_from count next here (leave_innermost here regions) notes choices
cut_from count (Notes note next) here regions notes choices = cut_from count next here regions (notes ++ note ∷ []) choices

-- after exactly these choices this stands
abbrev pub StandsAfter : {A : Type 0} → Plan A → List Choice → Mark A → Type 0
StandsAfter plan choices mark = mark_from plan 0 [] [] choices ≡ Some mark

-- these choices derive this value, with these spans and notes
abbrev pub Derives : {A : Type 0} → Plan A → List Choice → A → List Span → List Note → Type 0
Derives plan choices value spans notes = StandsAfter plan choices (Derived value spans notes)

-- after these choices one of this kind is wanted
abbrev pub WantsAfter : {A : Type 0} → Plan A → List Choice → Shape → List Span → List Note → Type 0
WantsAfter plan choices kind spans notes = StandsAfter plan choices (Wanted kind spans notes)

-- these choices are rejected
abbrev pub RejectsAfter : {A : Type 0} → Plan A → List Choice → List Span → List Note → Type 0
RejectsAfter plan choices spans notes = StandsAfter plan choices (Rejected spans notes)

-- these choices lead to this fault
abbrev pub FaultsAfter : {A : Type 0} → Plan A → List Choice → Origin → List Span → List Note → Type 0
FaultsAfter plan choices origin spans notes = StandsAfter plan choices (Faulted origin spans notes)

-- after exactly these choices so many spans were entered, these, and another is wanted before the next choice or the end
abbrev pub CutsAfter : {A : Type 0} → Plan A → ℕ → List Choice → List Span → List Note → Type 0
CutsAfter plan count choices spans notes = cut_from count plan 0 [] [] choices ≡ Some (spans, notes)
