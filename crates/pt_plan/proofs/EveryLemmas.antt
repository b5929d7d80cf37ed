-- What holds on every way through a plan.
use Rattle.std.proofs.Common.{◌≡◌, ◌≤ℤ◌, ℕ, ℤ, zero, suc, ◌+◌, true, Some, None, Result, Ok, List, [], ◌∷◌, ◌++◌, length, inl, inr, refl, sym, ◌∙◌, ap, subst, arith, append_assoc}
use Rattle.std.proofs.lemmas.List.{append-nil}
use Rattle.std.proofs.lemmas.Grind.{common_steps}
use Rattle.std.specs.Prelude.{◌&&◌, int_le, IfOk, IsSome}
use Rattle.pt_choice.specs.declared.choice.Choice.{Choice}
use Rattle.pt_choice.specs.declared.choice.Choice.TheVariants as choice
use Rattle.pt_case.specs.declared.note.Note.{Note}
use Rattle.pt_case.specs.declared.region.Region.{Region}
use Rattle.pt_case.specs.declared.span.Span.{Span}
use Rattle.pt_case.specs.Region.{innermost, leave_innermost}
use Rattle.pt_case.specs.State.{State, after_leave, after_note}
use Rattle.pt_plan.specs.Halt.{Halt}
use Rattle.pt_plan.specs.Plan.{Plan, Gives, Rejects, Faults, Asks, Enters, Leaves, Notes, and_then, within}
use Rattle.pt_plan.specs.Asked.{asked_integer}
use Rattle.pt_plan.specs.Came.{Came}
use Rattle.pt_plan.specs.Mark.{Derived, entered, mark_from}
use Rattle.pt_plan.specs.Every.{GivesOnly, IsBalancedAt, IsBalanced, NotesNothing}
use Rattle.pt_plan.specs.Kept.{KeepsSpans, ReturnsSpans}
use Rattle.pt_plan.specs.Open.{open_before, open_spans}
use Rattle.pt_plan.proofs.MarkLemmas.{some-admitted}
use Rattle.pt_plan.proofs.OpenLemmas.{open-entered, open-left, open_before-append, open_before-none, none-open, some-open, leave-behind}

-- what a case was led to is one of the values
pub gives-came : {A : Type 0} (Is : A → Type 0) (plan : Plan A) (old new : State) (value : A) → GivesOnly Is plan →
    Came plan old new (Ok value) → Is value
gives-came Is (Gives given) old new value only came = let same : given ≡ value = (let e = came.0 in cc) in rw (← same) only
gives-came Is Rejects old new value only came = let e = came.0 in cc
gives-came Is (Faults origin) old new value only came = let e = came.0 in cc
gives-came Is (Asks kind next) old new value only came = elim came [
  | inl h ↦ gives-came Is (next h.0) h.1 new value (only h.0 h.2.admitted) h.3
  | inr h ↦ let e = h.0 in cc
]
gives-came Is (Enters label next) old new value only came = elim came [
  | inl h ↦ gives-came Is next h.0 new value only h.2
  | inr h ↦ let e = h.0 in cc
]
gives-came Is (Leaves next) old new value only came = gives-came Is next (after_leave old) new value only came
gives-came Is (Notes note next) old new value only came = gives-came Is next (after_note old note) new value only came

-- and so is what choices derive
pub gives-derives : {A : Type 0} (Is : A → Type 0) (plan : Plan A) (here : ℕ) (regions : List Region) (notes : List Note) (choices : List Choice)
    (value : A) (spans : List Span) (noted : List Note) → GivesOnly Is plan → mark_from plan here regions notes choices ≡ Some (Derived value spans noted) → Is value
gives-derives Is (Gives given) here regions notes [] value spans noted only is = let same : given ≡ value = cc in rw (← same) only
gives-derives Is (Gives given) here regions notes (choice ∷ choices) value spans noted only is = cc
gives-derives Is Rejects here regions notes [] value spans noted only is = cc
gives-derives Is Rejects here regions notes (choice ∷ choices) value spans noted only is = cc
gives-derives Is (Faults origin) here regions notes [] value spans noted only is = cc
gives-derives Is (Faults origin) here regions notes (choice ∷ choices) value spans noted only is = cc
gives-derives Is (Asks kind next) here regions notes [] value spans noted only is = cc
gives-derives Is (Asks kind next) here regions notes (choice ∷ choices) value spans noted only is =
    let way = some-admitted kind choice (mark_from (next choice) (here + 1) regions notes choices) (Derived value spans noted) is in
    gives-derives Is (next choice) (here + 1) regions notes choices value spans noted (only choice way.0) way.1
gives-derives Is (Enters label next) here regions notes choices value spans noted only is =
    gives-derives Is next here (entered label here regions) notes choices value spans noted only is
gives-derives Is (Leaves next) here regions notes choices value spans noted only is =
    gives-derives Is next here (leave_innermost here regions) notes choices value spans noted only is
gives-derives Is (Notes note next) here regions notes choices value spans noted only is =
    gives-derives Is next here regions (notes ++ note ∷ []) choices value spans noted only is

-- one plan after another
pub gives-then : {A B : Type 0} (Is : A → Type 0) (Next : B → Type 0) (plan : Plan A) (next : A → Plan B) → GivesOnly Is plan →
    ((value : A) → Is value → GivesOnly Next (next value)) → GivesOnly Next (and_then plan next)
gives-then Is Next (Gives value) next only more = more value only
gives-then Is Next Rejects next only more = tt
gives-then Is Next (Faults origin) next only more = tt
gives-then Is Next (Asks kind later) next only more = λ choice admitted. gives-then Is Next (later choice) next (only choice admitted) more
gives-then Is Next (Enters label later) next only more = gives-then Is Next later next only more
gives-then Is Next (Leaves later) next only more = gives-then Is Next later next only more
gives-then Is Next (Notes note later) next only more = gives-then Is Next later next only more

-- a plan whose values are all of one sort has those that are of a wider one
pub gives-wider : {A : Type 0} (Is May : A → Type 0) (plan : Plan A) → ((value : A) → Is value → May value) → GivesOnly Is plan → GivesOnly May plan
gives-wider Is May (Gives value) wider only = wider value only
gives-wider Is May Rejects wider only = tt
gives-wider Is May (Faults origin) wider only = tt
gives-wider Is May (Asks kind next) wider only = λ choice admitted. gives-wider Is May (next choice) wider (only choice admitted)
gives-wider Is May (Enters label next) wider only = gives-wider Is May next wider only
gives-wider Is May (Leaves next) wider only = gives-wider Is May next wider only
gives-wider Is May (Notes note next) wider only = gives-wider Is May next wider only

-- a plan that notes nothing, and then another
pub silent-then : {A B : Type 0} (plan : Plan A) (next : A → Plan B) → NotesNothing plan → ((value : A) → NotesNothing (next value)) → NotesNothing (and_then plan next)
silent-then (Gives value) next silent later = later value
silent-then Rejects next silent later = tt
silent-then (Faults origin) next silent later = tt
silent-then (Asks kind more) next silent later = λ choice admitted. silent-then (more choice) next (silent choice admitted) later
silent-then (Enters label more) next silent later = silent-then more next silent later
silent-then (Leaves more) next silent later = silent-then more next silent later
silent-then (Notes note more) next silent later = absurd silent

pub silent-within : {A : Type 0} (label : ℕ) (plan : Plan A) → NotesNothing plan → NotesNothing (within label plan)
silent-within label plan silent = silent-then plan (λ value. Leaves (Gives value)) silent (λ value. tt)

-- what it leads has the notes that it had
pub silent-came : {A : Type 0} (plan : Plan A) (old new : State) (outcome : Result A Halt) → NotesNothing plan → Came plan old new outcome → new.notes ≡ old.notes
silent-came (Gives value) old new outcome silent came = ap (λ s. s.notes) came.1
silent-came Rejects old new outcome silent came = ap (λ s. s.notes) came.1
silent-came (Faults origin) old new outcome silent came = ap (λ s. s.notes) came.1
silent-came (Asks kind next) old new outcome silent came = elim came [
  | inl h ↦ silent-came (next h.0) h.1 new outcome (silent h.0 h.2.admitted) h.3 ∙ ap (λ s. s.notes) h.2.kept
  | inr h ↦ ap (λ s. s.notes) h.2
]
silent-came (Enters label next) old new outcome silent came = elim came [
  | inl h ↦ silent-came next h.0 new outcome silent h.2 ∙ ap (λ s. s.notes) h.1.kept
  | inr h ↦ ap (λ s. s.notes) h.2
]
silent-came (Leaves next) old new outcome silent came = silent-came next (after_leave old) new outcome silent came
silent-came (Notes note next) old new outcome silent came = absurd silent

-- a balanced plan in what has spans of its own open, and then what leaves those
pub balanced-then : {A B : Type 0} (depth outer all : ℕ) (plan : Plan A) (next : A → Plan B) → all ≡ depth + outer → IsBalancedAt depth plan →
    ((value : A) → IsBalancedAt outer (next value)) → IsBalancedAt all (and_then plan next)
balanced-then depth outer all (Gives value) next sum balanced later =
    let same : outer ≡ all = omega (arith, sum, balanced) in subst (λ n. IsBalancedAt n (next value)) same (later value)
balanced-then depth outer all Rejects next sum balanced later = tt
balanced-then depth outer all (Faults origin) next sum balanced later = tt
balanced-then depth outer all (Asks kind more) next sum balanced later =
    λ choice admitted. balanced-then depth outer all (more choice) next sum (balanced choice admitted) later
balanced-then depth outer all (Enters label more) next sum balanced later =
    balanced-then (suc depth) outer (suc all) more next (omega (arith, sum)) balanced later
balanced-then zero outer all (Leaves more) next sum balanced later = absurd balanced
balanced-then (suc depth) outer zero (Leaves more) next sum balanced later = absurd (omega (arith, sum))
balanced-then (suc depth) outer (suc all) (Leaves more) next sum balanced later =
    balanced-then depth outer all more next (omega (arith, sum)) balanced later
balanced-then depth outer all (Notes note more) next sum balanced later = balanced-then depth outer all more next sum balanced later

-- two balanced plans one after the other
pub balanced-and_then : {A B : Type 0} (plan : Plan A) (next : A → Plan B) → IsBalanced plan → ((value : A) → IsBalanced (next value)) → IsBalanced (and_then plan next)
balanced-and_then plan next balanced later = balanced-then 0 0 0 plan next refl balanced later

-- a balanced plan in a span
pub balanced-within : {A : Type 0} (label : ℕ) (plan : Plan A) → IsBalanced plan → IsBalanced (within label plan)
balanced-within label plan balanced = balanced-then 0 1 1 plan (λ value. Leaves (Gives value)) refl balanced (λ value. refl)

-- the spans behind these, of which so many are open, are the plan's own
kept-from : {A : Type 0} (depth : ℕ) (base own : List Region) (plan : Plan A) (now new : State) (outcome : Result A Halt) →
    now.regions ≡ base ++ own → length (open_before 0 own []) ≡ depth → IsBalancedAt depth plan → Came plan now new outcome →
    (added : List Region) × (new.regions ≡ base ++ added) × IfOk outcome (λ value. innermost added ≡ None)
kept-from depth base own (Gives value) now new outcome is many balanced came =
    (own, ap (λ s. s.regions) came.1 ∙ is, rw came.0 (none-open own (many ∙ balanced)))
kept-from depth base own Rejects now new outcome is many balanced came = (own, ap (λ s. s.regions) came.1 ∙ is, rw came.0 tt)
kept-from depth base own (Faults origin) now new outcome is many balanced came = (own, ap (λ s. s.regions) came.1 ∙ is, rw came.0 tt)
kept-from depth base own (Asks kind next) now new outcome is many balanced came = elim came [
  | inl h ↦ kept-from depth base own (next h.0) h.1 new outcome (ap (λ s. s.regions) h.2.kept ∙ is) many (balanced h.0 h.2.admitted) h.3
  | inr h ↦ (own, ap (λ s. s.regions) h.2 ∙ is, rw h.0 tt)
]
kept-from depth base own (Enters label next) now new outcome is many balanced came = elim came [
  | inl h ↦
      let last : Region = record { label = label; from = length now.choices; to = None; parent = innermost now.regions } in
      let behind : h.0.regions ≡ base ++ (own ++ last ∷ []) = ap (λ s. s.regions) h.1.kept ∙ ap (λ rs. rs ++ last ∷ []) is ∙ append_assoc base own (last ∷ []) in
      let more : length (open_before 0 (own ++ last ∷ []) []) ≡ suc depth = ap length (open-entered own last refl) ∙ ap (λ n. suc n) many in
      kept-from (suc depth) base (own ++ last ∷ []) next h.0 new outcome behind more balanced h.2
  | inr h ↦ (own, ap (λ s. s.regions) h.2 ∙ is, rw h.0 tt)
]
kept-from zero base own (Leaves next) now new outcome is many balanced came = absurd balanced
kept-from (suc depth) base own (Leaves next) now new outcome is many balanced came =
    let here = length now.choices in
    let some : IsSome (innermost own) = some-open own (λ none. let e = ap length none in omega (arith, e, many)) in
    let one = open-left here 0 own [] some in
    let fewer : length (open_before 0 (leave_innermost here own) []) ≡ depth = let e = ap length one.1 in omega (arith, e, many) in
    kept-from depth base (leave_innermost here own) next (after_leave now) new outcome
    (ap (λ rs. leave_innermost here rs) is ∙ leave-behind here base own some) fewer balanced came
kept-from depth base own (Notes note next) now new outcome is many balanced came =
    kept-from depth base own next (after_note now note) new outcome is many balanced came

-- What is led by a balanced plan keeps the spans that it found, whatever comes of it.
pub balanced-keeps : {A : Type 0} (plan : Plan A) (old new : State) (outcome : Result A Halt) → IsBalanced plan → Came plan old new outcome → KeepsSpans old new
balanced-keeps plan old new outcome balanced came =
    let kept = kept-from 0 old.regions [] plan old new outcome (sym (append-nil old.regions)) refl balanced came in
    record { added = kept.0; kept = kept.1 }

-- And where it comes to a value, it has left each of its own.
pub balanced-returns : {A : Type 0} (plan : Plan A) (old new : State) (value : A) → IsBalanced plan → Came plan old new (Ok value) → ReturnsSpans old new
balanced-returns plan old new value balanced came =
    let kept = kept-from 0 old.regions [] plan old new (Ok value) (sym (append-nil old.regions)) refl balanced came in
    record { added = kept.0; kept = kept.1; left = kept.2 }

-- So the same spans are open.
pub returns-open : (old new : State) → ReturnsSpans old new → open_spans new ≡ open_spans old
returns-open old new returns =
    ap (λ rs. open_before 0 rs []) returns.kept ∙ open_before-append 0 old.regions returns.added []
    ∙ open_before-none _ returns.added (open_before 0 old.regions []) returns.left

-- an integer that is asked for is within its bounds
pub integer-within : (lo hi : ℤ) → GivesOnly (λ number. (lo ≤ℤ number) × (number ≤ℤ hi)) (asked_integer lo hi)
integer-within lo hi (choice.Int number) admitted = within-bounds lo hi number admitted
  where
    within-bounds : (lo hi number : ℤ) → int_le lo number && int_le number hi ≡ true → (lo ≤ℤ number) × (number ≤ℤ hi)
    within-bounds lo hi number both = grind (arith, common_steps)
integer-within lo hi (choice.Bool flag) admitted = cc
integer-within lo hi (choice.Bytes bytes) admitted = cc
integer-within lo hi (choice.Text places) admitted = cc
