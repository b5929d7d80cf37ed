-- What stands after choices.
use Rattle.std.proofs.Common.{◌≡◌, ℕ, suc, ◌+◌, ◌<◌, ◌≤◌, Bool, true, false, Option, Some, None, List, [], ◌∷◌, ◌++◌, length, refl, sym, ◌∙◌, ap, subst, arith, length-append}
use Rattle.std.proofs.lemmas.List.{length-map}
use Rattle.std.proofs.lemmas.Bool.Decides.{nat_tests}
use Rattle.std.specs.Prelude.{nat_eq, if◌then◌else◌, is_some}
use Rattle.pt_choice.specs.Kind.{admits}
use Rattle.pt_choice.specs.declared.choice.Choice.{Choice}
use Rattle.pt_choice.specs.declared.kind.Shape.{Shape}
use Rattle.pt_case.specs.declared.note.Note.{Note}
use Rattle.pt_case.specs.declared.region.Region.{Region}
use Rattle.pt_case.specs.declared.span.Span.{Span}
use Rattle.pt_case.specs.Region.{innermost, leave_innermost, ended, spans_at}
use Rattle.pt_plan.specs.Plan.{Plan, Gives, Rejects, Faults, Asks, Enters, Leaves, Notes}
use Rattle.pt_plan.specs.Mark.{Mark, Derived, Rejected, Faulted, Wanted, IsLast, spans_of, entered, mark_from, cut_from}

-- by a choice that is admitted the plan goes on, and by no other
pub mark-admitted : {A : Type 0} (kind : Shape) (next : Choice → Plan A) (here : ℕ) (regions : List Region) (notes : List Note) (choice : Choice) (choices : List Choice) →
    admits kind choice ≡ true → mark_from (Asks kind next) here regions notes (choice ∷ choices) ≡ mark_from (next choice) (here + 1) regions notes choices
mark-admitted kind next here regions notes choice choices is = rw is refl

pub cut-admitted : {A : Type 0} (count : ℕ) (kind : Shape) (next : Choice → Plan A) (here : ℕ) (regions : List Region) (notes : List Note) (choice : Choice) (choices : List Choice) →
    admits kind choice ≡ true → cut_from count (Asks kind next) here regions notes (choice ∷ choices) ≡ cut_from count (next choice) (here + 1) regions notes choices
cut-admitted count kind next here regions notes choice choices is = rw is refl

pub some-admitted : {X : Type 0} (kind : Shape) (choice : Choice) (later : Option X) (found : X) →
    (if admits kind choice then later else None) ≡ Some found → (admits kind choice ≡ true) × (later ≡ Some found)
some-admitted kind choice later found is = split (admits kind choice) refl is
  where
    split : (truth : Bool) → admits kind choice ≡ truth → (if truth then later else None) ≡ Some found → (admits kind choice ≡ true) × (later ≡ Some found)
    split true e is = (e, is)
    split false e is = cc

-- where one stands that is the last, nothing stands after more choices
pub mark-ends : {A : Type 0} (plan : Plan A) (here : ℕ) (regions : List Region) (notes : List Note) (choices : List Choice) (next : Choice) (rest : List Choice) (mark : Mark A) →
    mark_from plan here regions notes choices ≡ Some mark → IsLast mark → mark_from plan here regions notes (choices ++ next ∷ rest) ≡ None
mark-ends (Gives value) here regions notes [] next rest mark is last = refl
mark-ends (Gives value) here regions notes (choice ∷ choices) next rest mark is last = refl
mark-ends Rejects here regions notes [] next rest mark is last = refl
mark-ends Rejects here regions notes (choice ∷ choices) next rest mark is last = refl
mark-ends (Faults origin) here regions notes [] next rest mark is last = refl
mark-ends (Faults origin) here regions notes (choice ∷ choices) next rest mark is last = refl
mark-ends (Asks kind more) here regions notes [] next rest mark is last =
    let same : mark ≡ Wanted kind (spans_at here regions) notes = cc in absurd (subst (λ m. IsLast m) same last)
mark-ends (Asks kind more) here regions notes (choice ∷ choices) next rest mark is last =
    let way = some-admitted kind choice (mark_from (more choice) (here + 1) regions notes choices) mark is in
    mark-admitted kind more here regions notes choice (choices ++ next ∷ rest) way.0 ∙ mark-ends (more choice) (here + 1) regions notes choices next rest mark way.1 last
mark-ends (Enters label more) here regions notes choices next rest mark is last =
    mark-ends more here (entered label here regions) notes choices next rest mark is last
mark-ends (Leaves more) here regions notes choices next rest mark is last =
    mark-ends more here (leave_innermost here regions) notes choices next rest mark is last
mark-ends (Notes note more) here regions notes choices next rest mark is last = mark-ends more here regions (notes ++ note ∷ []) choices next rest mark is last

-- nor is anything cut there
pub cut-ends : {A : Type 0} (count : ℕ) (plan : Plan A) (here : ℕ) (regions : List Region) (notes : List Note) (choices : List Choice) (next : Choice) (rest : List Choice) (mark : Mark A) →
    mark_from plan here regions notes choices ≡ Some mark → IsLast mark → cut_from count plan here regions notes (choices ++ next ∷ rest) ≡ None
cut-ends count (Gives value) here regions notes choices next rest mark is last = refl
cut-ends count Rejects here regions notes choices next rest mark is last = refl
cut-ends count (Faults origin) here regions notes choices next rest mark is last = refl
cut-ends count (Asks kind more) here regions notes [] next rest mark is last =
    let same : mark ≡ Wanted kind (spans_at here regions) notes = cc in absurd (subst (λ m. IsLast m) same last)
cut-ends count (Asks kind more) here regions notes (choice ∷ choices) next rest mark is last =
    let way = some-admitted kind choice (mark_from (more choice) (here + 1) regions notes choices) mark is in
    cut-admitted count kind more here regions notes choice (choices ++ next ∷ rest) way.0
    ∙ cut-ends count (more choice) (here + 1) regions notes choices next rest mark way.1 last
cut-ends count (Enters label more) here regions notes [] next rest mark is last =
    cut-ends count more here (entered label here regions) notes [] next rest mark is last
cut-ends count (Enters label more) here regions notes (choice ∷ choices) next rest mark is last =
    cut-ends count more here (entered label here regions) notes (choice ∷ choices) next rest mark is last
cut-ends count (Leaves more) here regions notes choices next rest mark is last =
    cut-ends count more here (leave_innermost here regions) notes choices next rest mark is last
cut-ends count (Notes note more) here regions notes choices next rest mark is last =
    cut-ends count more here regions (notes ++ note ∷ []) choices next rest mark is last

-- spans that were entered stay, left or not
pub length-left : (here : ℕ) (regions : List Region) → length (leave_innermost here regions) ≡ length regions
length-left here [] = refl
length-left here (region ∷ regions) = split (length-left here regions) (is_some (innermost regions)) refl
  where
    split : length (leave_innermost here regions) ≡ length regions → (later : Bool) → is_some (innermost regions) ≡ later →
        length (leave_innermost here (region ∷ regions)) ≡ length (region ∷ regions)
    split same true e = rw e (ap (λ n. suc n) same)
    split same false e = rw e refl

length-entered : (label here : ℕ) (regions : List Region) → length (entered label here regions) ≡ length regions + 1
length-entered label here regions = length-append regions _

shown : (here : ℕ) (regions : List Region) → length regions ≤ length (spans_at here regions)
shown here regions = omega (arith, length-map regions (ended here))

-- a mark has at least the spans that were entered before it
pub spans-more : {A : Type 0} (plan : Plan A) (here : ℕ) (regions : List Region) (notes : List Note) (choices : List Choice) (mark : Mark A) →
    mark_from plan here regions notes choices ≡ Some mark → length regions ≤ length (spans_of mark)
spans-more (Gives value) here regions notes [] mark is = let same : Derived value (spans_at here regions) notes ≡ mark = cc in rw (← same) (shown here regions)
spans-more (Gives value) here regions notes (choice ∷ choices) mark is = cc
spans-more Rejects here regions notes [] mark is = let same : Rejected (spans_at here regions) notes ≡ mark = cc in rw (← same) (shown here regions)
spans-more Rejects here regions notes (choice ∷ choices) mark is = cc
spans-more (Faults origin) here regions notes [] mark is = let same : Faulted origin (spans_at here regions) notes ≡ mark = cc in rw (← same) (shown here regions)
spans-more (Faults origin) here regions notes (choice ∷ choices) mark is = cc
spans-more (Asks kind more) here regions notes [] mark is = let same : Wanted kind (spans_at here regions) notes ≡ mark = cc in rw (← same) (shown here regions)
spans-more (Asks kind more) here regions notes (choice ∷ choices) mark is =
    let way = some-admitted kind choice (mark_from (more choice) (here + 1) regions notes choices) mark is in
    spans-more (more choice) (here + 1) regions notes choices mark way.1
spans-more (Enters label more) here regions notes choices mark is =
    let later = spans-more more here (entered label here regions) notes choices mark is in
    omega (arith, later, length-entered label here regions)
spans-more (Leaves more) here regions notes choices mark is =
    let later = spans-more more here (leave_innermost here regions) notes choices mark is in
    omega (arith, later, length-left here regions)
spans-more (Notes note more) here regions notes choices mark is = spans-more more here regions (notes ++ note ∷ []) choices mark is

-- where anything stands, fewer spans than it has were entered at each cut before it
pub cut-below : {A : Type 0} (count : ℕ) (plan : Plan A) (here : ℕ) (regions : List Region) (notes : List Note) (choices rest : List Choice)
    (made : List Span × List Note) (mark : Mark A) → cut_from count plan here regions notes choices ≡ Some made →
    mark_from plan here regions notes (choices ++ rest) ≡ Some mark → count < length (spans_of mark)
cut-below count (Gives value) here regions notes choices rest made mark cut is = cc
cut-below count Rejects here regions notes choices rest made mark cut is = cc
cut-below count (Faults origin) here regions notes choices rest made mark cut is = cc
cut-below count (Asks kind more) here regions notes [] rest made mark cut is = cc
cut-below count (Asks kind more) here regions notes (choice ∷ choices) rest made mark cut is =
    let way = some-admitted kind choice (mark_from (more choice) (here + 1) regions notes (choices ++ rest)) mark is in
    let also = some-admitted kind choice (cut_from count (more choice) (here + 1) regions notes choices) made cut in
    cut-below count (more choice) (here + 1) regions notes choices rest made mark also.1 way.1
cut-below count (Enters label more) here regions notes [] rest made mark cut is =
    split (cut-below count more here (entered label here regions) notes [] rest made mark) (nat_eq count (length regions)) refl cut
  where
    split : (cut_from count more here (entered label here regions) notes [] ≡ Some made → mark_from more here (entered label here regions) notes rest ≡ Some mark → count < length (spans_of mark)) →
        (full : Bool) → nat_eq count (length regions) ≡ full →
        (if full then Some (spans_at here regions, notes) else cut_from count more here (entered label here regions) notes []) ≡ Some made → count < length (spans_of mark)
    split later true e cut =
        let same : count ≡ length regions = grind (arith, nat_tests) in
        omega (arith, same, spans-more more here (entered label here regions) notes rest mark is, length-entered label here regions)
    split later false e cut = later cut is
cut-below count (Enters label more) here regions notes (choice ∷ choices) rest made mark cut is =
    cut-below count more here (entered label here regions) notes (choice ∷ choices) rest made mark cut is
cut-below count (Leaves more) here regions notes choices rest made mark cut is =
    cut-below count more here (leave_innermost here regions) notes choices rest made mark cut is
cut-below count (Notes note more) here regions notes choices rest made mark cut is =
    cut-below count more here regions (notes ++ note ∷ []) choices rest made mark cut is

-- before each choice of a list after which anything stands, one of a kind that admits it was wanted
pub wanted-before : {A : Type 0} (plan : Plan A) (here : ℕ) (regions : List Region) (notes : List Note) (choices : List Choice) (choice : Choice) (rest : List Choice) (mark : Mark A) →
    mark_from plan here regions notes (choices ++ choice ∷ rest) ≡ Some mark →
    (kind : Shape) × (spans : List Span) × (noted : List Note) × (mark_from plan here regions notes choices ≡ Some (Wanted kind spans noted)) × (admits kind choice ≡ true)
wanted-before (Gives value) here regions notes [] choice rest mark is = cc
wanted-before (Gives value) here regions notes (first ∷ choices) choice rest mark is = cc
wanted-before Rejects here regions notes [] choice rest mark is = cc
wanted-before Rejects here regions notes (first ∷ choices) choice rest mark is = cc
wanted-before (Faults origin) here regions notes [] choice rest mark is = cc
wanted-before (Faults origin) here regions notes (first ∷ choices) choice rest mark is = cc
wanted-before (Asks kind more) here regions notes [] choice rest mark is =
    let way = some-admitted kind choice (mark_from (more choice) (here + 1) regions notes rest) mark is in
    (kind, spans_at here regions, notes, refl, way.0)
wanted-before (Asks kind more) here regions notes (first ∷ choices) choice rest mark is =
    let way = some-admitted kind first (mark_from (more first) (here + 1) regions notes (choices ++ choice ∷ rest)) mark is in
    let later = wanted-before (more first) (here + 1) regions notes choices choice rest mark way.1 in
    (later.0, later.1, later.2, mark-admitted kind more here regions notes first choices way.0 ∙ later.3, later.4)
wanted-before (Enters label more) here regions notes choices choice rest mark is =
    wanted-before more here (entered label here regions) notes choices choice rest mark is
wanted-before (Leaves more) here regions notes choices choice rest mark is =
    wanted-before more here (leave_innermost here regions) notes choices choice rest mark is
wanted-before (Notes note more) here regions notes choices choice rest mark is = wanted-before more here regions (notes ++ note ∷ []) choices choice rest mark is

-- where it is cut there are just so many spans
pub cut-count : {A : Type 0} (count : ℕ) (plan : Plan A) (here : ℕ) (regions : List Region) (notes : List Note) (choices : List Choice)
    (made : List Span × List Note) → cut_from count plan here regions notes choices ≡ Some made → length made.0 ≡ count
cut-count count (Gives value) here regions notes choices made cut = cc
cut-count count Rejects here regions notes choices made cut = cc
cut-count count (Faults origin) here regions notes choices made cut = cc
cut-count count (Asks kind more) here regions notes [] made cut = cc
cut-count count (Asks kind more) here regions notes (choice ∷ choices) made cut =
    let way = some-admitted kind choice (cut_from count (more choice) (here + 1) regions notes choices) made cut in
    cut-count count (more choice) (here + 1) regions notes choices made way.1
cut-count count (Enters label more) here regions notes [] made cut =
    split (cut-count count more here (entered label here regions) notes [] made) (nat_eq count (length regions)) refl cut
  where
    split : (cut_from count more here (entered label here regions) notes [] ≡ Some made → length made.0 ≡ count) → (full : Bool) → nat_eq count (length regions) ≡ full →
        (if full then Some (spans_at here regions, notes) else cut_from count more here (entered label here regions) notes []) ≡ Some made → length made.0 ≡ count
    split later true e cut =
        let same : count ≡ length regions = grind (arith, nat_tests) in
        let gave : (spans_at here regions, notes) ≡ made = cc in
        ap (λ m. length m.0) (sym gave) ∙ length-map regions (ended here) ∙ sym same
    split later false e cut = later cut
cut-count count (Enters label more) here regions notes (choice ∷ choices) made cut = cut-count count more here (entered label here regions) notes (choice ∷ choices) made cut
cut-count count (Leaves more) here regions notes choices made cut = cut-count count more here (leave_innermost here regions) notes choices made cut
cut-count count (Notes note more) here regions notes choices made cut = cut-count count more here regions (notes ++ note ∷ []) choices made cut

-- where other spans were entered, the cut is one of what follows
cut-later : {A : Type 0} (count label : ℕ) (more : Plan A) (here : ℕ) (regions : List Region) (notes : List Note) (choices : List Choice) →
    nat_eq count (length regions) ≡ false →
    cut_from count (Enters label more) here regions notes choices ≡ cut_from count more here (entered label here regions) notes choices
cut-later count label more here regions notes [] other = rw other refl
cut-later count label more here regions notes (choice ∷ choices) other = refl

-- at the end of a plan there are no more spans than it had
ended-here : (here : ℕ) (regions : List Region) (count : ℕ) → length regions ≤ count → count < length (spans_at here regions) → ⊥
ended-here here regions count from to = omega (arith, from, to, length-map regions (ended here))

-- the plan is cut on a list that begins these choices
abbrev pub CutMet : {A : Type 0} → ℕ → Plan A → ℕ → List Region → List Note → List Choice → Type 0
CutMet count plan here regions notes list =
    (choices rest : List Choice) × (made : List Span × List Note) × (list ≡ choices ++ rest) × (cut_from count plan here regions notes choices ≡ Some made)

-- at each number of spans from those that there were to those that a mark has
pub cut-met : {A : Type 0} (count : ℕ) (plan : Plan A) (here : ℕ) (regions : List Region) (notes : List Note) (list : List Choice) (mark : Mark A) →
    mark_from plan here regions notes list ≡ Some mark → length regions ≤ count → count < length (spans_of mark) → CutMet count plan here regions notes list
cut-met count (Gives value) here regions notes [] mark is from to =
    let same : Derived value (spans_at here regions) notes ≡ mark = cc in absurd (ended-here here regions count from (rw (← same) at to))
cut-met count (Gives value) here regions notes (choice ∷ choices) mark is from to = cc
cut-met count Rejects here regions notes [] mark is from to =
    let same : Rejected (spans_at here regions) notes ≡ mark = cc in absurd (ended-here here regions count from (rw (← same) at to))
cut-met count Rejects here regions notes (choice ∷ choices) mark is from to = cc
cut-met count (Faults origin) here regions notes [] mark is from to =
    let same : Faulted origin (spans_at here regions) notes ≡ mark = cc in absurd (ended-here here regions count from (rw (← same) at to))
cut-met count (Faults origin) here regions notes (choice ∷ choices) mark is from to = cc
cut-met count (Asks kind more) here regions notes [] mark is from to =
    let same : Wanted kind (spans_at here regions) notes ≡ mark = cc in absurd (ended-here here regions count from (rw (← same) at to))
cut-met count (Asks kind more) here regions notes (choice ∷ choices) mark is from to =
    let way = some-admitted kind choice (mark_from (more choice) (here + 1) regions notes choices) mark is in
    let later = cut-met count (more choice) (here + 1) regions notes choices mark way.1 from to in
    (choice ∷ later.0, later.1, later.2, ap (λ cs. choice ∷ cs) later.3, cut-admitted count kind more here regions notes choice later.0 way.0 ∙ later.4)
cut-met count (Enters label more) here regions notes list mark is from to =
    split (cut-met count more here (entered label here regions) notes list mark is) (nat_eq count (length regions)) refl
  where
    split : (length (entered label here regions) ≤ count → count < length (spans_of mark) → CutMet count more here (entered label here regions) notes list) →
        (full : Bool) → nat_eq count (length regions) ≡ full → CutMet count (Enters label more) here regions notes list
    split later true e = ([], list, (spans_at here regions, notes), refl, rw e refl)
    split later false e =
        let above : length regions < count = grind (arith, nat_tests) in
        let met = later (omega (arith, above, length-entered label here regions)) to in
        (met.0, met.1, met.2, met.3, cut-later count label more here regions notes met.0 e ∙ met.4)
cut-met count (Leaves more) here regions notes list mark is from to =
    cut-met count more here (leave_innermost here regions) notes list mark is (omega (arith, from, length-left here regions)) to
cut-met count (Notes note more) here regions notes list mark is from to = cut-met count more here regions (notes ++ note ∷ []) list mark is from to
