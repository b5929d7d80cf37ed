-- What a property shows is of the set of its strategy.
use Rattle.std.proofs.Common.{◌≡◌, ℕ, ◌+◌, Bool, true, false, Option, Some, None, List, [], ◌∷◌, length, refl, subst}
use Rattle.std.specs.Prelude.{nat_eq, if◌then◌else◌}
use Rattle.std.specs.List.{All}
use Rattle.std.specs.Option.{option_or, option_map}
use Rattle.std.proofs.lemmas.List.Elements.{All-nil, All-cons}
use Rattle.pt_choice.specs.declared.choice.Choice.{Choice}
use Rattle.pt_val.specs.declared.val.Val.{Val}
use Rattle.pt_case.specs.declared.ending.Ending.{Ending}
use Rattle.pt_case.specs.declared.note.Note.{Note}
use Rattle.pt_case.specs.declared.region.Region.{Region}
use Rattle.pt_case.specs.declared.span.Span.{Span}
use Rattle.pt_case.specs.Region.{leave_innermost, spans_at}
use Rattle.pt_case.specs.Step.{Answer, Cut}
use Rattle.pt_plan.specs.Plan.{Plan, Gives, Rejects, Faults, Asks, Enters, Leaves, Notes}
use Rattle.pt_plan.specs.Every.{GivesOnly, NotesNothing}
use Rattle.pt_plan.specs.Mark.{Mark, Derived, entered, mark_from, cut_from}
use Rattle.pt_plan.specs.Says.{answer_at, plan_says}
use Rattle.pt_plan.proofs.MarkLemmas.{some-admitted}
use Rattle.pt_typed.specs.Property.{value_note, property_plan, notes_of}

out-some : {X : Type 0} {one other : X} → Some one ≡ Some other → one ≡ other
out-some is = cc

module _ (In : Val → Type 0) (verdict : Val → Ending) where
  -- each of these notes shows a value of the set
  abbrev Shown : List Note → Type 0
  Shown notes = All (λ note. In note.val) notes

  none-shown : Shown []
  none-shown = All-nil (λ note. In note.val)

  -- what stands after choices
  mark-drawn : (inner : Plan Val) (here : ℕ) (regions : List Region) (choices : List Choice) (mark : Mark Ending) → GivesOnly In inner → NotesNothing inner →
      mark_from (property_plan inner verdict) here regions [] choices ≡ Some mark → Shown (notes_of (answer_at mark))
  mark-drawn (Gives value) here regions [] mark only silent is =
      let same : Derived (verdict value) (spans_at here regions) (value_note value ∷ []) ≡ mark = cc in
      subst (λ m. Shown (notes_of (answer_at m))) same (All-cons (λ note. In note.val) (value_note value) [] only none-shown)
  mark-drawn (Gives value) here regions (choice ∷ choices) mark only silent is = cc
  mark-drawn Rejects here regions [] mark only silent is = let same = out-some is in subst (λ m. Shown (notes_of (answer_at m))) same none-shown
  mark-drawn Rejects here regions (choice ∷ choices) mark only silent is = cc
  mark-drawn (Faults origin) here regions [] mark only silent is = let same = out-some is in subst (λ m. Shown (notes_of (answer_at m))) same none-shown
  mark-drawn (Faults origin) here regions (choice ∷ choices) mark only silent is = cc
  mark-drawn (Asks kind next) here regions [] mark only silent is = let same = out-some is in subst (λ m. Shown (notes_of (answer_at m))) same none-shown
  mark-drawn (Asks kind next) here regions (choice ∷ choices) mark only silent is =
      let way = some-admitted kind choice (mark_from (property_plan (next choice) verdict) (here + 1) regions [] choices) mark is in
      mark-drawn (next choice) (here + 1) regions choices mark (only choice way.0) (silent choice way.0) way.1
  mark-drawn (Enters label next) here regions choices mark only silent is = mark-drawn next here (entered label here regions) choices mark only silent is
  mark-drawn (Leaves next) here regions choices mark only silent is = mark-drawn next here (leave_innermost here regions) choices mark only silent is
  mark-drawn (Notes note next) here regions choices mark only silent is = absurd silent

  -- and where a span too many is wanted
  cut-drawn : (count : ℕ) (inner : Plan Val) (here : ℕ) (regions : List Region) (choices : List Choice) (made : List Span × List Note) → GivesOnly In inner →
      NotesNothing inner → cut_from count (property_plan inner verdict) here regions [] choices ≡ Some made → Shown made.1
  cut-drawn count (Gives value) here regions choices made only silent is = cc
  cut-drawn count Rejects here regions choices made only silent is = cc
  cut-drawn count (Faults origin) here regions choices made only silent is = cc
  cut-drawn count (Asks kind next) here regions [] made only silent is = cc
  cut-drawn count (Asks kind next) here regions (choice ∷ choices) made only silent is =
      let way = some-admitted kind choice (cut_from count (property_plan (next choice) verdict) (here + 1) regions [] choices) made is in
      cut-drawn count (next choice) (here + 1) regions choices made (only choice way.0) (silent choice way.0) way.1
  cut-drawn count (Enters label next) here regions [] made only silent is =
      at (nat_eq count (length regions)) (λ later. cut-drawn count next here (entered label here regions) [] made only silent later) is
    where
      at : (full : Bool) → (cut_from count (property_plan next verdict) here (entered label here regions) [] [] ≡ Some made → Shown made.1) →
          (if full then Some (spans_at here regions, []) else cut_from count (property_plan next verdict) here (entered label here regions) [] []) ≡ Some made →
          Shown made.1
      at true later is = let same : (spans_at here regions, []) ≡ made = cc in subst (λ (m : List Span × List Note). Shown m.1) same none-shown
      at false later is = later is
  cut-drawn count (Enters label next) here regions (choice ∷ choices) made only silent is =
      cut-drawn count next here (entered label here regions) (choice ∷ choices) made only silent is
  cut-drawn count (Leaves next) here regions choices made only silent is = cut-drawn count next here (leave_innermost here regions) choices made only silent is
  cut-drawn count (Notes note next) here regions choices made only silent is = absurd silent

  -- so each answer shows values of the set
  pub says-drawn : (inner : Plan Val) (choices : List Choice) (answer : Answer) → GivesOnly In inner → NotesNothing inner →
      plan_says (property_plan inner verdict) choices answer → Shown (notes_of answer)
  says-drawn inner choices answer only silent said =
      at (cut_from 1024 (property_plan inner verdict) 0 [] [] choices) (mark_from (property_plan inner verdict) 0 [] [] choices)
      (λ made. cut-drawn 1024 inner 0 [] choices made only silent) (λ mark. mark-drawn inner 0 [] choices mark only silent) said
    where
      at : (cut : Option (List Span × List Note)) (mark : Option (Mark Ending)) → ((made : List Span × List Note) → cut ≡ Some made → Shown made.1) →
          ((m : Mark Ending) → mark ≡ Some m → Shown (notes_of (answer_at m))) →
          option_or (option_map (λ made. Cut made.0 made.1) cut) (option_map answer_at mark) ≡ Some answer → Shown (notes_of answer)
      at (Some made) mark cuts marks said = let same : Cut made.0 made.1 ≡ answer = cc in subst (λ a. Shown (notes_of a)) same (cuts made refl)
      at None (Some mark) cuts marks said = let same : answer_at mark ≡ answer = cc in subst (λ a. Shown (notes_of a)) same (marks mark refl)
      at None None cuts marks said = cc
