-- What stands after the choices of a run that a plan leads.
use Rattle.std.proofs.Common.{◌≡◌, ℕ, ◌+◌, ◌<◌, false, Option, Some, None, Result, List, [], ◌∷◌, ◌++◌, length, inl, inr, refl, sym, ◌∙◌, ap, arith, length-append, append_assoc}
use Rattle.std.proofs.lemmas.Bool.Decides.{nat_tests}
use Rattle.std.proofs.lemmas.List.{append-nil}
use Rattle.std.specs.Prelude.{nat_eq}
use Rattle.pt_choice.specs.declared.choice.Choice.{Choice}
use Rattle.pt_choice.specs.declared.kind.Shape.{Shape}
use Rattle.pt_case.specs.declared.note.Note.{Note}
use Rattle.pt_case.specs.declared.span.Span.{Span}
use Rattle.pt_case.specs.Region.{spans_at}
use Rattle.pt_case.specs.State.{State, IsNew, Answered, Entered, after_leave, after_note}
use Rattle.pt_plan.specs.Halt.{Halt}
use Rattle.pt_plan.specs.Plan.{Plan, Gives, Rejects, Faults, Asks, Enters, Leaves, Notes}
use Rattle.pt_plan.specs.Came.{Came}
use Rattle.pt_plan.specs.Mark.{Mark, entered, mark_from, cut_from}
use Rattle.pt_plan.specs.Stands.{Stands}
use Rattle.pt_plan.proofs.MarkLemmas.{mark-admitted, cut-admitted}

-- A case that was led so far by the whole plan, and to which this is left of it: after further choices there stands of the whole
-- what stands of the rest.
pub record GoesOn {A : Type 0} (whole rest : Plan A) (now : State) : Type 0 where
  pub going : now.refused ≡ None
  pub marks : (choices : List Choice) → mark_from whole 0 [] [] (now.choices ++ choices) ≡ mark_from rest (length now.choices) now.regions now.notes choices
  pub cuts : (choices : List Choice) → cut_from 1024 whole 0 [] [] (now.choices ++ choices) ≡ cut_from 1024 rest (length now.choices) now.regions now.notes choices

-- at the start
pub goes_on-new : {A : Type 0} (plan : Plan A) (case : State) → IsNew case → GoesOn plan plan case
goes_on-new plan case new = record {
  going = new.going;
  marks = λ choices. rw (new.no_choices, new.no_regions, new.no_notes) refl;
  cuts = λ choices. rw (new.no_choices, new.no_regions, new.no_notes) refl;
}

-- after an answer
pub goes_on-asked : {A : Type 0} (whole : Plan A) (kind : Shape) (next : Choice → Plan A) (now after : State) (choice : Choice) →
    GoesOn whole (Asks kind next) now → Answered now kind choice after → GoesOn whole (next choice) after
goes_on-asked whole kind next now after choice on answered = rw answered.kept record {
  going = on.going;
  marks = λ choices.
      ap (λ cs. mark_from whole 0 [] [] cs) (append_assoc now.choices (choice ∷ []) choices) ∙ on.marks (choice ∷ choices)
      ∙ mark-admitted kind next (length now.choices) now.regions now.notes choice choices answered.admitted
      ∙ ap (λ n. mark_from (next choice) n now.regions now.notes choices) (sym more);
  cuts = λ choices.
      ap (λ cs. cut_from 1024 whole 0 [] [] cs) (append_assoc now.choices (choice ∷ []) choices) ∙ on.cuts (choice ∷ choices)
      ∙ cut-admitted 1024 kind next (length now.choices) now.regions now.notes choice choices answered.admitted
      ∙ ap (λ n. cut_from 1024 (next choice) n now.regions now.notes choices) (sym more);
}
  where
    more : length (now.choices ++ choice ∷ []) ≡ length now.choices + 1
    more = length-append now.choices (choice ∷ [])

-- where there is room for a span, none is cut
not-full : (count : ℕ) → count < 1024 → nat_eq 1024 count ≡ false
not-full count few = grind (arith, nat_tests)

cut-entered : {A : Type 0} (label : ℕ) (next : Plan A) (now : State) (choices : List Choice) → length now.regions < 1024 →
    cut_from 1024 (Enters label next) (length now.choices) now.regions now.notes choices
    ≡ cut_from 1024 next (length now.choices) (entered label (length now.choices) now.regions) now.notes choices
cut-entered label next now [] room = rw (not-full (length now.regions) room) refl
cut-entered label next now (choice ∷ choices) room = refl

-- after a span was entered
pub goes_on-entered : {A : Type 0} (whole : Plan A) (label : ℕ) (next : Plan A) (now after : State) →
    GoesOn whole (Enters label next) now → Entered now label after → GoesOn whole next after
goes_on-entered whole label next now after on done = rw done.kept record {
  going = on.going;
  marks = λ choices. on.marks choices;
  cuts = λ choices. on.cuts choices ∙ cut-entered label next now choices done.room;
}

-- after one was left, and after a note
pub goes_on-left : {A : Type 0} (whole next : Plan A) (now : State) → GoesOn whole (Leaves next) now → GoesOn whole next (after_leave now)
goes_on-left whole next now on = record { going = on.going; marks = on.marks; cuts = on.cuts }

pub goes_on-noted : {A : Type 0} (whole : Plan A) (note : Note) (next : Plan A) (now : State) → GoesOn whole (Notes note next) now → GoesOn whole next (after_note now note)
goes_on-noted whole note next now on = record { going = on.going; marks = on.marks; cuts = on.cuts }

-- what stands where the case is
pub marked-here : {A : Type 0} (whole rest : Plan A) (now : State) (mark : Mark A) → GoesOn whole rest now →
    mark_from rest (length now.choices) now.regions now.notes [] ≡ Some mark → mark_from whole 0 [] [] now.choices ≡ Some mark
marked-here whole rest now mark on is = ap (λ cs. mark_from whole 0 [] [] cs) (sym (append-nil now.choices)) ∙ on.marks [] ∙ is

pub cut-here : {A : Type 0} (whole rest : Plan A) (now : State) (cut : Option (List Span × List Note)) → GoesOn whole rest now →
    cut_from 1024 rest (length now.choices) now.regions now.notes [] ≡ cut → cut_from 1024 whole 0 [] [] now.choices ≡ cut
cut-here whole rest now cut on is = ap (λ cs. cut_from 1024 whole 0 [] [] cs) (sym (append-nil now.choices)) ∙ on.cuts [] ∙ is

-- a span past the 1,024th
pub cut-full : {A : Type 0} (label : ℕ) (next : Plan A) (now : State) → length now.regions ≡ 1024 →
    cut_from 1024 (Enters label next) (length now.choices) now.regions now.notes [] ≡ Some (spans_at (length now.choices) now.regions, now.notes)
cut-full label next now many = rw many refl

-- What a plan came to stands after the choices that were made.
pub came-stands : {A : Type 0} (whole rest : Plan A) (now new : State) (outcome : Result A Halt) →
    GoesOn whole rest now → Came rest now new outcome → Stands whole new outcome
came-stands whole (Gives value) now new outcome on came = rw (came.0, came.1) (marked-here whole (Gives value) now _ on refl)
came-stands whole Rejects now new outcome on came = rw (came.0, came.1) (marked-here whole Rejects now _ on refl)
came-stands whole (Faults origin) now new outcome on came = rw (came.0, came.1) (marked-here whole (Faults origin) now _ on refl)
came-stands whole (Asks kind next) now new outcome on came = elim came [
  | inl h ↦ came-stands whole (next h.0) h.1 new outcome (goes_on-asked whole kind next now h.1 h.0 on h.2) h.3
  | inr h ↦ rw (h.0, h.2) (inl (kind, rw on.going refl, marked-here whole (Asks kind next) now _ on refl))
]
came-stands whole (Enters label next) now new outcome on came = elim came [
  | inl h ↦ came-stands whole next h.0 new outcome (goes_on-entered whole label next now h.0 on h.1) h.2
  | inr h ↦
      let many : length now.regions ≡ 1024 = elim h.1 [ inl g ↦ let stuck = rw on.going at g in cc | inr g ↦ g ] in
      rw (h.0, h.2) (inr (rw on.going refl, cut-here whole (Enters label next) now _ on (cut-full label next now many)))
]
came-stands whole (Leaves next) now new outcome on came = came-stands whole next (after_leave now) new outcome (goes_on-left whole next now on) came
came-stands whole (Notes note next) now new outcome on came = came-stands whole next (after_note now note) new outcome (goes_on-noted whole note next now on) came
