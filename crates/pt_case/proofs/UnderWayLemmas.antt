-- How a run of a check goes on, and how it ends.
use Rattle.std.proofs.Common.{◌≡◌, ℕ, zero, suc, ◌+◌, ◌<◌, ◌≤◌, true, false, Option, Some, None, List, [], ◌∷◌, ◌++◌, length, inl, inr, refl, sym, ◌∙◌, ap, subst, arith, length-append}
use Rattle.std.specs.Prelude.{slice_get, IfOk, IsErrOf, Err}
use Rattle.std.proofs.lemmas.List.{length-map}
use Rattle.pt_choice.specs.Kind.{admits}
use Rattle.pt_choice.specs.declared.choice.Choice.{Choice}
use Rattle.pt_choice.specs.declared.kind.Shape.{Shape}
use Rattle.pt_case.specs.declared.ending.Ending.{Ending}
use Rattle.pt_case.specs.declared.ending.Ending.TheVariants.{Overrun}
use Rattle.pt_case.specs.declared.refused.Refused.TheVariants.{Question, Entry}
use Rattle.pt_case.specs.Ending.{is_overrun}
use Rattle.pt_case.specs.Source.{Source, answer_to, left_after, AnswersAll}
use Rattle.pt_case.specs.Region.{ended, spans_at}
use Rattle.pt_case.specs.Step.{Answer, Ask, End, Cut, Says, AsksFor, IsAsked}
use Rattle.pt_case.specs.State.{State, IsNew, IsOver, IsFilled, Answered, Entered, new_state, after_draw, after_enter, after_leave, after_note, stopped_at}
use Rattle.pt_case.specs.Run.{Ran}
use Rattle.pt_case.specs.UnderWay.{IsUnderWay, ending_of}
use Rattle.pt_case.specs.declared.stop.Stop.{Stop}
use Rattle.pt_case.specs.declared.stop.Stop.TheVariants as stop
use Rattle.pt_case.specs.declared.region.Region.{Region}
use Rattle.pt_case.specs.declared.note.Note.{Note}
use Rattle.pt_case.specs.declared.refused.Refused.{Refused}
use Rattle.pt_case.proofs.PlacedLemmas.{get_pushed}

-- one more question
asked-pushed : (step : List Choice → Answer → Type 0) (path : List Choice) (kinds : List Shape) (kind : Shape) (choice : Choice) →
    IsAsked step path kinds → length path < 256 → admits kind choice ≡ true → AsksFor step path kind →
    IsAsked step (path ++ choice ∷ []) (kinds ++ kind ∷ [])
asked-pushed step path kinds kind choice was room admitted asks = record {
  as_many = length-append kinds (kind ∷ []) ∙ ap (λ n. n + 1) was.as_many ∙ sym (length-append path (choice ∷ []));
  short = omega (arith, length-append path (choice ∷ []));
  each = λ i k c ek ec. elim (get_pushed kinds kind i k ek) [
    | inl h ↦ elim (get_pushed path choice i c ec) [
      | inl g ↦ rw g.1 (was.each i k c h.0 g.0)
      | inr g ↦ absurd (beyond kinds i k h.0 (omega (arith, g.0, was.as_many)))
    ]
    | inr h ↦ elim (get_pushed path choice i c ec) [
      | inl g ↦ absurd (beyond path i c g.0 (omega (arith, h.0, was.as_many)))
      | inr g ↦ rw (h.1, g.1, g.2) (admitted, asks)
    ]
  ];
}
  where
    beyond : {X : Type 0} (xs : List X) (i : ℕ) (x : X) → slice_get xs i ≡ Some x → length xs ≤ i → ⊥
    beyond [] i x e l = cc
    beyond (y ∷ ys) zero x e l = omega arith
    beyond (y ∷ ys) (suc i) x e l = beyond ys i x e (omega arith)

answered-pushed : (source : Source) (kinds : List Shape) (path : List Choice) (left : Source) (kind : Shape) (choice : Choice) (after : Source) →
    AnswersAll source kinds path left → answer_to left kind ≡ Some choice → after ≡ left_after left kind →
    AnswersAll source (kinds ++ kind ∷ []) (path ++ choice ∷ []) after
answered-pushed source [] [] left kind choice after all answer e = (rw all at answer, e ∙ ap (λ s. left_after s kind) all)
answered-pushed source (k ∷ ks) (c ∷ cs) left kind choice after all answer e =
    (all.0, answered-pushed (left_after source k) ks cs left kind choice after all.1 answer e)
answered-pushed source [] (c ∷ cs) left kind choice after all answer e = absurd all
answered-pushed source (k ∷ ks) [] left kind choice after all answer e = absurd all

-- a new case is under way
pub under_way-new : (step : List Choice → Answer → Type 0) (case : State) → IsNew case → IsUnderWay step case case
under_way-new step case new = record {
  kinds = [];
  asked = rw new.no_choices record { as_many = refl; short = omega arith; each = λ i k c ek ec. cc };
  answered = subst (λ cs. AnswersAll case.left [] cs case.left) (sym new.no_choices) refl;
  going = new.going;
}

-- an answer to what the check asks for
pub under_way-drawn : (step : List Choice → Answer → Type 0) (old now : State) (kind : Shape) (choice : Choice) (after : State) →
    IsUnderWay step old now → AsksFor step now.choices kind → Answered now kind choice after → IsUnderWay step old after
under_way-drawn step old now kind choice after way asks drawn = rw drawn.kept record {
  kinds = way.kinds ++ kind ∷ [];
  asked = asked-pushed step now.choices way.kinds kind choice way.asked drawn.room drawn.admitted asks;
  answered = answered-pushed old.left way.kinds now.choices now.left kind choice (left_after now.left kind) way.answered drawn.answer refl;
  going = way.going;
}

-- spans and notes change nothing of that
pub under_way-kept : (step : List Choice → Answer → Type 0) (old now after : State) → IsUnderWay step old now →
    after.left ≡ now.left → after.choices ≡ now.choices → after.refused ≡ now.refused → IsUnderWay step old after
under_way-kept step old now after way left choices refused = record {
  kinds = way.kinds;
  asked = rw choices way.asked;
  answered = rw (left, choices) way.answered;
  going = refused ∙ way.going;
}

-- the check ends
pub ran-ended : (step : List Choice → Answer → Type 0) (old now : State) (ending : Ending) → IsUnderWay step old now →
    Says step now.choices (End ending (spans_at (length now.choices) now.regions) now.notes) → is_overrun ending ≡ false →
    Ran step old now ending
ran-ended step old now ending way says shows = record {
  answer = End ending (spans_at (length now.choices) now.regions) now.notes;
  followed = record { kinds = way.kinds; asked = way.asked; answered = way.answered; says = says; whole = tt };
  shown = (shows, refl, refl, refl);
  refused = way.going;
}

-- the case refuses what the check asks for
pub ran-refused : (step : List Choice → Answer → Type 0) (old now : State) (kind : Shape) (after : State) → IsUnderWay step old now →
    Says step now.choices (Ask kind (spans_at (length now.choices) now.regions) now.notes) → IsOver now → after ≡ stopped_at now (Question kind) →
    Ran step old after Overrun
ran-refused step old now kind after way says over stopped = rw stopped record {
  answer = Ask kind (spans_at (length now.choices) now.regions) now.notes;
  followed = record {
    kinds = way.kinds;
    asked = way.asked;
    answered = way.answered;
    says = says;
    whole = elim over [ inl h ↦ let stuck = rw way.going at h in cc | inr h ↦ h ];
  };
  shown = (refl, refl, refl);
  refused = rw way.going refl;
}

-- the case refuses the span that the check wants
pub ran-cut : (step : List Choice → Answer → Type 0) (old now after : State) → IsUnderWay step old now →
    Says step now.choices (Cut (spans_at (length now.choices) now.regions) now.notes) → IsFilled now → after ≡ stopped_at now Entry →
    Ran step old after Overrun
ran-cut step old now after way says filled stopped = rw stopped record {
  answer = Cut (spans_at (length now.choices) now.regions) now.notes;
  followed = record {
    kinds = way.kinds;
    asked = way.asked;
    answered = way.answered;
    says = says;
    whole = elim filled [
      | inl h ↦ let stuck = rw way.going at h in cc
      | inr h ↦ length-map now.regions (ended (length now.choices)) ∙ h
    ];
  };
  shown = (refl, refl, refl);
  refused = rw way.going refl;
}

-- a new case has nothing
pub new-is : (case : State) → IsNew case → case ≡ new_state case.left
new-is case new = same case.left case.choices case.regions case.notes case.refused new.no_choices new.no_regions new.no_notes new.going
  where
    same : (left : Source) (choices : List Choice) (regions : List Region) (notes : List Note) (refused : Option Refused) →
        choices ≡ [] → regions ≡ [] → notes ≡ [] → refused ≡ None →
        (let case : State = record { left = left; choices = choices; regions = regions; notes = notes; refused = refused } in case ≡ new_state left)
    same left choices regions notes refused c r n e = rw (c, r, n, e) refl

-- a question that is not answered ends a run that stops with the case
pub ran-stopped : (step : List Choice → Answer → Type 0) (old now : State) (kind : Shape) (after : State) (why : Stop) → IsUnderWay step old now →
    Says step now.choices (Ask kind (spans_at (length now.choices) now.regions) now.notes) →
    (IsErrOf {T = Choice} (Err why) stop.Overrun → IsOver now) → (IsErrOf {T = Choice} (Err why) stop.Overrun → after ≡ stopped_at now (Question kind)) →
    IfOk (ending_of (Err why)) (λ ending. Ran step old after ending)
ran-stopped step old now kind after stop.Overrun way says over stopped = ran-refused step old now kind after way says (over refl) (stopped refl)
ran-stopped step old now kind after stop.NoMemory way says over stopped = tt

-- a span is entered: the run goes on from the state that the code has now, which is this one
pub enter-on : (step : List Choice → Answer → Type 0) (old now here : State) (label : ℕ) (after : State) → IsUnderWay step old now → now ≡ here →
    Entered now label after → IsUnderWay step old after × (after ≡ after_enter here label)
enter-on step old now here label after way is entered = (
  under_way-kept step old now after way (ap (λ s. s.left) entered.kept) (ap (λ s. s.choices) entered.kept) (ap (λ s. s.refused) entered.kept),
  entered.kept ∙ ap (λ s. after_enter s label) is,
)

-- the innermost span is left
pub leave-on : (step : List Choice → Answer → Type 0) (old now here after : State) → IsUnderWay step old now → now ≡ here →
    after ≡ after_leave now → IsUnderWay step old after × (after ≡ after_leave here)
leave-on step old now here after way is left = (
  under_way-kept step old now after way (ap (λ s. s.left) left) (ap (λ s. s.choices) left) (ap (λ s. s.refused) left),
  left ∙ ap (λ s. after_leave s) is,
)

-- a value is noted
pub note-on : (step : List Choice → Answer → Type 0) (old now here : State) (note : Note) (after : State) → IsUnderWay step old now → now ≡ here →
    after ≡ after_note now note → IsUnderWay step old after × (after ≡ after_note here note)
note-on step old now here note after way is noted = (
  under_way-kept step old now after way (ap (λ s. s.left) noted) (ap (λ s. s.choices) noted) (ap (λ s. s.refused) noted),
  noted ∙ ap (λ s. after_note s note) is,
)

-- a question is answered
pub draw-on : (step : List Choice → Answer → Type 0) (old now here : State) (kind : Shape) (choice : Choice) (after : State) → IsUnderWay step old now → now ≡ here →
    AsksFor step here.choices kind → Answered now kind choice after → IsUnderWay step old after × (after ≡ after_draw here kind choice)
draw-on step old now here kind choice after way is asks drawn =
    (under_way-drawn step old now kind choice after way (rw is asks) drawn, drawn.kept ∙ ap (λ s. after_draw s kind choice) is)

-- a check that is said by a function has that function's answers
pub says-function : (answer : List Choice → Answer) (path : List Choice) → Says (λ cs said. said ≡ answer cs) path (answer path)
says-function answer path = record { said = refl; only = λ other e. e }
