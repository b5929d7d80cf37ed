-- A list has one record.
use Rattle.std.proofs.Common.{◌≡◌, ◌≤◌, List, [], length, sym, ◌∙◌, ap, subst}
use Rattle.std.specs.Prelude.{All}
use Rattle.std.proofs.Props.{props}
use Rattle.pt_choice.specs.declared.choice.Choice.{Choice}
use Rattle.pt_case.specs.declared.ending.Ending.{Ending}
use Rattle.pt_case.specs.declared.span.Span.{Span}
use Rattle.pt_case.specs.declared.note.Note.{Note}
use Rattle.pt_case.specs.declared.record.Record.{Record}
use Rattle.pt_choice.specs.Limits.{IsInLimits, IsInLimits-prop}
use Rattle.pt_case.specs.Placed.{ArePlaced}
use Rattle.pt_case.specs.Source.{Source, Listed}
use Rattle.pt_case.specs.Step.{Answer, Ask, End, Cut}
use Rattle.pt_case.specs.Run.{Shows, IsRecordOver}
use Rattle.pt_case.proofs.PathLemmas.{followed-once, followed-again}

-- an answer shows one ending, one list of spans and one of notes
shown_once : (answer : Answer) (e f : Ending) (s t : List Span) (n o : List Note) → Shows answer e s n → Shows answer f t o →
    (e ≡ f) × (s ≡ t) × (n ≡ o)
shown_once (Ask kind spans notes) e f s t n o one other = (one.0 ∙ sym other.0, one.1 ∙ sym other.1, one.2 ∙ sym other.2)
shown_once (Cut spans notes) e f s t n o one other = (one.0 ∙ sym other.0, one.1 ∙ sym other.1, one.2 ∙ sym other.2)
shown_once (End ending spans notes) e f s t n o one other = (one.1 ∙ sym other.1, one.2 ∙ sym other.2, one.3 ∙ sym other.3)

-- the facts that a record keeps have one proof each, so records with the same fields are the same
made : (choices : List Choice) (spans : List Span) (notes : List Note) (ending : Ending) →
    length choices ≤ 256 → All IsInLimits choices → length spans ≤ 1024 → ArePlaced (length choices) spans → Record
made choices spans notes ending a b d p = record {
  choices = choices;
  spans = spans;
  notes = notes;
  ending = ending;
  few_choices = a;
  in_limits = b;
  few_spans = d;
  placed = p;
}

module _ (choices : List Choice) (spans : List Span) (notes : List Note) (ending : Ending) where
  Same : (c : List Choice) (s : List Span) (n : List Note) (e : Ending) → Type 0
  Same c s n e =
      (a : length choices ≤ 256) (b : All IsInLimits choices) (d : length spans ≤ 1024) (p : ArePlaced (length choices) spans)
      (a' : length c ≤ 256) (b' : All IsInLimits c) (d' : length s ≤ 1024) (p' : ArePlaced (length c) s) →
      made choices spans notes ending a b d p ≡ made c s n e a' b' d' p'

  same_facts : Same choices spans notes ending
  unfolding Same
  same_facts a b d p a' b' d' p' =
      let limits : IsProp (All IsInLimits choices) = hlevel (props, IsInLimits-prop) in
      let placed : IsProp (ArePlaced (length choices) spans) = hlevel props in
      let few : IsProp (length choices ≤ 256) = hlevel props in
      let fewer : IsProp (length spans ≤ 1024) = hlevel props in
      ap (λ x. made choices spans notes ending x b d p) (few a a') ∙ ap (λ x. made choices spans notes ending a' x d p) (limits b b')
      ∙ ap (λ x. made choices spans notes ending a' b' x p) (fewer d d') ∙ ap (λ x. made choices spans notes ending a' b' d' x) (placed p p')

  same_fields : (c : List Choice) (s : List Span) (n : List Note) (e : Ending) → choices ≡ c → spans ≡ s → notes ≡ n → ending ≡ e → Same c s n e
  same_fields c s n e ec es en ee =
      subst (λ x. Same c s n x) ee (subst (λ x. Same c s x ending) en (subst (λ x. Same c x notes ending) es (subst (λ x. Same x spans notes ending) ec same_facts)))

same_record : (one other : Record) → one.choices ≡ other.choices → one.spans ≡ other.spans → one.notes ≡ other.notes →
    one.ending ≡ other.ending → one ≡ other
unfolding Same made
same_record one other c s n e =
    same_fields one.choices one.spans one.notes one.ending other.choices other.spans other.notes other.ending c s n e
    one.few_choices one.in_limits one.few_spans one.placed other.few_choices other.in_limits other.few_spans other.placed

pub record-once : (step : List Choice → Answer → Type 0) (source : Source) (one other : Record) →
    IsRecordOver step source one → IsRecordOver step source other → one ≡ other
record-once step source one other is also =
    let path = followed-once step source one.choices other.choices is.left also.left is.answer also.answer is.followed also.followed in
    let shows : Shows is.answer other.ending other.spans other.notes = rw path.1 also.shown in
    let same = shown_once is.answer one.ending other.ending one.spans other.spans one.notes other.notes is.shown shows in
    same_record one other path.0 same.1 same.2 same.0

pub record-again : (step : List Choice → Answer → Type 0) (source : Source) (rec : Record) →
    IsRecordOver step source rec → IsRecordOver step (Listed rec.choices) rec
record-again step source rec is = record {
  left = Listed [];
  answer = is.answer;
  followed = followed-again step source rec.choices is.left is.answer is.followed;
  shown = is.shown;
}
