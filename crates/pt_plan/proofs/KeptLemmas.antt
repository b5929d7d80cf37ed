-- What stays of what a case had made before a call.
use Rattle.std.proofs.Common.{◌≡◌, ℕ, Bool, true, false, None, Result, List, [], ◌∷◌, ◌++◌, length, map, inl, inr, refl, sym, ◌∙◌, ap, append_assoc}
use Rattle.std.proofs.lemmas.List.{append-nil, map-append}
use Rattle.std.specs.Prelude.{is_some}
use Rattle.pt_case.specs.declared.region.Region.{Region}
use Rattle.pt_case.specs.Region.{innermost, leave_innermost}
use Rattle.pt_case.specs.State.{State, after_leave, after_note}
use Rattle.pt_plan.specs.Halt.{Halt}
use Rattle.pt_plan.specs.Plan.{Plan, Gives, Rejects, Faults, Asks, Enters, Leaves, Notes}
use Rattle.pt_plan.specs.Came.{Came}
use Rattle.pt_plan.specs.Kept.{KeepsMade, start_of, is_refusal}

same-made : (old new : State) → new.choices ≡ old.choices → map start_of new.regions ≡ map start_of old.regions → new.notes ≡ old.notes → KeepsMade old new
same-made old new choices spans notes = record {
  drawn = [];
  choices = choices ∙ sym (append-nil old.choices);
  starts = [];
  spans = spans ∙ sym (append-nil (map start_of old.regions));
  noted = [];
  notes = notes ∙ sym (append-nil old.notes);
}

-- what stayed up to a moment and from it on
made-then : (old mid new : State) → KeepsMade old mid → KeepsMade mid new → KeepsMade old new
made-then old mid new first later = record {
  drawn = first.drawn ++ later.drawn;
  choices = later.choices ∙ ap (λ cs. cs ++ later.drawn) first.choices ∙ append_assoc old.choices first.drawn later.drawn;
  starts = first.starts ++ later.starts;
  spans = later.spans ∙ ap (λ rs. rs ++ later.starts) first.spans ∙ append_assoc (map start_of old.regions) first.starts later.starts;
  noted = first.noted ++ later.noted;
  notes = later.notes ∙ ap (λ ns. ns ++ later.noted) first.notes ∙ append_assoc old.notes first.noted later.noted;
}

-- a span that is left was entered as before
starts-left : (here : ℕ) (regions : List Region) → map start_of (leave_innermost here regions) ≡ map start_of regions
starts-left here [] = refl
starts-left here (region ∷ regions) = split (starts-left here regions) (is_some (innermost regions)) refl
  where
    split : map start_of (leave_innermost here regions) ≡ map start_of regions → (later : Bool) → is_some (innermost regions) ≡ later →
        map start_of (leave_innermost here (region ∷ regions)) ≡ map start_of (region ∷ regions)
    split same true is = rw is (ap (λ rs. start_of region ∷ rs) same)
    split same false is = rw is refl

pub came-made : {A : Type 0} (plan : Plan A) (old new : State) (outcome : Result A Halt) → Came plan old new outcome → KeepsMade old new
came-made (Gives value) old new outcome came = same-made old new (ap (λ s. s.choices) came.1) (ap (λ s. map start_of s.regions) came.1) (ap (λ s. s.notes) came.1)
came-made Rejects old new outcome came = same-made old new (ap (λ s. s.choices) came.1) (ap (λ s. map start_of s.regions) came.1) (ap (λ s. s.notes) came.1)
came-made (Faults origin) old new outcome came = same-made old new (ap (λ s. s.choices) came.1) (ap (λ s. map start_of s.regions) came.1) (ap (λ s. s.notes) came.1)
came-made (Asks kind next) old new outcome came = elim came [
  | inl h ↦ made-then old h.1 new record {
    drawn = h.0 ∷ [];
    choices = ap (λ s. s.choices) h.2.kept;
    starts = [];
    spans = ap (λ s. map start_of s.regions) h.2.kept ∙ sym (append-nil (map start_of old.regions));
    noted = [];
    notes = ap (λ s. s.notes) h.2.kept ∙ sym (append-nil old.notes);
  } (came-made (next h.0) h.1 new outcome h.3)
  | inr h ↦ same-made old new (ap (λ s. s.choices) h.2) (ap (λ s. map start_of s.regions) h.2) (ap (λ s. s.notes) h.2)
]
came-made (Enters label next) old new outcome came = elim came [
  | inl h ↦
      let last : Region = record { label = label; from = length old.choices; to = None; parent = innermost old.regions } in
      made-then old h.0 new record {
        drawn = [];
        choices = ap (λ s. s.choices) h.1.kept ∙ sym (append-nil old.choices);
        starts = last ∷ [];
        spans = ap (λ s. map start_of s.regions) h.1.kept ∙ map-append start_of old.regions (last ∷ []);
        noted = [];
        notes = ap (λ s. s.notes) h.1.kept ∙ sym (append-nil old.notes);
      } (came-made next h.0 new outcome h.2)
  | inr h ↦ same-made old new (ap (λ s. s.choices) h.2) (ap (λ s. map start_of s.regions) h.2) (ap (λ s. s.notes) h.2)
]
came-made (Leaves next) old new outcome came =
    made-then old (after_leave old) new (same-made old (after_leave old) refl (starts-left (length old.choices) old.regions) refl)
    (came-made next (after_leave old) new outcome came)
came-made (Notes note next) old new outcome came =
    made-then old (after_note old note) new record {
      drawn = [];
      choices = sym (append-nil old.choices);
      starts = [];
      spans = sym (append-nil (map start_of old.regions));
      noted = note ∷ [];
      notes = refl;
    } (came-made next (after_note old note) new outcome came)

-- a case that was going is stopped exactly where it refused what came next
pub came-stopped : {A : Type 0} (plan : Plan A) (old new : State) (outcome : Result A Halt) → old.refused ≡ None → Came plan old new outcome →
    is_some new.refused ≡ is_refusal outcome
came-stopped (Gives value) old new outcome going came = rw (came.0, came.1, going) refl
came-stopped Rejects old new outcome going came = rw (came.0, came.1, going) refl
came-stopped (Faults origin) old new outcome going came = rw (came.0, came.1, going) refl
came-stopped (Asks kind next) old new outcome going came = elim came [
  | inl h ↦ came-stopped (next h.0) h.1 new outcome (ap (λ s. s.refused) h.2.kept ∙ going) h.3
  | inr h ↦ rw (h.0, h.2, going) refl
]
came-stopped (Enters label next) old new outcome going came = elim came [
  | inl h ↦ came-stopped next h.0 new outcome (ap (λ s. s.refused) h.1.kept ∙ going) h.2
  | inr h ↦ rw (h.0, h.2, going) refl
]
came-stopped (Leaves next) old new outcome going came = came-stopped next (after_leave old) new outcome going came
came-stopped (Notes note next) old new outcome going came = came-stopped next (after_note old note) new outcome going came
