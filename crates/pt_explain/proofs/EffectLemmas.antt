-- What a record shows of the choice at a place.
use Rattle.std.proofs.Common.{◌≡◌, ◌<◌, ◌≤◌, ℕ, Some, List, length, get_or, sym, ap, ◌∙◌, arith}
use Rattle.std.specs.Prelude.{Result, Ok, Err, IfOk, slice_set}
use Rattle.std.proofs.lemmas.Option.{slice_get_within, slice_get-get_or, get_or_from_slice_get}
use Rattle.pt_choice.specs.declared.choice.Choice.{Choice}
use Rattle.pt_choice.specs.declared.memory.NoMemory.{NoMemory}
use Rattle.pt_case.specs.Step.{Answer}
use Rattle.pt_case.specs.Run.{IsRecord}
use Rattle.pt_case.specs.declared.record.Record.{Record}
use Rattle.pt_explain.specs.declared.effect.Effect.{Effect}
use Rattle.pt_explain.specs.declared.effect.Effect.TheVariants as effect
use Rattle.pt_explain.specs.Replaced.{IsMoved, IsUnmoved}
use Rattle.pt_explain.specs.Tally.{HasEffect, Shows}

pub unmoved-past : (best rec : Record) (place : ℕ) → length rec.choices ≤ place → IsUnmoved best place rec
unmoved-past best rec place past choice at = let within = slice_get_within rec.choices place choice at in absurd (omega arith)

module _ (best rec : Record) (place : ℕ) (d e : Choice) (in_best : place < length best.choices) (in_rec : place < length rec.choices) where
  pub unmoved-same : get_or rec.choices place d ≡ get_or best.choices place e → IsUnmoved best place rec
  unmoved-same same choice at =
      slice_get-get_or best.choices place e in_best ∙ ap Some (sym same ∙ get_or_from_slice_get rec.choices place choice d at)

  pub moved : ¬ (get_or rec.choices place d ≡ get_or best.choices place e) → IsMoved best place rec (get_or rec.choices place d)
  moved differ = record {
    there = slice_get-get_or rec.choices place d in_rec;
    other = λ at. differ (sym (get_or_from_slice_get best.choices place (get_or rec.choices place d) e at));
  }

pub effect-had : (step : List Choice → Answer → Type 0) (best : Record) (place : ℕ) (member : Choice) (rec : Record) →
    IsRecord step (slice_set best.choices place member) rec → (result : Result Effect NoMemory) → IfOk result (λ effect. Shows best place rec effect) →
    IfOk result (λ effect. HasEffect step best place member effect)
effect-had step best place member rec is (Ok effect.Repaired) shows = record { rec = rec; is = is; unmoved = shows }
effect-had step best place member rec is (Ok effect.Alike) shows =
    record { rec = rec; choice = shows.0; counts = record { is = is; moved = shows.1 }; alike = shows.2 }
effect-had step best place member rec is (Ok (effect.Differs choice)) shows =
    record { rec = rec; counts = record { is = is; moved = shows.0 }; unlike = shows.1 }
effect-had step best place member rec is (Err e) shows = tt
