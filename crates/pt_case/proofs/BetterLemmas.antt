-- What is no better than a failure stays no better.
use Rattle.std.proofs.Common.{List, sym, ◌∙◌, ap, subst, refl, inl, inr}
use Rattle.pt_choice.specs.declared.choice.Choice.{Choice}
use Rattle.pt_choice.specs.Order.{IsShorter}
use Rattle.pt_choice.proofs.OrderLemmas.{shortlex-total, not_shorter-itself}
use Rattle.pt_case.specs.Ending.{is_failure}
use Rattle.pt_case.specs.Source.{Listed}
use Rattle.pt_case.specs.Step.{Answer}
use Rattle.pt_case.specs.Run.{IsRecord}
use Rattle.pt_case.specs.Better.{IsBetter, IsAsGood}
use Rattle.pt_case.specs.declared.record.Record.{Record}
use Rattle.pt_case.proofs.RecordLemmas.{record-once}

pub as_good-itself : (one : Record) → IsAsGood one one
as_good-itself one = record { alike = refl; below = inl refl }

pub as_good-trans : (one two three : Record) → IsAsGood one two → IsAsGood two three → IsAsGood one three
as_good-trans one two three first second = record {
  alike = first.alike ∙ second.alike;
  below = elim first.below [
    | inl same ↦ elim second.below [
      | inl also ↦ inl (same ∙ also)
      | inr less ↦ inr (subst (λ choices. IsShorter choices three.choices) (sym same) less)
    ]
    | inr less ↦ elim second.below [
      | inl same ↦ inr (subst (λ choices. IsShorter one.choices choices) same less)
      | inr more ↦ inr (shortlex-total.trans one.choices two.choices three.choices less more)
    ]
  ];
}

module _ (step : List Choice → Answer → Type 0) where
  -- what is better than a failure is as good
  pub better-as_good : (list : List Choice) (best : Record) (better : IsBetter step list best) → IsAsGood better.rec best
  better-as_good list best better = record { alike = better.alike; below = inr better.shorter }

  -- a list that is no better than a failure is no better than one as good
  pub no_better-below : (list : List Choice) (best lower : Record) → IsAsGood lower best → ¬ IsBetter step list best → ¬ IsBetter step list lower
  no_better-below list best lower good never better = never (record {
    rec = better.rec;
    is = better.is;
    fails = sym (ap is_failure good.alike) ∙ better.fails;
    alike = better.alike ∙ good.alike;
    shorter = elim good.below [
      | inl same ↦ subst (λ choices. IsShorter better.rec.choices choices) same better.shorter
      | inr less ↦ shortlex-total.trans better.rec.choices lower.choices best.choices better.shorter less
    ];
  })

  -- a list is no better than its own record
  pub no_better-itself : (list : List Choice) (best : Record) → IsRecord step list best → ¬ IsBetter step list best
  no_better-itself list best is better =
      let same = record-once step (Listed list) better.rec best better.is is in
      not_shorter-itself best.choices (subst (λ rec. IsShorter rec.choices best.choices) same better.shorter)
