-- The least failing record, one record more at a time.
use Rattle.std.proofs.Common.{◌≡◌, ◌⊎◌, ◌≢◌, ◌<◌, true, false, Option, Some, None, List, [], ◌∷◌, ◌++◌, refl, subst, sym, ap, ◌∙◌, arith, inl, inr}
use Rattle.std.specs.List.{Contains}
use Rattle.std.proofs.lemmas.Grind.{common_steps}
use Rattle.std.proofs.lemmas.List.Elements.{Contains-append_cases, Contains-push_cases, Contains-append_left, Contains-push}
use Rattle.pt_choice.specs.declared.choice.Choice.{Choice}
use Rattle.pt_choice.specs.Order.{shortlex, IsShorter}
use Rattle.pt_choice.proofs.OrderLemmas.{shortlex-total, shortlex-exact, strict}
use Rattle.pt_case.specs.Step.{Answer}
use Rattle.pt_case.specs.Source.{Listed}
use Rattle.pt_case.specs.Run.{IsRecord}
use Rattle.pt_case.specs.Ending.{is_failure}
use Rattle.pt_case.specs.declared.record.Record.{Record}
use Rattle.pt_case.proofs.RecordLemmas.{record-once, record-again}
use Rattle.pt_engine.specs.Outcome.{AreRecords, IsLeastFailure, failures}
use Rattle.pt_engine.specs.Progress.{IsLeastOf}
use Rattle.pt_engine.proofs.CountLemmas.{failures-push}

not_among : {P : Type 0} (rec : Record) → Contains [] rec → P
not_among rec among = let none : among.0 < 0 = among.1 in absurd (omega (arith, none))

among_first : (head : Record) (rest : List Record) (rec : Record) → Contains (head ∷ rest) rec → (head ≡ rec) ⊎ Contains rest rec
among_first head rest rec among = elim (Contains-append_cases (head ∷ []) rest rec among) [
  | inl one ↦ elim (Contains-push_cases [] head rec one) [ inl none ↦ not_among rec none | inr same ↦ inl same ]
  | inr later ↦ inr later
]

-- where none fails, no member fails
pub none-fails : (records : List Record) (rec : Record) → failures records ≡ 0 → Contains records rec → is_failure rec.ending ≢ true
none-fails [] rec none among fails = not_among rec among
none-fails (head ∷ records) rec none among fails = elim (among_first head records rec among) [
  | inl same ↦ (let here : is_failure head.ending ≡ true = subst (λ r. is_failure r.ending ≡ true) (sym same) fails in grind (arith, common_steps, here, none))
  | inr later ↦ none-fails records rec (grind (arith, common_steps, none)) later fails
]

not_shorter-itself : (choices : List Choice) → ¬ IsShorter choices choices
not_shorter-itself choices less = elim ((strict shortlex shortlex-total shortlex-exact).total choices choices) [
  | inl one ↦ one.1 refl
  | inr other ↦ elim other [ inl two ↦ two.0 less | inr three ↦ three.0 less ]
]

-- of two lists neither of which comes before the other, the one is the other
pub neither-shorter : (one other : List Choice) → ¬ IsShorter one other → ¬ IsShorter other one → one ≡ other
neither-shorter one other a b = elim ((strict shortlex shortlex-total shortlex-exact).total one other) [
  | inl less ↦ absurd (a less.0)
  | inr rest ↦ elim rest [ inl same ↦ same.1 | inr less ↦ absurd (b less.2) ]
]

-- one more that does not fail
pub least-passed : (records : List Record) (rec : Record) (least : Option Record) → IsLeastOf records least → is_failure rec.ending ≡ false →
    IsLeastOf (records ++ rec ∷ []) least
least-passed records rec None none passed = failures-push records rec none passed
least-passed records rec (Some least) is passed = record {
  among = Contains-append_left records (rec ∷ []) least is.among;
  fails = is.fails;
  least_choices = λ other among fails. elim (Contains-push_cases records rec other among) [
    | inl earlier ↦ is.least_choices other earlier fails
    | inr same ↦ (let here = subst (λ r. is_failure r.ending ≡ true) (sym same) fails in absurd (grind (arith, common_steps, here, passed)))
  ];
}

-- the first one that fails
pub least-first : (records : List Record) (rec : Record) → failures records ≡ 0 → is_failure rec.ending ≡ true → IsLeastFailure (records ++ rec ∷ []) rec
least-first records rec none failed = record {
  among = Contains-push records rec;
  fails = failed;
  least_choices = λ other among fails. elim (Contains-push_cases records rec other among) [
    | inl earlier ↦ absurd (none-fails records other none earlier fails)
    | inr same ↦ subst (λ r. ¬ IsShorter r.choices rec.choices) same (not_shorter-itself rec.choices)
  ];
}

-- one that is lower
pub least-lower : (records : List Record) (best rec : Record) → IsLeastFailure records best → is_failure rec.ending ≡ true →
    IsShorter rec.choices best.choices → IsLeastFailure (records ++ rec ∷ []) rec
least-lower records best rec is failed lower = record {
  among = Contains-push records rec;
  fails = failed;
  least_choices = λ other among fails. elim (Contains-push_cases records rec other among) [
    | inl earlier ↦ λ less. is.least_choices other earlier fails (shortlex-total.trans other.choices rec.choices best.choices less lower)
    | inr same ↦ subst (λ r. ¬ IsShorter r.choices rec.choices) same (not_shorter-itself rec.choices)
  ];
}

-- one that is not
pub least-kept : (records : List Record) (best rec : Record) → IsLeastFailure records best → ¬ IsShorter rec.choices best.choices →
    IsLeastFailure (records ++ rec ∷ []) best
least-kept records best rec is higher = record {
  among = Contains-append_left records (rec ∷ []) best is.among;
  fails = is.fails;
  least_choices = λ other among fails. elim (Contains-push_cases records rec other among) [
    | inl earlier ↦ is.least_choices other earlier fails
    | inr same ↦ subst (λ r. ¬ IsShorter r.choices best.choices) same higher
  ];
}

module _ (step : List Choice → Answer → Type 0) where
  pub records-push : (lists : List (List Choice)) (list : List Choice) (records : List Record) (rec : Record) → AreRecords step lists records → IsRecord step list rec →
      AreRecords step (lists ++ list ∷ []) (records ++ rec ∷ [])
  records-push [] list records rec are is = subst (λ rs. AreRecords step (list ∷ []) (rs ++ rec ∷ [])) (sym are) (is, refl)
  records-push (first ∷ lists) list [] rec are is = absurd are
  records-push (first ∷ lists) list (head ∷ records) rec are is = (are.0, records-push lists list records rec are.1 is)

  pub records-once : (lists : List (List Choice)) (one other : List Record) → AreRecords step lists one → AreRecords step lists other → one ≡ other
  records-once [] one other a b = a ∙ sym b
  records-once (list ∷ lists) [] other a b = absurd a
  records-once (list ∷ lists) (rec ∷ one) [] a b = absurd b
  records-once (list ∷ lists) (rec ∷ one) (rec2 ∷ other) a b =
      ap (λ r. r ∷ one) (record-once step (Listed list) rec rec2 a.0 b.0) ∙ ap (λ rs. rec2 ∷ rs) (records-once lists one other a.1 b.1)

  -- each is the record of its own choices
  pub records-own : (lists : List (List Choice)) (records : List Record) (rec : Record) → AreRecords step lists records → Contains records rec →
      IsRecord step rec.choices rec
  records-own [] records rec are among = not_among rec (subst (λ rs. Contains rs rec) are among)
  records-own (list ∷ lists) [] rec are among = absurd are
  records-own (list ∷ lists) (head ∷ records) rec are among = elim (among_first head records rec among) [
    | inl same ↦ subst (λ r. IsRecord step r.choices r) same (record-again step (Listed list) head are.0)
    | inr later ↦ records-own lists records rec are.1 later
  ]

  -- there is one least failure
  pub least-once : (lists : List (List Choice)) (records : List Record) (one other : Record) → AreRecords step lists records →
      IsLeastFailure records one → IsLeastFailure records other → one ≡ other
  least-once lists records one other are a b =
      let same = neither-shorter one.choices other.choices (b.least_choices one a.among a.fails) (a.least_choices other b.among b.fails) in
      record-once step (Listed one.choices) one other (records-own lists records one are a.among)
      (subst (λ list. IsRecord step list other) (sym same) (records-own lists records other are b.among))
