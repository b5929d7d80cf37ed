-- No list of a trail is better than what the trail leaves.
use Rattle.std.proofs.Common.{◌≡◌, ◌⊎◌, ◌<◌, arith, ℕ, List, [], ◌∷◌, sym, subst, inl, inr}
use Rattle.std.specs.List.{Contains}
use Rattle.std.proofs.lemmas.List.Elements.{Contains-append_cases, Contains-push_cases}
use Rattle.pt_choice.specs.declared.choice.Choice.{Choice}
use Rattle.pt_case.specs.Better.{IsBetter, IsAsGood}
use Rattle.pt_case.specs.Step.{Answer}
use Rattle.pt_case.specs.declared.record.Record.{Record}
use Rattle.pt_case.proofs.BetterLemmas.{as_good-itself, as_good-trans, better-as_good, no_better-below, no_better-itself}
use Rattle.pt_found.specs.Tried.{Tried}
use Rattle.pt_found.specs.Trail.{lists_of, Leads}

pub not_among : {P : Type 0} (list : List Choice) → Contains [] list → P
not_among list among = let none : among.0 < 0 = among.1 in absurd (omega (arith, none))

pub among_first : (head : List Choice) (rest : List (List Choice)) (list : List Choice) → Contains (head ∷ rest) list → (head ≡ list) ⊎ Contains rest list
among_first head rest list among = elim (Contains-append_cases (head ∷ []) rest list among) [
  | inl one ↦ elim (Contains-push_cases [] head list one) [ inl none ↦ not_among list none | inr same ↦ inl same ]
  | inr later ↦ inr later
]

module _ (step : List Choice → Answer → Type 0) where
  -- what a trail leaves is as good as what it began with
  pub leads-as_good : (first : Record) (trail : List Tried) (strangers : ℕ) (best : Record) → Leads step first trail strangers best → IsAsGood best first
  leads-as_good first [] strangers best leads = subst (λ from. IsAsGood from first) (sym leads) (as_good-itself first)
  leads-as_good first (entry ∷ trail) strangers best leads = elim leads [
    | inl s ↦ as_good-trans best s.0.rec first (leads-as_good s.0.rec trail strangers best s.2) (better-as_good step entry.list first s.0)
    | inr other ↦ elim other [
      | inl s ↦ leads-as_good first trail strangers best s.3
      | inr s ↦ leads-as_good first trail s.2.0 best s.2.2
    ]
  ]

  -- a list that was tried in vain stays so
  passed : (first : Record) (entry : Tried) (trail : List Tried) (strangers : ℕ) (best : Record) (list : List Choice) → entry.list ≡ list →
      ¬ IsBetter step entry.list first → Leads step first trail strangers best → ¬ IsBetter step list best
  passed first entry trail strangers best list same worse leads =
      subst (λ l. ¬ IsBetter step l best) same (no_better-below step entry.list first best (leads-as_good first trail strangers best leads) worse)

  pub leads-vain : (first : Record) (trail : List Tried) (strangers : ℕ) (best : Record) → Leads step first trail strangers best →
      (list : List Choice) → Contains (lists_of trail) list → ¬ IsBetter step list best
  leads-vain first [] strangers best leads list among = not_among list among
  leads-vain first (entry ∷ trail) strangers best leads list among = elim leads [
    | inl s ↦ elim (among_first entry.list (lists_of trail) list among) [
      | inl same ↦ subst (λ l. ¬ IsBetter step l best) same
          (no_better-below step entry.list s.0.rec best (leads-as_good s.0.rec trail strangers best s.2) (no_better-itself step entry.list s.0.rec s.0.is))
      | inr later ↦ leads-vain s.0.rec trail strangers best s.2 list later
    ]
    | inr other ↦ elim other [
      | inl s ↦ elim (among_first entry.list (lists_of trail) list among) [
        | inl same ↦ passed first entry trail strangers best list same s.0 s.3
        | inr later ↦ leads-vain first trail strangers best s.3 list later
      ]
      | inr s ↦ elim (among_first entry.list (lists_of trail) list among) [
        | inl same ↦ passed first entry trail s.2.0 best list same s.0 s.2.2
        | inr later ↦ leads-vain first trail s.2.0 best s.2.2 list later
      ]
    ]
  ]
