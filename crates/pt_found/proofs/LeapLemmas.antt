-- One more entry at the end of a trail that leaps.
use Rattle.std.proofs.Common.{◌≡◌, ◌⊎◌, ◌≤◌, ℕ, Bool, true, false, Option, Some, None, List, [], ◌∷◌, ◌++◌, sym, ap, ◌∙◌, refl, subst, inl, inr}
use Rattle.std.specs.List.{Contains}
use Rattle.std.proofs.lemmas.List.{append_assoc, append-nil}
use Rattle.pt_choice.specs.declared.choice.Choice.{Choice}
use Rattle.pt_case.specs.Step.{Answer}
use Rattle.pt_case.specs.Better.{IsBetter}
use Rattle.pt_case.specs.declared.record.Record.{Record}
use Rattle.pt_found.specs.Tried.{Tried}
use Rattle.pt_found.specs.Trail.{lists_of, Leads}
use Rattle.pt_found.proofs.TrailLemmas.{leads-after_better, leads-after_worse}
use Rattle.pt_found.specs.Leap.{IsHeeded, LeapsFrom, comes_next}

comes_next-push : (trail : List Tried) (entry : Tried) (next : Option (List Choice)) →
    comes_next (trail ++ entry ∷ []) next ≡ comes_next trail (Some entry.list)
comes_next-push [] entry next = refl
comes_next-push (first ∷ trail) entry next = refl

module _ (step : List Choice → Answer → Type 0) (budget : ℕ) where
  -- a list that is no better than the best
  pub leaps-rejected : (seen : List (List Choice)) (first : Record) (trail : List Tried) (strangers : ℕ) (best : Record) (entry : Tried) (next : Option (List Choice)) →
      ¬ IsBetter step entry.list best → Leads step first trail strangers best → LeapsFrom step budget seen first trail (Some entry.list) →
      LeapsFrom step budget seen first (trail ++ entry ∷ []) next
  leaps-rejected seen first [] strangers best entry next worse leads leaps =
      inr (subst (λ from. ¬ IsBetter step entry.list from) leads worse, tt)
  leaps-rejected seen first (head ∷ trail) strangers best entry next worse leads leaps = elim leaps [
    | inl s ↦
        let rest = leads-after_better step first head trail strangers best s.0 leads in
        inl (
          s.0,
          subst (λ n. IsHeeded budget (seen ++ head.list ∷ []) first s.0.rec n) (sym (comes_next-push trail entry next)) s.1,
          leaps-rejected (seen ++ head.list ∷ []) s.0.rec trail rest.0 best entry next worse rest.1 s.2,
        )
    | inr s ↦
        let rest = leads-after_worse step first head trail strangers best s.0 leads in
        inr (s.0, leaps-rejected (seen ++ head.list ∷ []) first trail rest.0 best entry next worse rest.1 s.1)
  ]

  -- a list that is better, after which what it asks for is heeded
  pub leaps-accepted : (seen : List (List Choice)) (first : Record) (trail : List Tried) (strangers : ℕ) (best : Record) (entry : Tried) (next : Option (List Choice))
      (better : IsBetter step entry.list best) → IsHeeded budget (seen ++ lists_of (trail ++ entry ∷ [])) best better.rec next →
      Leads step first trail strangers best → LeapsFrom step budget seen first trail (Some entry.list) → LeapsFrom step budget seen first (trail ++ entry ∷ []) next
  leaps-accepted seen first [] strangers best entry next better heeded leads leaps =
      subst (λ from. LeapsFrom step budget seen from (entry ∷ []) next) leads (inl (better, heeded, tt))
  leaps-accepted seen first (head ∷ trail) strangers best entry next better heeded leads leaps =
      let later = subst (λ lists. IsHeeded budget lists best better.rec next) (sym (append_assoc seen (head.list ∷ []) (lists_of (trail ++ entry ∷ [])))) heeded in
      elim leaps [
        | inl s ↦
            let rest = leads-after_better step first head trail strangers best s.0 leads in
            inl (
              s.0,
              subst (λ n. IsHeeded budget (seen ++ head.list ∷ []) first s.0.rec n) (sym (comes_next-push trail entry next)) s.1,
              leaps-accepted (seen ++ head.list ∷ []) s.0.rec trail rest.0 best entry next better later rest.1 s.2,
            )
        | inr s ↦
            let rest = leads-after_worse step first head trail strangers best s.0 leads in
            inr (s.0, leaps-accepted (seen ++ head.list ∷ []) first trail rest.0 best entry next better later rest.1 s.1)
      ]
