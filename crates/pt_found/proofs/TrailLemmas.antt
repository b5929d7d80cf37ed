-- One more entry at the end of a trail.
use Rattle.std.proofs.Common.{◌≡◌, ◌⊎◌, ◌≤◌, ◌<◌, take, drop, get_or, ℕ, suc, ◌+◌, ◌*◌, Bool, true, false, cond, List, [], ◌∷◌, ◌++◌, map, length, sym, ap, ◌∙◌, refl, subst, inl, inr, arith}
use Rattle.std.specs.List.{Contains, count_by, sum_by}
use Rattle.std.proofs.lemmas.List.{map-append, append_assoc, append-nil, drop_more, take-append-drop}
use Rattle.std.proofs.lemmas.List.Sums.{sum_by-append}
use Rattle.pt_choice.specs.declared.choice.Choice.{Choice}
use Rattle.pt_case.specs.Step.{Answer}
use Rattle.pt_case.specs.Better.{IsBetter}
use Rattle.pt_case.specs.Source.{Listed}
use Rattle.pt_case.proofs.RecordLemmas.{record-once}
use Rattle.pt_case.specs.declared.record.Record.{Record}
use Rattle.pt_cand.specs.Candidates.{IsCandidate}
use Rattle.pt_found.specs.Tried.{Tried}
use Rattle.pt_found.specs.Trail.{lists_of, accepted_in, AreNew, Leads}

pub new-push : (seen lists : List (List Choice)) (list : List Choice) → AreNew seen lists → ¬ Contains (seen ++ lists) list → AreNew seen (lists ++ list ∷ [])
new-push seen [] list new unseen = (subst (λ ls. ¬ Contains ls list) (append-nil seen) unseen, tt)
new-push seen (first ∷ lists) list new unseen =
    (new.0, new-push (seen ++ first ∷ []) lists list new.1 (subst (λ ls. ¬ Contains ls list) (sym (append_assoc seen (first ∷ []) lists)) unseen))

-- of lists that are new the next one is none of those before it
pub new-among : (seen front : List (List Choice)) (list : List Choice) (back : List (List Choice)) → AreNew seen (front ++ list ∷ back) → ¬ Contains (seen ++ front) list
new-among seen [] list back new = subst (λ ls. ¬ Contains ls list) (sym (append-nil seen)) new.0
new-among seen (first ∷ front) list back new =
    subst (λ ls. ¬ Contains ls list) (append_assoc seen (first ∷ []) front) (new-among (seen ++ first ∷ []) front list back new.1)

pub new-at : (seen lists : List (List Choice)) (i : ℕ) (d : List Choice) → AreNew seen lists → i < length lists → ¬ Contains (seen ++ take i lists) (get_or lists i d)
new-at seen lists i d new within =
    new-among seen (take i lists) (get_or lists i d) (drop (i + 1) lists)
    (subst (AreNew seen) (sym (take-append-drop i lists) ∙ ap (λ back. take i lists ++ back) (drop_more lists i d within)) new)

pub new-front : (seen front back : List (List Choice)) → AreNew seen (front ++ back) → AreNew seen front
new-front seen [] back new = tt
new-front seen (first ∷ front) back new = (new.0, new-front (seen ++ first ∷ []) front back new.1)

pub new-take : (seen lists : List (List Choice)) (i : ℕ) → AreNew seen lists → AreNew seen (take i lists)
new-take seen lists i new = new-front seen (take i lists) (drop i lists) (subst (AreNew seen) (sym (take-append-drop i lists)) new)

module _ (step : List Choice → Answer → Type 0) where
  pub leads-accepted : (first : Record) (trail : List Tried) (strangers : ℕ) (best : Record) (list : List Choice) (better : IsBetter step list best) →
      Leads step first trail strangers best → Leads step first (trail ++ record { list = list; accepted = true } ∷ []) strangers better.rec
  leads-accepted first [] strangers best list better leads =
      subst (λ from. Leads step from (record { list = list; accepted = true } ∷ []) strangers better.rec) leads (inl (better, refl, refl))
  leads-accepted first (entry ∷ trail) strangers best list better leads = elim leads [
    | inl step_ ↦ inl (step_.0, step_.1, leads-accepted step_.0.rec trail strangers best list better step_.2)
    | inr other ↦ elim other [
      | inl step_ ↦ inr (inl (step_.0, step_.1, step_.2, leads-accepted first trail strangers best list better step_.3))
      | inr step_ ↦ inr (inr (step_.0, step_.1, (step_.2.0, step_.2.1, leads-accepted first trail step_.2.0 best list better step_.2.2)))
    ]
  ]

  pub leads-candidate : (first : Record) (trail : List Tried) (strangers : ℕ) (best : Record) (list : List Choice) → ¬ IsBetter step list best →
      IsCandidate best list → Leads step first trail strangers best → Leads step first (trail ++ record { list = list; accepted = false } ∷ []) strangers best
  leads-candidate first [] strangers best list worse candidate leads =
      inr (inl (subst (λ from. ¬ IsBetter step list from) leads worse, refl, subst (λ from. IsCandidate from list) leads candidate, leads))
  leads-candidate first (entry ∷ trail) strangers best list worse candidate leads = elim leads [
    | inl step_ ↦ inl (step_.0, step_.1, leads-candidate step_.0.rec trail strangers best list worse candidate step_.2)
    | inr other ↦ elim other [
      | inl step_ ↦ inr (inl (step_.0, step_.1, step_.2, leads-candidate first trail strangers best list worse candidate step_.3))
      | inr step_ ↦ inr (inr (step_.0, step_.1, (step_.2.0, step_.2.1, leads-candidate first trail step_.2.0 best list worse candidate step_.2.2)))
    ]
  ]

  pub leads-stranger : (first : Record) (trail : List Tried) (strangers : ℕ) (best : Record) (list : List Choice) → ¬ IsBetter step list best →
      Leads step first trail strangers best → Leads step first (trail ++ record { list = list; accepted = false } ∷ []) (suc strangers) best
  leads-stranger first [] strangers best list worse leads =
      inr (inr (subst (λ from. ¬ IsBetter step list from) leads worse, refl, (strangers, refl, leads)))
  leads-stranger first (entry ∷ trail) strangers best list worse leads = elim leads [
    | inl step_ ↦ inl (step_.0, step_.1, leads-stranger step_.0.rec trail strangers best list worse step_.2)
    | inr other ↦ elim other [
      | inl step_ ↦ inr (inl (step_.0, step_.1, step_.2, leads-stranger first trail strangers best list worse step_.3))
      | inr step_ ↦ inr (inr (
        step_.0,
        step_.1,
        (
          strangers,
          refl,
          subst (λ n. Leads step first (trail ++ record { list = list; accepted = false } ∷ []) n best) (sym step_.2.1) (leads-stranger first trail step_.2.0 best list worse step_.2.2),
        ),
      ))
    ]
  ]

pub lists-push : (trail : List Tried) (entry : Tried) → lists_of (trail ++ entry ∷ []) ≡ lists_of trail ++ entry.list ∷ []
lists-push trail entry = map-append (λ e. e.list) trail (entry ∷ [])

pub accepted-push : (trail : List Tried) (entry : Tried) → accepted_in (trail ++ entry ∷ []) ≡ accepted_in trail + cond entry.accepted 1 0
accepted-push trail entry = sum_by-append (λ e. cond e.accepted 1 0) trail (entry ∷ []) ∙ ap (λ n. accepted_in trail + n) (omega arith)

module _ (step : List Choice → Answer → Type 0) where
  -- what a trail leads from after its first entry
  pub leads-after_better : (first : Record) (entry : Tried) (trail : List Tried) (strangers : ℕ) (best : Record) (better : IsBetter step entry.list first) →
      Leads step first (entry ∷ trail) strangers best → (left : ℕ) × Leads step better.rec trail left best
  leads-after_better first entry trail strangers best better leads = elim leads [
    | inl s ↦ (strangers, subst (λ from. Leads step from trail strangers best) (record-once step (Listed entry.list) s.0.rec better.rec s.0.is better.is) s.2)
    | inr other ↦ elim other [ inl s ↦ absurd (s.0 better) | inr s ↦ absurd (s.0 better) ]
  ]

  pub leads-after_worse : (first : Record) (entry : Tried) (trail : List Tried) (strangers : ℕ) (best : Record) → ¬ IsBetter step entry.list first →
      Leads step first (entry ∷ trail) strangers best → (left : ℕ) × Leads step first trail left best
  leads-after_worse first entry trail strangers best worse leads = elim leads [
    | inl s ↦ absurd (worse s.0)
    | inr other ↦ elim other [ inl s ↦ (strangers, s.3) | inr s ↦ (s.2.0, s.2.2) ]
  ]
