-- What failures are reduced to.
use Rattle.std.proofs.Common.{◌≡◌, ℕ, true, Some, List, [], ◌∷◌, ◌++◌, length, subst, sym, ap, ◌∙◌, arith, inl, inr}
use Rattle.std.specs.List.{slice_get}
use Rattle.std.proofs.lemmas.Option.{slice_get_within}
use Rattle.pt_choice.specs.declared.choice.Choice.{Choice}
use Rattle.pt_case.specs.Step.{Answer}
use Rattle.pt_case.specs.Source.{Listed}
use Rattle.pt_case.specs.Ending.{is_failure}
use Rattle.pt_case.specs.Run.{IsRecord}
use Rattle.pt_case.specs.declared.record.Record.{Record}
use Rattle.pt_case.proofs.RecordLemmas.{record-again}
use Rattle.pt_case.proofs.PlacedLemmas.{get_pushed}
use Rattle.pt_found.specs.Tried.{Tried}
use Rattle.pt_found.specs.Trail.{Leads}
use Rattle.pt_found.specs.declared.survey.Fault.{Fault}
use Rattle.pt_found.proofs.VainLemmas.{leads-as_good}
use Rattle.pt_all.specs.declared.firsts.First.{First}
use Rattle.pt_all.specs.Survey.{IsReduced, ReplaysItself, share_of}
use Rattle.pt_all.specs.Progress.{Reduces}

module _ (step : List Choice → Answer → Type 0) where
  -- a trail leads from a record of its own choices to another
  leads-own : (first : Record) (trail : List Tried) (strangers : ℕ) (best : Record) → Leads step first trail strangers best →
      IsRecord step first.choices first → IsRecord step best.choices best
  leads-own first [] strangers best leads own = subst (λ r. IsRecord step r.choices r) (sym leads) own
  leads-own first (entry ∷ trail) strangers best leads own = elim leads [
    | inl s ↦ leads-own s.0.rec trail strangers best s.2 (record-again step (Listed entry.list) s.0.rec s.0.is)
    | inr other ↦ elim other [
      | inl s ↦ leads-own first trail strangers best s.3 own
      | inr s ↦ leads-own first trail s.2.0 best s.2.2 own
    ]
  ]

  -- what is shown ends as the first failure does
  pub reduced-alike : (first : Record) (fault : Fault) → IsReduced step first fault → fault.shown.ending ≡ first.ending
  reduced-alike first fault reduced = (leads-as_good step first fault.trail reduced.legal.strangers fault.shown reduced.legal.leads).alike

  -- and is a record of its own choices too
  pub reduced-replays : (first : Record) (fault : Fault) → IsReduced step first fault → IsRecord step first.choices first → is_failure first.ending ≡ true →
      ReplaysItself step fault
  reduced-replays first fault reduced own fails = (
    leads-own first fault.trail reduced.legal.strangers fault.shown reduced.legal.leads own,
    ap is_failure (reduced-alike first fault reduced) ∙ fails,
  )

  -- the failures of the one list were reduced to the faults of the other, place by place
  abbrev pub AreReduced : ℕ → List First → List Fault → Type 0
  AreReduced budget firsts faults = (place : ℕ) (first : First) (fault : Fault) → slice_get firsts place ≡ Some first → slice_get faults place ≡ Some fault →
      Reduces step (share_of budget place) first fault

  -- one more at the end of both
  pub reduced-push : (budget : ℕ) (firsts : List First) (faults : List Fault) (first : First) (fault : Fault) → length faults ≡ length firsts →
      AreReduced budget firsts faults → Reduces step (share_of budget (length faults)) first fault → AreReduced budget (firsts ++ first ∷ []) (faults ++ fault ∷ [])
  reduced-push budget firsts faults first fault as_many so_far last place one other at also = elim (get_pushed firsts first place one at) [
    | inl here ↦ elim (get_pushed faults fault place other also) [
      | inl there ↦ so_far place one other here.0 there.0
      | inr end ↦ (let within = slice_get_within firsts place one here.0 in let past = end.0 in absurd (omega (arith, within, past, as_many)))
    ]
    | inr here ↦ elim (get_pushed faults fault place other also) [
      | inl there ↦ (let within = slice_get_within faults place other there.0 in let past = here.0 in absurd (omega (arith, within, past, as_many)))
      | inr end ↦ subst (λ n. Reduces step (share_of budget n) one other) (sym end.0)
          (subst (λ f. Reduces step (share_of budget (length faults)) f other) (sym here.1) (subst (λ f. Reduces step (share_of budget (length faults)) first f) (sym end.1) last))
    ]
  ]
