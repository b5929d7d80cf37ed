-- Failures are their own records, and two findings of one check agree.
use Rattle.std.proofs.Common.{ℕ, ◌+◌, List, [], ◌∷◌, ◌++◌, refl, subst, sym, ap, ◌∙◌, inl, inr}
use Rattle.pt_choice.specs.declared.choice.Choice.{Choice}
use Rattle.pt_rng.specs.Supplied.{supply_of_run}
use Rattle.pt_case.specs.Step.{Answer}
use Rattle.pt_case.specs.Source.{Listed, Fresh}
use Rattle.pt_case.specs.Run.{IsRecord}
use Rattle.pt_case.specs.declared.record.Record.{Record}
use Rattle.pt_case.proofs.RecordLemmas.{record-again}
use Rattle.pt_case.specs.Runs.{AreRuns}
use Rattle.pt_found.specs.Trail.{Leads}
use Rattle.pt_found.specs.Tried.{Tried}
use Rattle.pt_found.proofs.VainLemmas.{leads-as_good}
use Rattle.pt_found.specs.declared.finding.Found.TheVariants.{Stored, Run}
use Rattle.pt_engine.specs.declared.outcome.Decision.{Decision}
use Rattle.pt_engine.specs.declared.outcome.Decision.TheVariants as decision
use Rattle.pt_engine.specs.declared.outcome.Outcome.{Outcome}
use Rattle.pt_found.specs.declared.finding.Verdict.{Verdict}
use Rattle.pt_found.specs.declared.finding.Verdict.TheVariants as verdict
use Rattle.pt_found.specs.declared.finding.Finding.{Finding}
use Rattle.pt_engine.specs.Outcome.{AreRecords, IsDecided, IsOutcome}
use Rattle.pt_engine.specs.Finding.{Follows, FailsItself, IsFinding}
use Rattle.pt_engine.specs.Agree.{AreAlike, Agree}
use Rattle.pt_engine.proofs.LeastLemmas.{records-own}
use Rattle.pt_engine.proofs.OnceLemmas.{outcome-once}

module _ (step : List Choice → Answer → Type 0) where
  -- the last of some runs is the record of its own choices
  runs-last : (seed from to : ℕ) (before : List Record) (last : Record) → AreRuns step seed from to (before ++ last ∷ []) → IsRecord step last.choices last
  runs-last seed from to [] last are = record-again step (Fresh (supply_of_run seed from)) last are.0
  runs-last seed from to (rec ∷ before) last are = runs-last seed (from + 1) to before last are.1

  decided-itself : (seed runs : ℕ) (lists : List (List Choice)) (records : List Record) (made : Decision) (seen valid : ℕ) → AreRecords step lists records →
      IsDecided step seed runs records made seen valid → FailsItself step made
  decided-itself seed runs lists records decision.Passed seen valid are is = tt
  decided-itself seed runs lists records decision.GaveUp seen valid are is = tt
  decided-itself seed runs lists records (decision.Failed first Stored) seen valid are is = (records-own step lists records first are is.0.among, is.0.fails)
  decided-itself seed runs lists records (decision.Failed first (Run run)) seen valid are is =
      let decides = is.1.decided in
      (runs-last seed 0 seen decides.0 first (subst (AreRuns step seed 0 seen) decides.1 is.1.made), decides.4)

  pub outcome-itself : (seed runs : ℕ) (stored : List (List Choice)) (outcome : Outcome) → IsOutcome step seed runs stored outcome →
      FailsItself step outcome.decision
  outcome-itself seed runs stored outcome is = decided-itself seed runs stored is.records outcome.decision outcome.seen outcome.valid is.replayed is.decided

  -- a trail leads from a record of its own choices to another
  pub leads-own : (first : Record) (trail : List Tried) (strangers : ℕ) (best : Record) → Leads step first trail strangers best →
      IsRecord step first.choices first → IsRecord step best.choices best
  leads-own first [] strangers best leads own = subst (λ r. IsRecord step r.choices r) (sym leads) own
  leads-own first (entry ∷ trail) strangers best leads own = elim leads [
    | inl s ↦ leads-own s.0.rec trail strangers best s.2 (record-again step (Listed entry.list) s.0.rec s.0.is)
    | inr other ↦ elim other [
      | inl s ↦ leads-own first trail strangers best s.3 own
      | inr s ↦ leads-own first trail s.2.0 best s.2.2 own
    ]
  ]

  follows-alike : (budget : ℕ) (made : Decision) (one other : Verdict) (trail trail2 : List Tried) → Follows step budget made one trail →
      Follows step budget made other trail2 → AreAlike step budget one other trail trail2
  follows-alike budget decision.Passed one other trail trail2 a b = subst (λ v. AreAlike step budget v other trail trail2) (sym a.0) b.0
  follows-alike budget decision.GaveUp one other trail trail2 a b = subst (λ v. AreAlike step budget v other trail trail2) (sym a.0) b.0
  follows-alike budget (decision.Failed first found) one other trail trail2 a b =
      let x = leads-as_good step first trail a.3.legal.strangers a.0 a.3.legal.leads in
      let y = leads-as_good step first trail2 b.3.legal.strangers b.0 b.3.legal.leads in
      let both : AreAlike step budget (verdict.Failed a.0 found a.1) (verdict.Failed b.0 found b.1) trail trail2 =
      (refl, record { first = first; one = a.3; again = b.3; ending = x.alike ∙ sym y.alike }) in
      subst (λ v. AreAlike step budget v other trail trail2) (sym a.2)
      (subst (λ v. AreAlike step budget (verdict.Failed a.0 found a.1) v trail trail2) (sym b.2) both)

  pub findings-agree : (name : List ℕ) (seed runs budget : ℕ) (stored : List (List Choice)) (one other : Finding) →
      IsFinding step name seed runs budget stored one → IsFinding step name seed runs budget stored other → Agree step one other
  findings-agree name seed runs budget stored one other a b =
      let same = outcome-once step seed runs stored a.outcome b.outcome a.is b.is in
      record {
        name = a.named ∙ sym b.named;
        runs = a.asked ∙ sym b.asked;
        budget = a.allowed ∙ sym b.allowed;
        failing = a.flags ∙ ap (λ o. o.failing) same ∙ sym b.flags;
        seen = a.seen ∙ ap (λ o. o.seen) same ∙ sym b.seen;
        valid = a.valid ∙ ap (λ o. o.valid) same ∙ sym b.valid;
        verdict = subst (λ (allowed : ℕ). AreAlike step allowed one.verdict other.verdict one.trail other.trail) (sym a.allowed)
            (follows-alike budget b.outcome.decision one.verdict other.verdict one.trail other.trail
            (subst (λ (o : Outcome). Follows step budget o.decision one.verdict one.trail) same a.follows) b.follows);
      }
