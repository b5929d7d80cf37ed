-- A check has one window, and its surveys agree.
use Rattle.std.proofs.Common.{◌≡◌, ◌≢◌, ℕ, zero, suc, ◌+◌, ◌<◌, ◌≤◌, true, Some, List, [], ◌∷◌, length, take, get_or, refl, subst, sym, ap, ◌∙◌, arith, inl, inr}
use Rattle.std.specs.List.{AllPairs, Contains, slice_get}
use Rattle.std.proofs.lemmas.Bool.{cases_order}
use Rattle.std.proofs.lemmas.List.{take_all}
use Rattle.std.proofs.lemmas.Option.{same_Some, slice_get-get_or, get_or_from_slice_get}
use Rattle.std.proofs.lemmas.List.Elements.{Contains-get_or}
use Rattle.pt_choice.specs.declared.choice.Choice.{Choice}
use Rattle.pt_rng.specs.Supplied.{supply_of_run}
use Rattle.pt_case.specs.Step.{Answer}
use Rattle.pt_case.specs.Source.{Fresh}
use Rattle.pt_case.specs.Ending.{is_failure}
use Rattle.pt_case.specs.Run.{IsRun}
use Rattle.pt_case.specs.Runs.{AreRuns}
use Rattle.pt_case.specs.declared.record.Record.{Record}
use Rattle.pt_case.proofs.RecordLemmas.{record-once}
use Rattle.pt_found.specs.declared.survey.Fault.{Fault}
use Rattle.pt_found.specs.declared.survey.Survey.{Survey}
use Rattle.pt_all.specs.Window.{AreEnough, IsWindow, passes}
use Rattle.pt_all.specs.Origins.{origins, times_of}
use Rattle.pt_all.specs.Survey.{IsFirst, IsReduced, IsFault, IsSurvey}
use Rattle.pt_all.specs.Agree.{AreOfOne, Agree}
use Rattle.pt_all.proofs.ReducedLemmas.{reduced-alike}
use Rattle.pt_all.proofs.OriginLemmas.{origins-differ, origins-all}

-- each place has a fault
member : (faults : List Fault) (place : ℕ) → place < length faults → (fault : Fault) × (slice_get faults place ≡ Some fault) × Contains faults fault
member [] place within = absurd (omega (arith, within))
member (fault ∷ faults) place within = (
  get_or (fault ∷ faults) place fault,
  slice_get-get_or (fault ∷ faults) place fault within,
  Contains-get_or (fault ∷ faults) place fault within,
)

-- of the runs that ended alike there is one first
first-once : (records : List Record) (run run2 : ℕ) (one other : Record) → IsFirst records run one → IsFirst records run2 other → one.ending ≡ other.ending →
    (run ≡ run2) × (one ≡ other)
first-once records run run2 one other a b alike = elim (cases_order run run2) [
  | inl same ↦ (same, same_Some one other (sym a.stands ∙ ap (slice_get records) same ∙ b.stands))
  | inr rest ↦ elim rest [
    | inl before ↦ absurd (b.earliest run one before a.stands alike)
    | inr after ↦ absurd (a.earliest run2 other after b.stands (sym alike))
  ]
]

module _ (step : List Choice → Answer → Type 0) where
  module _ (seed : ℕ) where
    -- of two rows of runs the shorter one begins the longer one
    runs-first : (from mid to : ℕ) (one other : List Record) → AreRuns step seed from mid one → AreRuns step seed from to other →
        length one ≤ length other → one ≡ take (length one) other
    runs-first from mid to [] other a b within = refl
    runs-first from mid to (rec ∷ one) [] a b within = absurd (omega (arith, within))
    runs-first from mid to (rec ∷ one) (rec2 ∷ other) a b within =
        let head = record-once step (Fresh (supply_of_run seed from)) rec rec2 a.0 b.0 in
        ap (λ r. r ∷ one) head ∙ ap (λ rs. rec2 ∷ rs) (runs-first (from + 1) mid to one other a.1 b.1 (omega (arith, within)))

    -- a window is no shorter than another
    window-not_fewer : (runs : ℕ) (one other : List Record) → IsWindow step seed runs one → IsWindow step seed runs other → length one < length other → ⊥
    window-not_fewer runs one other a b fewer =
        b.least (length one) fewer
        (subst (AreEnough runs) (runs-first 0 (length one) (length other) one other a.made b.made (omega (arith, fewer))) a.enough)

    window-once : (runs : ℕ) (one other : List Record) → IsWindow step seed runs one → IsWindow step seed runs other → one ≡ other
    window-once runs one other a b = elim (cases_order (length one) (length other)) [
      | inl same ↦ (
          let part = runs-first 0 (length one) (length other) one other a.made b.made (omega (arith, same)) in
          part ∙ take_all (length one) other (omega (arith, same))
          )
      | inr rest ↦ elim rest [
        | inl fewer ↦ absurd (window-not_fewer runs one other a b fewer)
        | inr more ↦ absurd (window-not_fewer runs other one b a more)
      ]
    ]

    -- the record at a place is that of the run of this number
    runs-at : (from to : ℕ) (records : List Record) (n : ℕ) → AreRuns step seed from to records → n < length records →
        (rec : Record) × (slice_get records n ≡ Some rec) × IsRun step (supply_of_run seed (from + n)) rec
    runs-at from to [] n are within = absurd (omega (arith, within))
    runs-at from to (rec ∷ records) zero are within =
        let here : from ≡ from + 0 = omega arith in
        (rec, refl, subst (λ number. IsRun step (supply_of_run seed number) rec) here are.0)
    runs-at from to (rec ∷ records) (suc n) are within =
        let rest = runs-at (from + 1) to records n are.1 (omega (arith, within)) in
        let there : from + 1 + n ≡ from + suc n = omega arith in
        (rest.0, rest.1, subst (λ number. IsRun step (supply_of_run seed number) rest.0) there rest.2)

  -- two faults of one origin
  faults-agree : (budget : ℕ) (records : List Record) (place : ℕ) (one other : Fault) → IsFault step budget records place one → IsFault step budget records place other →
      AreOfOne step one other
  faults-agree budget records place one other a b =
      let alike : a.first.ending ≡ b.first.ending = same_Some a.first.ending b.first.ending (sym a.origin ∙ b.origin) in
      let firsts = first-once records one.run other.run a.first b.first a.began b.began alike in
      record {
        run = firsts.0;
        times = a.counted ∙ ap (λ ending. times_of ending records) alike ∙ sym b.counted;
        budget = a.allowed ∙ sym b.allowed;
        ending = reduced-alike step a.first one a.reduced ∙ alike ∙ sym (reduced-alike step b.first other b.reduced);
        first = a.first;
        reduced = a.reduced;
        again = subst (λ first. IsReduced step first other) (sym firsts.1) b.reduced;
      }

  pub surveys-agree : (name : List ℕ) (seed runs budget : ℕ) (one other : Survey) → IsSurvey step name seed runs budget one → IsSurvey step name seed runs budget other →
      Agree step one other
  surveys-agree name seed runs budget one other a b =
      let same : a.records ≡ b.records = window-once seed runs a.records b.records a.window b.window in
      record {
        name = a.named ∙ sym b.named;
        runs = a.asked ∙ sym b.asked;
        seen = a.seen ∙ ap (λ records. length records) same ∙ sym b.seen;
        valid = a.valid ∙ ap passes same ∙ sym b.valid;
        as_many = a.one_each ∙ ap (λ records. length (origins records)) same ∙ sym b.one_each;
        each = λ place fault twin at also. faults-agree budget b.records place fault twin
            (subst (λ records. IsFault step budget records place fault) same (a.each place fault at)) (b.each place twin also);
      }

  -- two faults that show one origin stand at one place
  pub shown-once : (name : List ℕ) (seed runs budget : ℕ) (survey : Survey) → IsSurvey step name seed runs budget survey →
      AllPairs (λ one other. one.shown.ending ≢ other.shown.ending) survey.faults
  shown-once name seed runs budget survey is i j d before within alike =
      let one = get_or survey.faults i d in
      let other = get_or survey.faults j d in
      let a = is.each i one (slice_get-get_or survey.faults i d (omega (arith, before, within))) in
      let b = is.each j other (slice_get-get_or survey.faults j d within) in
      let many = is.one_each in
      let differ = origins-differ is.records i j a.first.ending before (omega (arith, within, many)) in
      let here : get_or (origins is.records) i a.first.ending ≡ a.first.ending = get_or_from_slice_get (origins is.records) i a.first.ending a.first.ending a.origin in
      let there : get_or (origins is.records) j a.first.ending ≡ b.first.ending = get_or_from_slice_get (origins is.records) j b.first.ending a.first.ending b.origin in
      differ (here ∙ sym (reduced-alike step a.first one a.reduced) ∙ alike ∙ reduced-alike step b.first other b.reduced ∙ sym there)

  -- each run that fails has its origin shown
  pub none-passed-over : (name : List ℕ) (seed runs budget : ℕ) (survey : Survey) (run : ℕ) (rec : Record) → IsSurvey step name seed runs budget survey →
      run < survey.seen → IsRun step (supply_of_run seed run) rec → is_failure rec.ending ≡ true →
      (fault : Fault) × Contains survey.faults fault × (fault.shown.ending ≡ rec.ending)
  none-passed-over name seed runs budget survey run rec is within made fails =
      let seen = is.seen in
      let at = runs-at seed 0 (length is.records) is.records run is.window.made (omega (arith, within, seen)) in
      let number : 0 + run ≡ run = omega arith in
      let same : at.0 ≡ rec = record-once step (Fresh (supply_of_run seed run)) at.0 rec (subst (λ n. IsRun step (supply_of_run seed n) at.0) number at.2) made in
      let among = origins-all is.records run rec (at.1 ∙ ap Some same) fails in
      let many = is.one_each in
      let origin = among.1 in
      let place : among.0 < length survey.faults = omega (arith, origin, many) in
      let fault = member survey.faults among.0 place in
      let found = is.each among.0 fault.0 fault.1 in
      let here : get_or (origins is.records) among.0 rec.ending ≡ found.first.ending = get_or_from_slice_get (origins is.records) among.0 found.first.ending rec.ending found.origin in
      (fault.0, fault.2, reduced-alike step found.first fault.0 found.reduced ∙ sym here ∙ among.2)
