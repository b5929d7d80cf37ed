-- What was counted and reduced is a survey.
use Rattle.std.proofs.Common.{◌≡◌, ◌≢◌, ℕ, zero, suc, ◌+◌, ◌-◌, ◌<◌, true, Some, List, [], ◌∷◌, length, get_or, subst, sym, ap, ◌∙◌, arith}
use Rattle.std.specs.List.{All, slice_get}
use Rattle.std.specs.Option.{option_map}
use Rattle.std.proofs.lemmas.List.{length-map}
use Rattle.std.proofs.lemmas.List.Elements.{All-weaker}
use Rattle.std.proofs.lemmas.Option.{same_Some, slice_get-get_or, slice_get-map, slice_get_within}
use Rattle.pt_choice.specs.declared.choice.Choice.{Choice}
use Rattle.pt_rng.specs.Supplied.{supply_of_run}
use Rattle.pt_case.specs.Ending.{is_failure}
use Rattle.pt_case.specs.Step.{Answer}
use Rattle.pt_case.specs.Source.{Fresh}
use Rattle.pt_case.specs.Run.{IsRecord}
use Rattle.pt_case.specs.Runs.{AreRuns}
use Rattle.pt_case.specs.declared.record.Record.{Record}
use Rattle.pt_case.proofs.RecordLemmas.{record-again}
use Rattle.pt_found.specs.declared.survey.Fault.{Fault}
use Rattle.pt_all.specs.declared.firsts.First.{First}
use Rattle.pt_all.specs.declared.tally.Tally.{Tally}
use Rattle.pt_all.specs.Origins.{origins}
use Rattle.pt_all.specs.Survey.{IsFirst, IsFault}
use Rattle.pt_all.specs.Window.{IsWindow}
use Rattle.pt_all.specs.Progress.{IsCount, firsts_from}
use Rattle.pt_all.proofs.FirstsLemmas.{IsOf, firsts-of}
use Rattle.pt_all.proofs.OriginLemmas.{firsts-origins}
use Rattle.pt_all.proofs.ReducedLemmas.{AreReduced}

-- the first failure of its origin among all records
first-is : (records : List Record) (first : First) → IsOf 0 records first → IsFirst records first.run first.rec
first-is records first is =
    let same : first.run - 0 ≡ first.run = omega arith in
    record {
      stands = subst (λ n. slice_get records n ≡ Some first.rec) same is.stands;
      earliest = subst (λ n. (before : ℕ) (rec : Record) → before < n → slice_get records before ≡ Some rec → rec.ending ≢ first.rec.ending) same is.earliest;
    }

module _ (step : List Choice → Answer → Type 0) where
  -- the record of a run is that of its own choices
  runs-own : (seed from to : ℕ) (records : List Record) (run : ℕ) (rec : Record) → AreRuns step seed from to records → slice_get records run ≡ Some rec →
      IsRecord step rec.choices rec
  runs-own seed from to [] run rec are stands = cc
  runs-own seed from to (head ∷ records) zero rec are stands =
      subst (λ r. IsRecord step r.choices r) (same_Some head rec stands) (record-again step (Fresh (supply_of_run seed from)) head are.0)
  runs-own seed from to (head ∷ records) (suc run) rec are stands = runs-own seed (from + 1) to records run rec are.1 stands

  -- so each first failure can be reduced
  pub firsts-own : (seed runs : ℕ) (records : List Record) (tally : Tally) → IsWindow step seed runs records → IsCount records tally →
      All (λ first. IsRecord step first.rec.choices first.rec × (is_failure first.rec.ending ≡ true)) tally.firsts.items
  firsts-own seed runs records tally window count =
      subst (λ firsts. All (λ first. IsRecord step first.rec.choices first.rec × (is_failure first.rec.ending ≡ true)) firsts) (sym count.failing)
      (All-weaker (IsOf 0 records) (λ (first : First). IsRecord step first.rec.choices first.rec × (is_failure first.rec.ending ≡ true))
      (λ first is. (runs-own seed 0 (length records) records (first.run - 0) first.rec window.made is.stands, is.fails)) (firsts_from 0 records) (firsts-of 0 records))

  -- there are as many first failures as origins
  pub as-many : (records : List Record) (tally : Tally) → IsCount records tally → length tally.firsts.items ≡ length (origins records)
  as-many records tally count =
      ap length count.failing ∙ sym (length-map (firsts_from 0 records) (λ first. first.rec.ending)) ∙ ap length (firsts-origins 0 records)

  -- what the first failure at a place was reduced to is the fault of the origin there
  pub fault-is : (budget : ℕ) (records : List Record) (tally : Tally) (faults : List Fault) (place : ℕ) (fault : Fault) → IsCount records tally →
      length faults ≡ length tally.firsts.items → AreReduced step budget tally.firsts.items faults → slice_get faults place ≡ Some fault →
      IsFault step budget records place fault
  fault-is budget records tally faults place fault count one_each each stands =
      let within : place < length faults = slice_get_within faults place fault stands in
      let firsts = firsts_from 0 records in
      let many : length tally.firsts.items ≡ length firsts = ap length count.failing in
      let inside : place < length firsts = omega (arith, within, one_each, many) in
      let first = get_or firsts place (record { run = 0; times = 0; rec = fault.shown }) in
      let at : slice_get firsts place ≡ Some first = slice_get-get_or firsts place (record { run = 0; times = 0; rec = fault.shown }) inside in
      let is = firsts-of 0 records place (record { run = 0; times = 0; rec = fault.shown }) inside in
      let reduces = each place first fault (ap (λ l. slice_get l place) count.failing ∙ at) stands in
      record {
        first = first.rec;
        origin = ap (λ l. slice_get l place) (sym (firsts-origins 0 records)) ∙ slice_get-map (λ (first : First). first.rec.ending) firsts place
            ∙ ap (option_map (λ (first : First). first.rec.ending)) at;
        began = subst (λ n. IsFirst records n first.rec) (sym reduces.run) (first-is records first is);
        counted = reduces.times ∙ is.counted;
        allowed = reduces.allowed;
        reduced = reduces.reduced;
      }
