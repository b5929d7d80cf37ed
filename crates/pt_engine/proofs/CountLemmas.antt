-- Runs that are counted, one more at a time.
use Rattle.std.proofs.Common.{◌≡◌, ◌≢◌, ℕ, zero, suc, ◌+◌, ◌*◌, ◌<◌, ◌≤◌, true, false, Some, None, List, [], ◌∷◌, ◌++◌, length, take, get_or, refl, subst, sym, ap, ◌∙◌, arith, append_assoc, length-append, if◌then◌else◌}
use Rattle.std.proofs.lemmas.Grind.{common_steps}
use Rattle.std.proofs.lemmas.List.{take_more}
use Rattle.pt_choice.specs.declared.choice.Choice.{Choice}
use Rattle.pt_case.specs.Step.{Answer}
use Rattle.pt_case.specs.Ending.{is_pass, is_failure}
use Rattle.pt_case.specs.declared.record.Record.{Record}
use Rattle.pt_case.specs.Runs.{AreRuns}
use Rattle.pt_case.proofs.RunsLemmas.{runs-append, runs-length}
use Rattle.pt_found.specs.declared.finding.Found.TheVariants.{Run}
use Rattle.pt_engine.specs.declared.outcome.Decision.{Decision}
use Rattle.pt_engine.specs.declared.outcome.Decision.TheVariants.{Passed, GaveUp, Failed}
use Rattle.pt_engine.specs.declared.tally.Tally.{Tally}
use Rattle.pt_engine.specs.Outcome.{AreOpen, AreCounted, passes, failures}
use Rattle.pt_engine.specs.Progress.{IsCount, Counts}

-- one more passes or not
pub passes-push : (records : List Record) (rec : Record) (valid : ℕ) → valid ≡ passes records →
    passes (records ++ rec ∷ []) ≡ valid + (if is_pass rec.ending then 1 else 0)
passes-push records rec valid counted = grind (arith, common_steps)

pub at_most_one : (rec : Record) (n : ℕ) → n ≡ (if is_pass rec.ending then 1 else 0) → n ≤ 1
at_most_one rec n is = grind (arith, common_steps)

-- one more that does not fail
pub failures-push : (records : List Record) (rec : Record) → failures records ≡ 0 → is_failure rec.ending ≡ false →
    failures (records ++ rec ∷ []) ≡ 0
failures-push records rec none passed = grind (arith, common_steps)

-- one record more of a block
pub more : (before block : List Record) (i : ℕ) (rec : Record) → i < length block → rec ≡ get_or block i rec →
    before ++ take (i + 1) block ≡ (before ++ take i block) ++ rec ∷ []
more before block i rec within is =
    ap (λ l. before ++ l) (take_more block i rec within ∙ ap (λ r. take i block ++ r ∷ []) (sym is)) ∙ sym (append_assoc before (take i block) (rec ∷ []))

pub count-push : (records : List Record) (rec : Record) (old new : Tally) → IsCount records old → new.seen ≡ old.seen + 1 →
    new.valid ≡ old.valid + (if is_pass rec.ending then 1 else 0) → IsCount (records ++ rec ∷ []) new
count-push records rec old new count seen valid = record {
  all = omega (arith, count.all, length-append records (rec ∷ []));
  passing = valid ∙ sym (passes-push records rec old.valid count.passing);
}

-- one that decides nothing
pub open-push : (runs : ℕ) (records : List Record) (rec : Record) (old new : Tally) → AreOpen runs records → IsCount records old →
    new.valid ≡ old.valid + (if is_pass rec.ending then 1 else 0) → is_failure rec.ending ≡ false → new.valid ≢ runs → AreOpen runs (records ++ rec ∷ [])
open-push runs records rec old new undecided count valid passed fewer =
    let passing = passes-push records rec old.valid count.passing in
    let before : old.valid < runs = rw count.passing undecided.not_enough in
    record {
      none_failed = failures-push records rec undecided.none_failed passed;
      not_enough = rw passing (grind (arith, before, valid, fewer));
    }

-- the next one of a block decides nothing
pub block-open : (runs : ℕ) (before block : List Record) (i : ℕ) (rec : Record) (old new : Tally) → i < length block → rec ≡ get_or block i rec →
    AreOpen runs (before ++ take i block) × IsCount (before ++ take i block) old → new.seen ≡ old.seen + 1 →
    new.valid ≡ old.valid + (if is_pass rec.ending then 1 else 0) → is_failure rec.ending ≡ false → new.valid ≢ runs →
    AreOpen runs (before ++ take (i + 1) block) × IsCount (before ++ take (i + 1) block) new
block-open runs before block i rec old new within is so_far seen valid passed fewer =
    subst (λ l. AreOpen runs l × IsCount l new) (sym (more before block i rec within is)) (
      open-push runs (before ++ take i block) rec old new so_far.0 so_far.1 valid passed fewer,
      count-push (before ++ take i block) rec old new so_far.1 seen valid,
    )

-- the next one of a block fails
pub block-failed : (runs : ℕ) (before block : List Record) (i : ℕ) (rec : Record) (run : ℕ) (old new : Tally) → i < length block → rec ≡ get_or block i rec →
    AreOpen runs (before ++ take i block) × IsCount (before ++ take i block) old → old.seen < 10 * runs → new.seen ≡ old.seen + 1 →
    new.valid ≡ old.valid + (if is_pass rec.ending then 1 else 0) → is_failure rec.ending ≡ true → run ≡ old.seen →
    Counts runs before block (Some (Failed rec (Run run))) new
block-failed runs before block i rec run old new within is so_far room seen valid failed at = (
  i + 1,
  omega arith,
  (before ++ take i block, more before block i rec within is, so_far.0, omega (arith, so_far.1.all), failed, at ∙ so_far.1.all),
  subst (λ l. IsCount l new) (sym (more before block i rec within is)) (count-push (before ++ take i block) rec old new so_far.1 seen valid),
)

-- the next one of a block is the last pass that was asked for
pub block-passed : (runs : ℕ) (before block : List Record) (i : ℕ) (rec : Record) (old new : Tally) → i < length block → rec ≡ get_or block i rec →
    AreOpen runs (before ++ take i block) × IsCount (before ++ take i block) old → old.seen < 10 * runs → new.seen ≡ old.seen + 1 →
    new.valid ≡ old.valid + (if is_pass rec.ending then 1 else 0) → new.valid ≡ runs →
    Counts runs before block (Some Passed) new
block-passed runs before block i rec old new within is so_far room seen valid enough =
    let count = subst (λ l. IsCount l new) (sym (more before block i rec within is)) (count-push (before ++ take i block) rec old new so_far.1 seen valid) in (
      i + 1,
      omega arith,
      (before ++ take i block, rec, more before block i rec within is, so_far.0, omega (arith, so_far.1.all), sym count.passing ∙ enough),
      count,
    )

module _ (step : List Choice → Answer → Type 0) (seed : ℕ) where
  pub runs-take : (from to n : ℕ) (records : List Record) → AreRuns step seed from to records → n ≤ length records →
      AreRuns step seed from (from + n) (take n records)
  runs-take from to zero records are within = let e : from ≡ from + 0 = omega arith in e
  runs-take from to (suc n) [] are within = absurd (omega (arith, within))
  runs-take from to (suc n) (rec ∷ records) are within =
      (are.0, subst (λ end. AreRuns step seed (from + 1) end (take n records)) (omega arith) (runs-take (from + 1) to n records are.1 (omega (arith, within))))

  -- so many runs were made and counted, and they decide nothing yet
  pub record Going (runs : ℕ) (tally : Tally) : Type 0 where
    pub records : List Record
    pub made : AreRuns step seed 0 tally.seen records
    pub undecided : AreOpen runs records
    pub count : IsCount records tally

  pub going-none : (runs : ℕ) (tally : Tally) → 1 ≤ runs → tally.seen ≡ 0 → tally.valid ≡ 0 → Going runs tally
  going-none runs tally some seen valid = record {
    records = [];
    made = sym seen;
    undecided = record { none_failed = refl; not_enough = omega (arith, some) };
    count = record { all = seen; passing = valid };
  }

  -- a block that decides nothing
  pub going-block : (runs to : ℕ) (block : List Record) (old new : Tally) (going : Going runs old) → AreRuns step seed old.seen to block →
      Counts runs going.records block None new → Going runs new
  going-block runs to block old new going made counts =
      let all = counts.1.all in
      let length = length-append going.records block in
      let before = going.count.all in
      let end = runs-length step seed old.seen to block made in
      record {
        records = going.records ++ block;
        made = subst (λ n. AreRuns step seed 0 n (going.records ++ block)) (omega (arith, all, length, before, end)) (runs-append step seed 0 old.seen to going.records block going.made made);
        undecided = counts.0;
        count = counts.1;
      }

  -- a block with the run that decides
  pub going-decided : (runs to : ℕ) (block : List Record) (old new : Tally) (decision : Decision) (going : Going runs old) → AreRuns step seed old.seen to block →
      Counts runs going.records block (Some decision) new → AreCounted step seed runs decision new.seen new.valid
  going-decided runs to block old new decision going made counts =
      let all = counts.3.all in
      let length = length-append going.records (take counts.0 block) in
      let before = going.count.all in
      let part = runs-take old.seen to counts.0 block made counts.1 in
      let end = runs-length step seed old.seen (old.seen + counts.0) (take counts.0 block) part in
      record {
        records = going.records ++ take counts.0 block;
        made = subst (λ n. AreRuns step seed 0 n (going.records ++ take counts.0 block)) (omega (arith, all, length, before, end))
            (runs-append step seed 0 old.seen (old.seen + counts.0) going.records (take counts.0 block) going.made part);
        decided = counts.2;
        all_seen = counts.3.all;
        all_valid = counts.3.passing;
      }

  -- all runs decide nothing
  pub going-gave_up : (runs : ℕ) (tally : Tally) (going : Going runs tally) → tally.seen ≡ 10 * runs → AreCounted step seed runs GaveUp tally.seen tally.valid
  going-gave_up runs tally going all = record {
    records = going.records;
    made = going.made;
    decided = (going.undecided, sym going.count.all ∙ all);
    all_seen = going.count.all;
    all_valid = going.count.passing;
  }
