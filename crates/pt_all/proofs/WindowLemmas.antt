-- The window, a block of runs at a time.
use Rattle.std.proofs.Common.{◌≡◌, ◌⊎◌, ℕ, ◌+◌, ◌-◌, ◌*◌, ◌<◌, ◌≤◌, cond, List, [], ◌++◌, length, take, subst, sym, ap, ◌∙◌, arith, inl, inr, length-append, length-take-le}
use Rattle.std.proofs.lemmas.Bool.{cases_lt}
use Rattle.std.proofs.lemmas.List.{take-append-le}
use Rattle.std.proofs.Math.Seq.{take-append-add}
use Rattle.std.proofs.lemmas.List.Sums.{sum_by-append, count_by-le-length}
use Rattle.pt_choice.specs.declared.choice.Choice.{Choice}
use Rattle.pt_case.specs.Step.{Answer}
use Rattle.pt_case.specs.Runs.{AreRuns}
use Rattle.pt_case.specs.declared.record.Record.{Record}
use Rattle.pt_case.proofs.RunsLemmas.{runs-append, runs-length}
use Rattle.pt_all.specs.declared.tally.Tally.{Tally}
use Rattle.pt_all.specs.Window.{is_settled, settled, IsWindow}
use Rattle.pt_all.specs.Progress.{IsCount}

-- fewer of any first ones passed or failed than were asked for
abbrev AreFewer : ℕ → List Record → Type 0
AreFewer runs records = (n : ℕ) → n < length records → settled (take n records) < runs

-- a block that has no more runs than are missing
fewer-block : (runs : ℕ) (records block : List Record) → AreFewer runs records → settled records + length block ≤ runs → AreFewer runs (records ++ block)
fewer-block runs records block fewer room n within = elim (cases_lt n (length records)) [
  | inl before ↦ subst (λ part. settled part < runs) (sym (take-append-le n records block (omega (arith, before)))) (fewer n before)
  | inr after ↦ (
      let part = take (n - length records) block in
      let at : n ≡ length records + (n - length records) = omega (arith, after) in
      let long = length-append records block in
      let size : length part ≡ n - length records = length-take-le (n - length records) block (omega (arith, within, after, long)) in
      let sum : settled (records ++ part) ≡ settled records + settled part = sum_by-append (λ r. cond (is_settled r) 1 0) records part in
      let few : settled part ≤ length part = count_by-le-length is_settled part in
      subst (λ l. settled l < runs) (sym (ap (λ k. take k (records ++ block)) at ∙ take-append-add records block (n - length records))) (omega (arith, sum, few, size, within, after, long, room))
      )
]

module _ (step : List Choice → Answer → Type 0) (seed : ℕ) where
  -- so many runs were made and counted, and they are no more than enough
  pub record Going (runs : ℕ) (tally : Tally) : Type 0 where
    pub records : List Record
    pub made : AreRuns step seed 0 tally.seen records
    pub fewer : AreFewer runs records
    pub count : IsCount records tally

  pub going-none : (runs : ℕ) (tally : Tally) → tally.seen ≡ 0 → tally.valid ≡ 0 → tally.settled ≡ 0 → tally.firsts.items ≡ [] → Going runs tally
  going-none runs tally seen valid none firsts = record {
    records = [];
    made = sym seen;
    fewer = λ n within. absurd (omega (arith, within));
    count = record { all = seen; passing = valid; settling = none; failing = firsts };
  }

  -- a block that has no more runs than are missing
  pub going-block : (runs to : ℕ) (block : List Record) (old new : Tally) (going : Going runs old) → AreRuns step seed old.seen to block →
      IsCount (going.records ++ block) new → old.settled + length block ≤ runs → Going runs new
  going-block runs to block old new going made count room =
      let all = count.all in
      let before = going.count.all in
      let end = runs-length step seed old.seen to block made in
      let settling = going.count.settling in
      record {
        records = going.records ++ block;
        made = subst (λ n. AreRuns step seed 0 n (going.records ++ block)) (omega (arith, all, before, end, length-append going.records block))
            (runs-append step seed 0 old.seen to going.records block going.made made);
        fewer = fewer-block runs going.records block going.fewer (omega (arith, settling, room));
        count = count;
      }

  -- how far the counts came
  pub going-counts : (runs to : ℕ) (block : List Record) (old new : Tally) (going : Going runs old) → AreRuns step seed old.seen to block →
      IsCount (going.records ++ block) new → (new.seen ≡ to) × (new.settled ≤ old.settled + length block)
  going-counts runs to block old new going made count =
      let all = count.all in
      let before = going.count.all in
      let end = runs-length step seed old.seen to block made in
      let settling = going.count.settling in
      let now = count.settling in
      let sum : settled (going.records ++ block) ≡ settled going.records + settled block = sum_by-append (λ r. cond (is_settled r) 1 0) going.records block in
      let few : settled block ≤ length block = count_by-le-length is_settled block in
      (omega (arith, all, before, end, length-append going.records block), omega (arith, settling, now, sum, few))

  -- there are as many as are enough
  pub going-window : (runs : ℕ) (tally : Tally) (going : Going runs tally) → tally.seen ≤ 10 * runs → (tally.settled ≡ runs) ⊎ (tally.seen ≡ 10 * runs) →
      IsWindow step seed runs going.records
  going-window runs tally going short enough =
      let all = going.count.all in
      record {
        made = subst (λ n. AreRuns step seed 0 n going.records) all going.made;
        enough = elim enough [ inl settles ↦ inl (sym going.count.settling ∙ settles) | inr most ↦ inr (sym all ∙ most) ];
        least = λ n within early. elim early [
          | inl settles ↦ (let fewer = going.fewer n within in omega (arith, settles, fewer))
          | inr most ↦ (let size = length-take-le n going.records (omega (arith, within)) in omega (arith, most, size, within, all, short))
        ];
      }
