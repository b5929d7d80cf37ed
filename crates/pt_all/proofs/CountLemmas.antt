-- Runs that are counted, one more at a time.
use Rattle.std.proofs.Common.{◌≡◌, ℕ, ◌+◌, ◌<◌, ◌≤◌, cond, List, [], ◌∷◌, ◌++◌, length, take, get_or, subst, sym, ap, ◌∙◌, arith, inl, inr, append_assoc, length-append, length-take-le}
use Rattle.std.specs.List.{All}
use Rattle.std.proofs.lemmas.Bool.{cases_Bool}
use Rattle.std.proofs.lemmas.List.{take_more}
use Rattle.std.proofs.lemmas.List.Sums.{sum_by_push}
use Rattle.std.proofs.lemmas.List.Elements.{All-weaker}
use Rattle.pt_case.specs.Ending.{is_pass, is_failure}
use Rattle.pt_case.specs.declared.record.Record.{Record}
use Rattle.pt_all.specs.declared.firsts.First.{First}
use Rattle.pt_all.specs.declared.tally.Tally.{Tally}
use Rattle.pt_all.specs.Window.{is_settled}
use Rattle.pt_all.specs.Progress.{IsCount, firsts_from, with_failure}
use Rattle.pt_all.proofs.FirstsLemmas.{firsts-passed, firsts-failed, firsts-few}

-- where fewer runs were made, no origin came so often
pub few-times : (records : List Record) (tally : Tally) (most : ℕ) → IsCount records tally → tally.seen < most → All (λ first. first.times < most) tally.firsts.items
few-times records tally most count room =
    let all = count.all in
    subst (λ (firsts : List First). All (λ first. first.times < most) firsts) (sym count.failing)
    (All-weaker (λ (first : First). first.times ≤ length records) (λ (first : First). first.times < most) (λ first few. omega (arith, few, all, room))
    (firsts_from 0 records) (firsts-few records))

-- the first failures after one run more
firsts-push : (records : List Record) (rec : Record) (old : List First) (seen : ℕ) → old ≡ firsts_from 0 records → seen ≡ length records →
    cond (is_failure rec.ending) (with_failure seen rec old) old ≡ firsts_from 0 (records ++ rec ∷ [])
firsts-push records rec old seen is all = elim (cases_Bool (is_failure rec.ending)) [
  | inl fails ↦ (
      let number : seen ≡ 0 + length records = omega (arith, all) in
      ap (λ b. cond b (with_failure seen rec old) old) fails ∙ ap (λ n. with_failure n rec old) number ∙ ap (with_failure (0 + length records) rec) is ∙ sym (firsts-failed 0 records rec fails)
      )
  | inr passes ↦ ap (λ b. cond b (with_failure seen rec old) old) passes ∙ is ∙ sym (firsts-passed 0 records rec passes)
]

pub count-push : (records : List Record) (rec : Record) (old new : Tally) → IsCount records old → new.seen ≡ old.seen + 1 →
    new.valid ≡ old.valid + cond (is_pass rec.ending) 1 0 → new.settled ≡ old.settled + cond (is_settled rec) 1 0 →
    new.firsts.items ≡ cond (is_failure rec.ending) (with_failure old.seen rec old.firsts.items) old.firsts.items → IsCount (records ++ rec ∷ []) new
count-push records rec old new count seen valid settled firsts =
    let all = count.all in
    record {
      all = omega (arith, all, seen, length-append records (rec ∷ []));
      passing = valid ∙ ap (λ n. n + cond (is_pass rec.ending) 1 0) count.passing ∙ sym (sum_by_push (λ r. cond (is_pass r.ending) 1 0) records rec);
      settling = settled ∙ ap (λ n. n + cond (is_settled rec) 1 0) count.settling ∙ sym (sum_by_push (λ r. cond (is_settled r) 1 0) records rec);
      failing = firsts ∙ firsts-push records rec old.firsts.items old.seen count.failing all;
    }

-- one record more of a block
pub more : (before block : List Record) (i : ℕ) (rec : Record) → i < length block → rec ≡ get_or block i rec →
    before ++ take (i + 1) block ≡ (before ++ take i block) ++ rec ∷ []
more before block i rec within is =
    ap (λ l. before ++ l) (take_more block i rec within ∙ ap (λ r. take i block ++ r ∷ []) (sym is)) ∙ sym (append_assoc before (take i block) (rec ∷ []))

-- how many were made after the first ones of a block
pub seen-more : (before block : List Record) (i : ℕ) (old new : Tally) → IsCount before old → IsCount (before ++ take i block) new → i ≤ length block →
    new.seen ≡ old.seen + i
seen-more before block i old new count more_counted within =
    let first = count.all in
    let all = more_counted.all in
    let part : length (take i block) ≡ i = length-take-le i block within in
    omega (arith, first, all, part, length-append before (take i block))
