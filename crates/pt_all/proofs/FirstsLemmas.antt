-- The first failures of the origins, one run more at a time.
use Rattle.std.proofs.Common.{◌≡◌, ◌≢◌, ℕ, zero, suc, ◌+◌, ◌-◌, ◌<◌, ◌≤◌, true, false, cond, Some, List, [], ◌∷◌, ◌++◌, length, take, drop, get_or, refl, subst, sym, ap, ◌∙◌, arith, inl, inr}
use Rattle.std.specs.Prelude.{not}
use Rattle.std.specs.List.{All, slice_get}
use Rattle.std.proofs.lemmas.Bool.{cases_Bool, not-true, both_ways}
use Rattle.std.proofs.lemmas.List.{take-append-drop, take-set, drop-set, drop_more}
use Rattle.std.proofs.lemmas.List.Sums.{sum_by-cons, sum_by_push, count_by-le-length}
use Rattle.std.proofs.lemmas.List.Elements.{All-nil, All-cons, All-filter, All-weaker, filter_passes}
use Rattle.std.proofs.lemmas.Option.{same_Some}
use Rattle.std.proofs.Math.ListN.{set}
use Rattle.pt_case.specs.Ending.{is_failure}
use Rattle.pt_case.specs.declared.ending.Ending.{Ending}
use Rattle.pt_case.specs.declared.record.Record.{Record}
use Rattle.pt_all.specs.declared.firsts.First.{First}
use Rattle.pt_all.specs.Origins.{same_ending, times_of}
use Rattle.pt_all.specs.Progress.{others, firsts_from, with_failure}
use Rattle.pt_all.proofs.EndingLemmas.{same-decides, same-itself, not-same, not-alike}

-- one that came once more
abbrev pub again : First → First
again first = record first { times = first.times + 1 }

-- how much a record adds to those that end so
abbrev at_once : Ending → Record → ℕ
at_once ending rec = cond (same_ending ending rec.ending) 1 0

times-push : (ending : Ending) (records : List Record) (rec : Record) → times_of ending (records ++ rec ∷ []) ≡ times_of ending records + at_once ending rec
times-push ending records rec = sum_by_push (λ r. at_once ending r) records rec

with-same : (run : ℕ) (rec : Record) (first : First) (firsts : List First) → same_ending first.rec.ending rec.ending ≡ true →
    with_failure run rec (first ∷ firsts) ≡ again first ∷ firsts
with-same run rec first firsts same = rw same refl

with-other : (run : ℕ) (rec : Record) (first : First) (firsts : List First) → same_ending first.rec.ending rec.ending ≡ false →
    with_failure run rec (first ∷ firsts) ≡ first ∷ with_failure run rec firsts
with-other run rec first firsts other = rw other refl

others-dropped : (ending : Ending) (first : First) (firsts : List First) → same_ending ending first.rec.ending ≡ true → others ending (first ∷ firsts) ≡ others ending firsts
others-dropped ending first firsts same = rw same refl

others-kept : (ending : Ending) (first : First) (firsts : List First) → same_ending ending first.rec.ending ≡ false →
    others ending (first ∷ firsts) ≡ first ∷ others ending firsts
others-kept ending first firsts other = rw other refl

-- one more of an origin that is left out
others-same : (ending : Ending) (run : ℕ) (rec : Record) (firsts : List First) → same_ending ending rec.ending ≡ true →
    others ending (with_failure run rec firsts) ≡ others ending firsts
others-same ending run rec [] same = rw same refl
others-same ending run rec (first ∷ firsts) same = elim (cases_Bool (same_ending first.rec.ending rec.ending)) [
  | inl here ↦ (
      let one : ending ≡ first.rec.ending = (same-decides ending rec.ending).0 same ∙ sym ((same-decides first.rec.ending rec.ending).0 here) in
      let left = (same-decides ending first.rec.ending).1 one in
      ap (others ending) (with-same run rec first firsts here) ∙ others-dropped ending (again first) firsts left ∙ sym (others-dropped ending first firsts left)
      )
  | inr there ↦ (
      let rest = others-same ending run rec firsts same in
      ap (others ending) (with-other run rec first firsts there) ∙ ap (λ l. cond (not (same_ending ending first.rec.ending)) (first ∷ l) l) rest
      )
]

-- one more of an origin that is not
others-other : (ending : Ending) (run : ℕ) (rec : Record) (firsts : List First) → same_ending ending rec.ending ≡ false →
    others ending (with_failure run rec firsts) ≡ with_failure run rec (others ending firsts)
others-other ending run rec [] other = rw other refl
others-other ending run rec (first ∷ firsts) other = elim (cases_Bool (same_ending first.rec.ending rec.ending)) [
  | inl here ↦ (
      let one : first.rec.ending ≡ rec.ending = (same-decides first.rec.ending rec.ending).0 here in
      let kept : same_ending ending first.rec.ending ≡ false = ap (same_ending ending) one ∙ other in
      ap (others ending) (with-same run rec first firsts here) ∙ others-kept ending (again first) firsts kept
      ∙ sym (with-same run rec first (others ending firsts) here) ∙ ap (with_failure run rec) (sym (others-kept ending first firsts kept))
      )
  | inr there ↦ (
      let rest = others-other ending run rec firsts other in
      ap (others ending) (with-other run rec first firsts there) ∙ elim (cases_Bool (same_ending ending first.rec.ending)) [
        | inl left ↦ others-dropped ending first (with_failure run rec firsts) left ∙ rest ∙ ap (with_failure run rec) (sym (others-dropped ending first firsts left))
        | inr kept ↦ others-kept ending first (with_failure run rec firsts) kept ∙ ap (λ l. first ∷ l) rest ∙ sym (with-other run rec first (others ending firsts) there)
            ∙ ap (with_failure run rec) (sym (others-kept ending first firsts kept))
      ]
      )
]

-- a first failure as its run, how often it came, and its record
abbrev made : ℕ → ℕ → Record → First
made run times rec = record { run = run; times = times; rec = rec }

pub firsts-fails : (run : ℕ) (rec : Record) (records : List Record) → is_failure rec.ending ≡ true →
    firsts_from run (rec ∷ records) ≡ made run (times_of rec.ending (rec ∷ records)) rec ∷ others rec.ending (firsts_from (run + 1) records)
firsts-fails run rec records fails = rw fails refl

pub firsts-passes : (run : ℕ) (rec : Record) (records : List Record) → is_failure rec.ending ≡ false → firsts_from run (rec ∷ records) ≡ firsts_from (run + 1) records
firsts-passes run rec records passes = rw passes refl

-- one run more that does not fail
pub firsts-passed : (run : ℕ) (records : List Record) (rec : Record) → is_failure rec.ending ≡ false → firsts_from run (records ++ rec ∷ []) ≡ firsts_from run records
firsts-passed run [] rec passed = firsts-passes run rec [] passed
firsts-passed run (head ∷ records) rec passed =
    let rest = firsts-passed (run + 1) records rec passed in
    elim (cases_Bool (is_failure head.ending)) [
      | inl fails ↦ (
          let none : at_once head.ending rec ≡ 0 = ap (λ b. cond b 1 0) (not-same head.ending rec.ending (not-alike head.ending rec.ending fails passed)) in
          let times : times_of head.ending ((head ∷ records) ++ rec ∷ []) ≡ times_of head.ending (head ∷ records) = omega (arith, times-push head.ending (head ∷ records) rec, none) in
          firsts-fails run head (records ++ rec ∷ []) fails ∙ ap (λ n. made run n head ∷ others head.ending (firsts_from (run + 1) (records ++ rec ∷ []))) times
          ∙ ap (λ l. made run (times_of head.ending (head ∷ records)) head ∷ others head.ending l) rest ∙ sym (firsts-fails run head records fails)
          )
      | inr passes ↦ firsts-passes run head (records ++ rec ∷ []) passes ∙ rest ∙ sym (firsts-passes run head records passes)
    ]

-- one that fails
pub firsts-failed : (run : ℕ) (records : List Record) (rec : Record) → is_failure rec.ending ≡ true →
    firsts_from run (records ++ rec ∷ []) ≡ with_failure (run + length records) rec (firsts_from run records)
firsts-failed run [] rec failed =
    let once : times_of rec.ending (rec ∷ []) ≡ 1 = ap (λ b. 0 + cond b 1 0) (same-itself rec.ending) in
    firsts-fails run rec [] failed ∙ ap (λ n. made run n rec ∷ []) once ∙ ap (λ n. made n 1 rec ∷ []) (omega arith)
firsts-failed run (head ∷ records) rec failed =
    let rest : firsts_from (run + 1) (records ++ rec ∷ []) ≡ with_failure (run + length (head ∷ records)) rec (firsts_from (run + 1) records)
    = firsts-failed (run + 1) records rec failed ∙ ap (λ n. with_failure n rec (firsts_from (run + 1) records)) (omega arith) in
    let number : ℕ = run + length (head ∷ records) in
    let later = firsts_from (run + 1) records in
    let before = times_of head.ending (head ∷ records) in
    elim (cases_Bool (is_failure head.ending)) [
      | inl fails ↦ (
          let opened = firsts-fails run head (records ++ rec ∷ []) fails ∙ ap (λ l. made run (times_of head.ending ((head ∷ records) ++ rec ∷ [])) head ∷ others head.ending l) rest in
          elim (cases_Bool (same_ending head.ending rec.ending)) [
            | inl same ↦ (
                let one : at_once head.ending rec ≡ 1 = ap (λ b. cond b 1 0) same in
                let times : times_of head.ending ((head ∷ records) ++ rec ∷ []) ≡ before + 1 = times-push head.ending (head ∷ records) rec ∙ ap (λ n. before + n) one in
                opened ∙ ap (λ l. made run (times_of head.ending ((head ∷ records) ++ rec ∷ [])) head ∷ l) (others-same head.ending number rec later same)
                ∙ ap (λ n. made run n head ∷ others head.ending later) times
                ∙ sym (with-same number rec (made run before head) (others head.ending later) same) ∙ ap (with_failure number rec) (sym (firsts-fails run head records fails))
                )
            | inr other ↦ (
                let none : at_once head.ending rec ≡ 0 = ap (λ b. cond b 1 0) other in
                let times : times_of head.ending ((head ∷ records) ++ rec ∷ []) ≡ before = omega (arith, times-push head.ending (head ∷ records) rec, none) in
                opened ∙ ap (λ l. made run (times_of head.ending ((head ∷ records) ++ rec ∷ [])) head ∷ l) (others-other head.ending number rec later other)
                ∙ ap (λ n. made run n head ∷ with_failure number rec (others head.ending later)) times
                ∙ sym (with-other number rec (made run before head) (others head.ending later) other) ∙ ap (with_failure number rec) (sym (firsts-fails run head records fails))
                )
          ]
          )
      | inr passes ↦ firsts-passes run head (records ++ rec ∷ []) passes ∙ rest ∙ ap (with_failure number rec) (sym (firsts-passes run head records passes))
    ]

-- where a failure's origin stands already, it is counted there
pub written-again : (run : ℕ) (rec : Record) (firsts : List First) (i : ℕ) (first : First) → i < length firsts → first ≡ get_or firsts i first →
    same_ending first.rec.ending rec.ending ≡ true → with_failure run rec firsts ≡ take i firsts ++ with_failure run rec (drop i firsts) →
    set firsts i (again first) ≡ with_failure run rec firsts
written-again run rec firsts i first within is same so_far =
    let rest : drop i firsts ≡ first ∷ drop (i + 1) firsts = drop_more firsts i first within ∙ ap (λ f. f ∷ drop (i + 1) firsts) (sym is) in
    sym (take-append-drop i (set firsts i (again first))) ∙ ap (λ l. l ++ drop i (set firsts i (again first))) (take-set firsts i (again first))
    ∙ ap (λ l. take i firsts ++ l) (drop-set firsts i (again first) within)
    ∙ ap (λ l. take i firsts ++ l) (sym (with-same run rec first (drop (i + 1) firsts) same) ∙ ap (with_failure run rec) (sym rest)) ∙ sym so_far

-- the first failure of its origin among the records, the first of which is that of the run of this number
pub record IsOf (run : ℕ) (records : List Record) (first : First) : Type 0 where
  pub from : run ≤ first.run
  pub stands : slice_get records (first.run - run) ≡ Some first.rec
  pub earliest : (before : ℕ) (rec : Record) → before < first.run - run → slice_get records before ≡ Some rec → rec.ending ≢ first.rec.ending
  pub counted : first.times ≡ times_of first.rec.ending records
  pub fails : is_failure first.rec.ending ≡ true

earlier-too : (head : Record) (records : List Record) (first : First) (n : ℕ) → head.ending ≢ first.rec.ending →
    ((before : ℕ) (rec : Record) → before < n → slice_get records before ≡ Some rec → rec.ending ≢ first.rec.ending) →
    (before : ℕ) (rec : Record) → before < suc n → slice_get (head ∷ records) before ≡ Some rec → rec.ending ≢ first.rec.ending
earlier-too head records first n differ earliest zero rec within stands = subst (λ (r : Record). r.ending ≢ first.rec.ending) (same_Some head rec stands) differ
earlier-too head records first n differ earliest (suc before) rec within stands = earliest before rec (omega (arith, within)) stands

-- one record before them that ends otherwise
of-later : (run : ℕ) (head : Record) (records : List Record) (first : First) → IsOf (run + 1) records first → head.ending ≢ first.rec.ending → IsOf run (head ∷ records) first
of-later run head records first is differ =
    let from = is.from in
    let at : suc (first.run - (run + 1)) ≡ first.run - run = omega (arith, from) in
    let none : same_ending first.rec.ending head.ending ≡ false = not-same first.rec.ending head.ending (λ same. differ (sym same)) in
    let adds : times_of first.rec.ending (head ∷ records) ≡ at_once first.rec.ending head + times_of first.rec.ending records = sum_by-cons (λ r. at_once first.rec.ending r) head records in
    let nothing : at_once first.rec.ending head ≡ 0 = ap (λ b. cond b 1 0) none in
    let counted = is.counted in
    record {
      from = omega (arith, from);
      stands = subst (λ n. slice_get (head ∷ records) n ≡ Some first.rec) at is.stands;
      earliest = subst (λ n. (before : ℕ) (rec : Record) → before < n → slice_get (head ∷ records) before ≡ Some rec → rec.ending ≢ first.rec.ending) at
          (earlier-too head records first (first.run - (run + 1)) differ is.earliest);
      counted = omega (arith, counted, adds, nothing);
      fails = is.fails;
    }

-- the first record, where it fails
of-head : (run : ℕ) (head : Record) (records : List Record) → is_failure head.ending ≡ true → IsOf run (head ∷ records) (made run (times_of head.ending (head ∷ records)) head)
of-head run head records fails =
    let none : 0 ≡ run - run = omega arith in
    record {
      from = omega arith;
      stands = subst (λ n. slice_get (head ∷ records) n ≡ Some head) none refl;
      earliest = λ before rec within stands. absurd (omega (arith, within));
      counted = refl;
      fails = fails;
    }

-- each is the first failure of its origin
pub firsts-of : (run : ℕ) (records : List Record) → All (IsOf run records) (firsts_from run records)
firsts-of run [] = All-nil (IsOf run [])
firsts-of run (head ∷ records) =
    let rest = firsts-of (run + 1) records in
    let later = firsts_from (run + 1) records in
    elim (cases_Bool (is_failure head.ending)) [
      | inl fails ↦ subst (All (IsOf run (head ∷ records))) (sym (firsts-fails run head records fails))
          (All-cons (IsOf run (head ∷ records)) (made run (times_of head.ending (head ∷ records)) head) (others head.ending later) (of-head run head records fails)
          (λ k d within.
          let first = get_or (others head.ending later) k d in
          let kept = filter_passes (λ (first : First). not (same_ending head.ending first.rec.ending)) later k d within in
          let differ : same_ending head.ending first.rec.ending ≡ false = not-true (same_ending head.ending first.rec.ending) kept in
          of-later run head records first (All-filter (λ (first : First). not (same_ending head.ending first.rec.ending)) (IsOf (run + 1) records) later rest k d within)
          (λ same. both_ways (same_ending head.ending first.rec.ending) differ ((same-decides head.ending first.rec.ending).1 same))))
      | inr passes ↦ subst (All (IsOf run (head ∷ records))) (sym (firsts-passes run head records passes))
          (All-weaker (IsOf (run + 1) records) (IsOf run (head ∷ records)) (λ first is. of-later run head records first is (λ same. not-alike first.rec.ending head.ending is.fails passes (sym same))) later rest)
    ]

-- no origin came more often than there are records
pub firsts-few : (records : List Record) → All (λ first. first.times ≤ length records) (firsts_from 0 records)
firsts-few records = All-weaker (IsOf 0 records) (λ first. first.times ≤ length records)
    (λ first is. let counted = is.counted in let few = count_by-le-length (λ r. same_ending first.rec.ending r.ending) records in omega (arith, counted, few))
    (firsts_from 0 records) (firsts-of 0 records)
