-- The origins of failing records.
use Rattle.std.proofs.Common.{◌≡◌, ◌≢◌, ℕ, zero, suc, ◌+◌, ◌<◌, Bool, true, false, cond, Some, List, [], ◌∷◌, length, get_or, map, refl, subst, sym, ap, ◌∙◌, arith, inl, inr}
use Rattle.std.specs.Prelude.{not}
use Rattle.std.specs.List.{AllPairs, Contains, filter, slice_get}
use Rattle.std.proofs.lemmas.Bool.{cases_Bool, not-true, both_ways, not_from_false}
use Rattle.std.proofs.lemmas.List.Elements.{filter_passes}
use Rattle.std.proofs.lemmas.List.Kept.{AllPairs-cons, AllPairs-filter}
use Rattle.std.proofs.lemmas.Option.{same_Some}
use Rattle.pt_case.specs.Ending.{is_failure}
use Rattle.pt_case.specs.declared.ending.Ending.{Ending}
use Rattle.pt_case.specs.declared.record.Record.{Record}
use Rattle.pt_all.specs.declared.firsts.First.{First}
use Rattle.pt_all.specs.Origins.{same_ending, without, origins}
use Rattle.pt_all.specs.Progress.{others, firsts_from}
use Rattle.pt_all.proofs.EndingLemmas.{same-decides}
use Rattle.pt_all.proofs.FirstsLemmas.{firsts-fails, firsts-passes}

origins-fails : (rec : Record) (records : List Record) → is_failure rec.ending ≡ true → origins (rec ∷ records) ≡ rec.ending ∷ without rec.ending (origins records)
origins-fails rec records fails = rw fails refl

origins-passes : (rec : Record) (records : List Record) → is_failure rec.ending ≡ false → origins (rec ∷ records) ≡ origins records
origins-passes rec records passes = rw passes refl

-- the origins of first failures
abbrev pub origins_in : List First → List Ending
origins_in firsts = map (λ first. first.rec.ending) firsts

others-origins : (ending : Ending) (firsts : List First) → origins_in (others ending firsts) ≡ without ending (origins_in firsts)
others-origins ending [] = refl
others-origins ending (first ∷ firsts) = elim (cases_Bool (not (same_ending ending first.rec.ending))) [
  | inl kept ↦ ap (λ b. origins_in (cond b (first ∷ others ending firsts) (others ending firsts))) kept ∙ ap (λ l. first.rec.ending ∷ l) (others-origins ending firsts)
      ∙ sym (ap (λ b. cond b (first.rec.ending ∷ without ending (origins_in firsts)) (without ending (origins_in firsts))) kept)
  | inr left ↦ ap (λ b. origins_in (cond b (first ∷ others ending firsts) (others ending firsts))) left ∙ others-origins ending firsts
      ∙ sym (ap (λ b. cond b (first.rec.ending ∷ without ending (origins_in firsts)) (without ending (origins_in firsts))) left)
]

-- the first failures are those of the origins, in order
pub firsts-origins : (run : ℕ) (records : List Record) → origins_in (firsts_from run records) ≡ origins records
firsts-origins run [] = refl
firsts-origins run (rec ∷ records) = elim (cases_Bool (is_failure rec.ending)) [
  | inl fails ↦ ap origins_in (firsts-fails run rec records fails)
      ∙ ap (λ l. rec.ending ∷ l) (others-origins rec.ending (firsts_from (run + 1) records) ∙ ap (without rec.ending) (firsts-origins (run + 1) records))
      ∙ sym (origins-fails rec records fails)
  | inr passes ↦ ap origins_in (firsts-passes run rec records passes) ∙ firsts-origins (run + 1) records ∙ sym (origins-passes rec records passes)
]

-- no origin stands twice
pub origins-differ : (records : List Record) → AllPairs (λ one other. one ≢ other) (origins records)
origins-differ [] = λ i j d before within. absurd (omega (arith, within))
origins-differ (rec ∷ records) =
    let rest = origins-differ records in
    elim (cases_Bool (is_failure rec.ending)) [
      | inl fails ↦ subst (AllPairs (λ one other. one ≢ other)) (sym (origins-fails rec records fails))
          (AllPairs-cons (λ (one : Ending) (other : Ending). one ≢ other) rec.ending (without rec.ending (origins records))
          (λ k d within same.
          let other = get_or (without rec.ending (origins records)) k d in
          let kept = filter_passes (λ (other : Ending). not (same_ending rec.ending other)) (origins records) k d within in
          both_ways (same_ending rec.ending other) (not-true (same_ending rec.ending other) kept) ((same-decides rec.ending other).1 same))
          (AllPairs-filter (λ (one : Ending) (other : Ending). one ≢ other) (λ (other : Ending). not (same_ending rec.ending other)) (origins records) rest))
      | inr passes ↦ subst (AllPairs (λ one other. one ≢ other)) (sym (origins-passes rec records passes)) rest
    ]

here : {X : Type 0} (head : X) (rest : List X) (x : X) → head ≡ x → Contains (head ∷ rest) x
here head rest x same = (0, omega arith, same)

later : {X : Type 0} (head : X) (rest : List X) (x : X) → Contains rest x → Contains (head ∷ rest) x
later head rest x among = let within : among.0 < length rest = among.1 in (suc among.0, omega (arith, within), among.2)

-- what a filter does not leave out stays
stays : (p : Ending → Bool) (xs : List Ending) (k : ℕ) (x : Ending) → k < length xs → get_or xs k x ≡ x → p x ≡ true → Contains (filter p xs) x
stays p [] k x within is passes = absurd (omega (arith, within))
stays p (y ∷ xs) zero x within is passes =
    subst (λ b. Contains (cond b (y ∷ filter p xs) (filter p xs)) x) (sym (ap p is ∙ passes)) (here y (filter p xs) x is)
stays p (y ∷ xs) (suc k) x within is passes =
    let rest = stays p xs k x (omega (arith, within)) is passes in
    elim (cases_Bool (p y)) [
      | inl kept ↦ subst (λ b. Contains (cond b (y ∷ filter p xs) (filter p xs)) x) (sym kept) (later y (filter p xs) x rest)
      | inr left ↦ subst (λ b. Contains (cond b (y ∷ filter p xs) (filter p xs)) x) (sym left) rest
    ]

-- each failing record has its origin among them
pub origins-all : (records : List Record) (run : ℕ) (rec : Record) → slice_get records run ≡ Some rec → is_failure rec.ending ≡ true → Contains (origins records) rec.ending
origins-all [] run rec stands fails = cc
origins-all (head ∷ records) zero rec stands fails =
    let same : head ≡ rec = same_Some head rec stands in
    subst (λ r. Contains (origins (head ∷ records)) r.ending) same
    (let failed : is_failure head.ending ≡ true = subst (λ (r : Record). is_failure r.ending ≡ true) (sym same) fails in
    subst (λ l. Contains l head.ending) (sym (origins-fails head records failed)) (here head.ending (without head.ending (origins records)) head.ending refl))
origins-all (head ∷ records) (suc run) rec stands fails =
    let rest = origins-all records run rec stands fails in
    elim (cases_Bool (is_failure head.ending)) [
      | inr passes ↦ subst (λ l. Contains l rec.ending) (sym (origins-passes head records passes)) rest
      | inl failed ↦ subst (λ l. Contains l rec.ending) (sym (origins-fails head records failed)) (elim (cases_Bool (same_ending head.ending rec.ending)) [
        | inl same ↦ here head.ending (without head.ending (origins records)) rec.ending ((same-decides head.ending rec.ending).0 same)
        | inr other ↦ later head.ending (without head.ending (origins records)) rec.ending
            (stays (λ (other : Ending). not (same_ending head.ending other)) (origins records) rest.0 rec.ending rest.1 rest.2
            (not_from_false (same_ending head.ending rec.ending) other))
      ])
    ]
