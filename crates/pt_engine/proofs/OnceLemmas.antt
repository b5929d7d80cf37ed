-- A check has one outcome.
use Rattle.std.proofs.Common.{◌≡◌, ◌≢◌, ◌⊎◌, ℕ, zero, suc, ◌+◌, ◌*◌, ◌<◌, ◌≤◌, Bool, true, false, cond, List, [], ◌∷◌, ◌++◌, length, take, drop, get_or, refl, subst, sym, ap, ◌∙◌, arith, length-append, inl, inr}
use Rattle.std.proofs.lemmas.Grind.{common_steps}
use Rattle.std.proofs.lemmas.Bool.{cases_lt}
use Rattle.std.proofs.lemmas.List.{take-append-le, take_all}
use Rattle.std.proofs.lemmas.List.Sums.{sum_by-take-le}
use Rattle.pt_choice.specs.declared.choice.Choice.{Choice}
use Rattle.pt_rng.specs.Supplied.{supply_of_run}
use Rattle.pt_case.specs.Step.{Answer}
use Rattle.pt_case.specs.Source.{Fresh}
use Rattle.pt_case.specs.Ending.{is_pass, is_failure}
use Rattle.pt_case.specs.declared.ending.Ending.{Ending}
use Rattle.pt_case.specs.declared.ending.Ending.TheVariants.{Pass, Reject, Overrun, Fail}
use Rattle.pt_case.specs.declared.record.Record.{Record}
use Rattle.pt_case.proofs.RecordLemmas.{record-once}
use Rattle.pt_case.specs.Runs.{AreRuns}
use Rattle.pt_found.specs.declared.finding.Found.TheVariants.{Stored, Run}
use Rattle.pt_engine.specs.declared.outcome.Decision.{Decision}
use Rattle.pt_engine.specs.declared.outcome.Decision.TheVariants.{Passed, GaveUp, Failed}
use Rattle.pt_engine.specs.declared.outcome.Outcome.{Outcome}
use Rattle.pt_engine.specs.Outcome.{AreOpen, Decides, AreCounted, AreRecords, IsLeastFailure, IsDecided, IsOutcome, flags_of, passes, failures}
use Rattle.pt_engine.proofs.CountLemmas.{passes-push}
use Rattle.pt_engine.proofs.LeastLemmas.{records-once, least-once, none-fails}

-- what fails does not pass
fails-no_pass : (ending : Ending) → is_failure ending ≡ true → is_pass ending ≡ false
fails-no_pass Pass fails = grind (arith, common_steps, fails)
fails-no_pass Reject fails = refl
fails-no_pass Overrun fails = refl
fails-no_pass (Fail origin) fails = refl

-- a last one that fails is a failure
fails-last : (before : List Record) (last : Record) → is_failure last.ending ≡ true → 1 ≤ failures (before ++ last ∷ [])
fails-last before last fails = grind (arith, common_steps, fails)

-- a last one that fails adds nothing to those that passed
passes-last : (before : List Record) (last : Record) → is_failure last.ending ≡ true → passes (before ++ last ∷ []) ≡ passes before
passes-last before last fails =
    let no = fails-no_pass last.ending fails in
    let push = passes-push before last (passes before) refl in
    grind (arith, common_steps, push, no)

-- of lists that end alike, each part is the same
push-same : (one other : List Record) (a b : Record) → one ++ a ∷ [] ≡ other ++ b ∷ [] → (one ≡ other) × (a ≡ b)
push-same [] [] a b same = (refl, ap (λ l. get_or l 0 a) same)
push-same [] (d ∷ other) a b same = let e = ap length same in let l = length-append other (b ∷ []) in absurd (omega (arith, e, l))
push-same (c ∷ one) [] a b same = let e = ap length same in let l = length-append one (a ∷ []) in absurd (omega (arith, e, l))
push-same (c ∷ one) (d ∷ other) a b same =
    let rest = push-same one other a b (ap (λ l. drop 1 l) same) in
    let head : c ≡ d = ap (λ l. get_or l 0 c) same in
    (ap (λ x. x ∷ one) head ∙ ap (λ l. d ∷ l) rest.0, rest.1)

-- the first ones of runs that decide nothing decide nothing
open-take : (runs n : ℕ) (records : List Record) → AreOpen runs records → AreOpen runs (take n records)
open-take runs n records undecided = record {
  none_failed = let le = sum_by-take-le (λ rec. cond (is_failure rec.ending) 1 0) records n in let none = undecided.none_failed in omega (arith, le, none);
  not_enough = let le = sum_by-take-le (λ rec. cond (is_pass rec.ending) 1 0) records n in let few = undecided.not_enough in omega (arith, le, few);
}

-- before the run that decides nothing is decided
decided-before : (runs : ℕ) (before : List Record) (last : Record) (records : List Record) (n : ℕ) → records ≡ before ++ last ∷ [] → AreOpen runs before →
    length before < 10 * runs → n < length records → AreOpen runs (take n records) × (n < 10 * runs)
decided-before runs before last records n is undecided room within =
    let l = ap length is ∙ length-append before (last ∷ []) in
    let few : n ≤ length before = omega (arith, l, within) in
    let part : take n records ≡ take n before = ap (λ r. take n r) is ∙ take-append-le n before (last ∷ []) few in
    (subst (AreOpen runs) (sym part) (open-take runs n before undecided), omega (arith, few, room))

open-before : (runs : ℕ) (records : List Record) (decision : Decision) (n : ℕ) → Decides runs records decision → n < length records →
    AreOpen runs (take n records) × (n < 10 * runs)
open-before runs records Passed n decides within = decided-before runs decides.0 decides.1 records n decides.2 decides.3 decides.4 within
open-before runs records GaveUp n decides within = let all = decides.1 in (open-take runs n records decides.0, omega (arith, all, within))
open-before runs records (Failed first (Run run)) n decides within = decided-before runs decides.0 first records n decides.1 decides.2 decides.3 within
open-before runs records (Failed first Stored) n decides within = absurd decides

-- runs that decide are not open, or there are as many as may be
not-open : (runs : ℕ) (records : List Record) (decision : Decision) → Decides runs records decision → AreOpen runs records → length records < 10 * runs → ⊥
not-open runs records Passed decides undecided room = let enough = decides.5 in let few = undecided.not_enough in omega (arith, enough, few)
not-open runs records GaveUp decides undecided room = let all = decides.1 in omega (arith, all, room)
not-open runs records (Failed first (Run run)) decides undecided room =
    let one = fails-last decides.0 first decides.4 in
    let none : failures (decides.0 ++ first ∷ []) ≡ 0 = subst (λ l. failures l ≡ 0) decides.1 undecided.none_failed in
    omega (arith, one, none)
not-open runs records (Failed first Stored) decides undecided room = decides

-- passes enough, and yet a last one that fails
passed-failed : {P : Type 0} (runs : ℕ) (records before : List Record) (last : Record) → passes records ≡ runs → records ≡ before ++ last ∷ [] →
    AreOpen runs before → is_failure last.ending ≡ true → P
passed-failed runs records before last enough is undecided fails =
    let same = ap passes is ∙ passes-last before last fails in
    let few = undecided.not_enough in
    absurd (omega (arith, same, few, enough))

open-failed : {P : Type 0} (runs : ℕ) (records before : List Record) (last : Record) → AreOpen runs records → records ≡ before ++ last ∷ [] →
    is_failure last.ending ≡ true → P
open-failed runs records before last undecided is fails =
    let one = fails-last before last fails in
    let none : failures (before ++ last ∷ []) ≡ 0 = subst (λ l. failures l ≡ 0) is undecided.none_failed in
    absurd (omega (arith, one, none))

-- the same runs decide one thing
decides-once : (runs : ℕ) (records : List Record) (one other : Decision) → Decides runs records one → Decides runs records other → one ≡ other
decides-once runs records Passed Passed a b = refl
decides-once runs records Passed GaveUp a b = let enough = a.5 in let few = b.0.not_enough in absurd (omega (arith, enough, few))
decides-once runs records Passed (Failed first (Run run)) a b = passed-failed runs records b.0 first a.5 b.1 b.2 b.4
decides-once runs records Passed (Failed first Stored) a b = absurd b
decides-once runs records GaveUp Passed a b = let enough = b.5 in let few = a.0.not_enough in absurd (omega (arith, enough, few))
decides-once runs records GaveUp GaveUp a b = refl
decides-once runs records GaveUp (Failed first (Run run)) a b = open-failed runs records b.0 first a.0 b.1 b.4
decides-once runs records GaveUp (Failed first Stored) a b = absurd b
decides-once runs records (Failed first (Run run)) Passed a b = passed-failed runs records a.0 first b.5 a.1 a.2 a.4
decides-once runs records (Failed first (Run run)) GaveUp a b = open-failed runs records a.0 first b.0 a.1 a.4
decides-once runs records (Failed first (Run run)) (Failed second (Run at)) a b =
    let same = push-same a.0 b.0 first second (sym a.1 ∙ b.1) in
    let number : run ≡ at = a.5 ∙ ap length same.0 ∙ sym b.5 in
    ap (λ f. Failed f (Run run)) same.1 ∙ ap (λ n. Failed second (Run n)) number
decides-once runs records (Failed first (Run run)) (Failed second Stored) a b = absurd b
decides-once runs records (Failed first Stored) other a b = absurd a

module _ (step : List Choice → Answer → Type 0) (seed : ℕ) where
  -- of two rows of runs the shorter one begins the longer one
  pub runs-first : (from mid to : ℕ) (one other : List Record) → AreRuns step seed from mid one → AreRuns step seed from to other →
      length one ≤ length other → one ≡ take (length one) other
  runs-first from mid to [] other a b within = refl
  runs-first from mid to (rec ∷ one) [] a b within = absurd (omega (arith, within))
  runs-first from mid to (rec ∷ one) (rec2 ∷ other) a b within =
      let head = record-once step (Fresh (supply_of_run seed from)) rec rec2 a.0 b.0 in
      ap (λ r. r ∷ one) head ∙ ap (λ rs. rec2 ∷ rs) (runs-first (from + 1) mid to one other a.1 b.1 (omega (arith, within)))

  -- runs that decide are not fewer than others that decide
  counted-not_fewer : (runs : ℕ) (one other : Decision) (seen seen2 valid valid2 : ℕ) (a : AreCounted step seed runs one seen valid)
      (b : AreCounted step seed runs other seen2 valid2) → length a.records < length b.records → ⊥
  counted-not_fewer runs one other seen seen2 valid valid2 a b fewer =
      let part = runs-first 0 seen seen2 a.records b.records a.made b.made (omega (arith, fewer)) in
      let before = open-before runs b.records other (length a.records) b.decided fewer in
      not-open runs a.records one a.decided (subst (AreOpen runs) (sym part) before.0) before.1

  pub counted-once : (runs : ℕ) (one other : Decision) (seen seen2 valid valid2 : ℕ) → AreCounted step seed runs one seen valid →
      AreCounted step seed runs other seen2 valid2 → (one ≡ other) × (seen ≡ seen2) × (valid ≡ valid2)
  counted-once runs one other seen seen2 valid valid2 a b = elim (cases_lt (length a.records) (length b.records)) [
    | inl fewer ↦ absurd (counted-not_fewer runs one other seen seen2 valid valid2 a b fewer)
    | inr not_fewer ↦ elim (cases_lt (length b.records) (length a.records)) [
      | inl more ↦ absurd (counted-not_fewer runs other one seen2 seen valid2 valid b a more)
      | inr not_more ↦ (
          let same_length : length b.records ≡ length a.records = omega (arith, not_fewer, not_more) in
          let part = runs-first 0 seen2 seen b.records a.records b.made a.made (omega (arith, same_length)) in
          let same : b.records ≡ a.records = part ∙ ap (λ n. take n a.records) same_length ∙ take_all (length a.records) a.records (omega arith) in (
            decides-once runs a.records one other a.decided (subst (λ rs. Decides runs rs other) same b.decided),
            a.all_seen ∙ sym same_length ∙ sym b.all_seen,
            a.all_valid ∙ sym (ap passes same) ∙ sym b.all_valid,
          )
          )
    ]
  ]

-- what is decided where a stored list fails
decided-stored : (step : List Choice → Answer → Type 0) (seed runs : ℕ) (records : List Record) (decision : Decision) (seen valid : ℕ) →
    failures records ≢ 0 → IsDecided step seed runs records decision seen valid →
    (first : Record) × (decision ≡ Failed first Stored) × IsLeastFailure records first × (seen ≡ 0) × (valid ≡ 0)
decided-stored step seed runs records Passed seen valid some is = absurd (some is.0)
decided-stored step seed runs records GaveUp seen valid some is = absurd (some is.0)
decided-stored step seed runs records (Failed first (Run run)) seen valid some is = absurd (some is.0)
decided-stored step seed runs records (Failed first Stored) seen valid some is = (first, refl, is.0, is.1, is.2)

-- what is decided where none does
decided-run : (step : List Choice → Answer → Type 0) (seed runs : ℕ) (records : List Record) (decision : Decision) (seen valid : ℕ) →
    failures records ≡ 0 → IsDecided step seed runs records decision seen valid → AreCounted step seed runs decision seen valid
decided-run step seed runs records Passed seen valid none is = is.1
decided-run step seed runs records GaveUp seen valid none is = is.1
decided-run step seed runs records (Failed first (Run run)) seen valid none is = is.1
decided-run step seed runs records (Failed first Stored) seen valid none is = absurd (none-fails records first none is.0.among is.0.fails)

zero_or_not : (n : ℕ) → (n ≡ 0) ⊎ (n ≢ 0)
zero_or_not zero = inl refl
zero_or_not (suc n) = inr (λ e. omega (arith, e))

decided-once : (step : List Choice → Answer → Type 0) (seed runs : ℕ) (lists : List (List Choice)) (records : List Record) (one other : Decision)
    (seen seen2 valid valid2 : ℕ) → AreRecords step lists records → IsDecided step seed runs records one seen valid →
    IsDecided step seed runs records other seen2 valid2 → (one ≡ other) × (seen ≡ seen2) × (valid ≡ valid2)
decided-once step seed runs lists records one other seen seen2 valid valid2 are a b = elim (zero_or_not (failures records)) [
  | inl none ↦ counted-once step seed runs one other seen seen2 valid valid2 (decided-run step seed runs records one seen valid none a)
      (decided-run step seed runs records other seen2 valid2 none b)
  | inr some ↦ (
      let x = decided-stored step seed runs records one seen valid some a in
      let y = decided-stored step seed runs records other seen2 valid2 some b in
      (x.1 ∙ ap (λ f. Failed f Stored) (least-once step lists records x.0 y.0 are x.2 y.2) ∙ sym y.1, x.3 ∙ sym y.3, x.4 ∙ sym y.4)
      )
]

outcome-of : Decision → List Bool → ℕ → ℕ → Outcome
outcome-of decision failing seen valid = record { decision = decision; failing = failing; seen = seen; valid = valid }

pub outcome-once : (step : List Choice → Answer → Type 0) (seed runs : ℕ) (stored : List (List Choice)) (one other : Outcome) →
    IsOutcome step seed runs stored one → IsOutcome step seed runs stored other → one ≡ other
unfolding outcome-of
outcome-once step seed runs stored one other a b =
    let same = records-once step stored a.records b.records a.replayed b.replayed in
    let flags : one.failing ≡ other.failing = a.flags ∙ ap flags_of same ∙ sym b.flags in
    let parts = decided-once step seed runs stored a.records one.decision other.decision one.seen other.seen one.valid other.valid a.replayed a.decided
    (subst (λ rs. IsDecided step seed runs rs other.decision other.seen other.valid) (sym same) b.decided) in
    ap (λ x. outcome-of x one.failing one.seen one.valid) parts.0 ∙ ap (λ x. outcome-of other.decision x one.seen one.valid) flags
    ∙ ap (λ x. outcome-of other.decision other.failing x one.valid) parts.1 ∙ ap (λ x. outcome-of other.decision other.failing other.seen x) parts.2
