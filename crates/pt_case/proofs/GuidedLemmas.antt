-- A guided run keeps the kinds of its questions.
use Rattle.std.proofs.Common.{◌≡◌, ◌+◌, ◌<◌, ◌≤◌, List, [], ◌∷◌, ◌++◌, length, take, refl, sym, ◌∙◌, ap, subst, arith, length-append, append_assoc}
use Rattle.std.proofs.lemmas.List.{take_all, take_at}
use Rattle.pt_choice.specs.declared.choice.Choice.{Choice}
use Rattle.pt_choice.specs.declared.kind.Shape.{Shape}
use Rattle.pt_rng.specs.Supplied.{Supplied, made}
use Rattle.pt_case.specs.Source.{Source, Guided, AnswersAll, kept_kinds}
use Rattle.pt_case.specs.Step.{Answer, IsAsked}
use Rattle.pt_case.specs.Run.{IsFollowed, Ran}
use Rattle.pt_case.specs.State.{State, new_state}
use Rattle.pt_case.specs.declared.ending.Ending.{Ending}

append_nil : (xs : List Shape) → xs ++ [] ≡ xs
append_nil [] = refl
append_nil (x ∷ xs) = ap (λ ys. x ∷ ys) (append_nil xs)

-- there is room for one more
pub kept-more : (asked : List Shape) (kind : Shape) → length asked < 256 → take 256 (asked ++ kind ∷ []) ≡ asked ++ kind ∷ []
kept-more asked kind few = take_all 256 (asked ++ kind ∷ []) (omega (arith, few, length-append asked (kind ∷ [])))

-- there is none
pub kept-full : (asked : List Shape) (kind : Shape) → length asked ≤ 256 → 256 ≤ length asked → take 256 (asked ++ kind ∷ []) ≡ asked
kept-full asked kind few full = take_at asked (kind ∷ []) 256 (omega (arith, few, full))

-- what is kept is what was kept before, and then the kinds of all these questions
pub kept_kinds-all : (rest : List Choice) (supply : Supplied) (asked kinds : List Shape) (path : List Choice) (left : Source) →
    AnswersAll (Guided rest supply asked) kinds path left → length asked + length kinds ≤ 256 → kept_kinds left ≡ asked ++ kinds
kept_kinds-all rest supply asked [] [] left all few = ap kept_kinds all ∙ sym (append_nil asked)
kept_kinds-all rest supply asked [] (choice ∷ path) left all few = absurd all
kept_kinds-all rest supply asked (kind ∷ kinds) [] left all few = absurd all
kept_kinds-all [] supply asked (kind ∷ kinds) (choice ∷ path) left all few =
    let more = kept-more asked kind (omega (arith, few)) in
    let all' : AnswersAll (Guided [] (made supply kind).1 (asked ++ kind ∷ [])) kinds path left =
    subst (λ ks. AnswersAll (Guided [] (made supply kind).1 ks) kinds path left) more all.1 in
    kept_kinds-all [] (made supply kind).1 (asked ++ kind ∷ []) kinds path left all' (omega (arith, few, length-append asked (kind ∷ [])))
    ∙ append_assoc asked (kind ∷ []) kinds
kept_kinds-all (given ∷ rest) supply asked (kind ∷ kinds) (choice ∷ path) left all few =
    let more = kept-more asked kind (omega (arith, few)) in
    let all' : AnswersAll (Guided rest supply (asked ++ kind ∷ [])) kinds path left =
    subst (λ ks. AnswersAll (Guided rest supply ks) kinds path left) more all.1 in
    kept_kinds-all rest supply (asked ++ kind ∷ []) kinds path left all' (omega (arith, few, length-append asked (kind ∷ [])))
    ∙ append_assoc asked (kind ∷ []) kinds

-- so after each of its choices the check asked for the kind that is kept
pub kept_kinds-asked : (step : List Choice → Answer → Type 0) (list : List Choice) (supply : Supplied) (path : List Choice) (left : Source)
    (answer : Answer) → IsFollowed step (Guided list supply []) path left answer → IsAsked step path (kept_kinds left)
kept_kinds-asked step list supply path left answer was =
    let same = kept_kinds-all list supply [] was.kinds path left was.answered (omega (arith, was.asked.as_many, was.asked.short)) in
    subst (λ kinds. IsAsked step path kinds) (sym same) was.asked

-- so a guided case knows the kinds of its run
pub ran-asked : (step : List Choice → Answer → Type 0) (list : List Choice) (supply : Supplied) (old new : State) (ending : Ending) →
    Ran step old new ending → old ≡ new_state (Guided list supply []) → IsAsked step new.choices (kept_kinds new.left)
ran-asked step list supply old new ending ran is =
    let followed : IsFollowed step (Guided list supply []) new.choices new.left ran.answer =
    subst (λ source. IsFollowed step source new.choices new.left ran.answer) (ap (λ s. s.left) is) ran.followed in
    kept_kinds-asked step list supply new.choices new.left ran.answer followed
