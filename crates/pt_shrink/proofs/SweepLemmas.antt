-- What became of lists, where it is known, and passes of which all lists were tried.
use Rattle.std.proofs.Common.{◌≡◌, ◌<◌, ◌≤◌, ℕ, Bool, Option, Some, Ok, List, [], ◌∷◌, ◌++◌, length, sym, ap, ◌∙◌, refl, arith, subst, inl, inr, get_or, take, lit<, ◌+◌}
use Rattle.std.specs.List.{Contains}
use Rattle.std.proofs.lemmas.List.{append_assoc, take_more, take_all}
use Rattle.std.proofs.lemmas.List.Elements.{Contains-append_right, Contains-append_left, Contains-push, Contains-push_cases}
use Rattle.pt_choice.specs.declared.choice.Choice.{Choice}
use Rattle.pt_case.specs.Step.{Answer}
use Rattle.pt_case.specs.declared.record.Record.{Record}
use Rattle.pt_cand.specs.Walk.{Hands}
use Rattle.pt_cand.specs.Candidates.{candidates_of, IsCandidate}
use Rattle.pt_cand.specs.declared.pass.Pass.{Pass}
use Rattle.pt_cand.specs.declared.pass.Pass.TheVariants.{DeleteSpan, Descend, LowerOne, LowerPair, SwapSiblings, LowerDelete, Shift}
use Rattle.pt_cand.specs.declared.pass.TheConstants.{PASSES}
use Rattle.pt_found.specs.Trail.{lists_of}
use Rattle.pt_shrink.specs.declared.log.Log.{Log}
use Rattle.pt_shrink.specs.declared.attempt.Gain.{Gain}
use Rattle.pt_shrink.specs.declared.attempt.Outcome.{Outcome}
use Rattle.pt_shrink.specs.Outcome.{best_after, best_with, Tells, Lengthens}
use Rattle.pt_shrink.specs.Progress.{Grows, GoesOn}
use Rattle.pt_shrink.specs.Sweep.{AllTried, Sweeps, best_swept}
use Rattle.pt_shrink.specs.declared.sweep.Swept.{Swept}
use Rattle.pt_shrink.specs.declared.sweep.Swept.TheVariants.{Improved, Done, Spent}

pub handed : (old new : List (List Choice)) (answer : Option (List Choice)) (list : List Choice) → answer ≡ Some list → Hands old (Ok answer) new → old ≡ list ∷ new
handed old new answer list is hands = subst (λ a. Hands old (Ok a) new) is hands

pub handed-among : (all done_ old new : List (List Choice)) (list : List Choice) → all ≡ done_ ++ old → old ≡ list ∷ new → Contains all list
handed-among all done_ old new list split first =
    subst (λ lists. Contains lists list) (sym (split ∙ ap (λ rest. done_ ++ rest) first))
    (Contains-append_right done_ (list ∷ new) list (Contains-append_left (list ∷ []) new list (Contains-push [] list)))

pub handed-more : (all done_ old new : List (List Choice)) (list : List Choice) → all ≡ done_ ++ old → old ≡ list ∷ new → all ≡ done_ ++ list ∷ [] ++ new
handed-more all done_ old new list split first = split ∙ ap (λ rest. done_ ++ rest) first ∙ sym (append_assoc done_ (list ∷ []) new)

pub tried-more : (budget : ℕ) (done_ : List (List Choice)) (list : List Choice) (old new : Log) → AllTried (Contains done_) old → Grows budget old new →
    Contains (lists_of new.trail) list → AllTried (Contains (done_ ++ list ∷ [])) new
tried-more budget done_ list old new all grows among other is = elim (Contains-push_cases done_ list other is) [
  | inl before ↦ grows.keeps other (all other before)
  | inr same ↦ subst (λ l. Contains (lists_of new.trail) l) same among
]

-- what is told of an outcome, where it is known
pub told : (budget : ℕ) (list : List Choice) (stranger : Bool) (old new : Log) (outcome known : Outcome) → outcome ≡ known → Tells budget list stranger outcome old new → Tells budget list stranger known old new
told budget list stranger old new outcome known is tells = subst (λ o. Tells budget list stranger o old new) is tells

pub swept : (budget : ℕ) (Wanted : List Choice → Type 0) (old new : Log) (ended known : Swept) → ended ≡ known → Sweeps budget Wanted ended old new → Sweeps budget Wanted known old new
swept budget Wanted old new ended known is sweeps = subst (λ s. Sweeps budget Wanted s old new) is sweeps

pub longer : (old new : Log) (found known : Option Gain) → found ≡ known → Lengthens found old new → Lengthens known old new
longer old new found known is lengthens = subst (λ f. Lengthens f old new) is lengthens

module _ (step : List Choice → Answer → Type 0) (budget : ℕ) (best : Record) (old new : Log) where
  pub on-outcome : (outcome known : Outcome) → outcome ≡ known → GoesOn step budget best old (best_after outcome best) new → GoesOn step budget best old (best_after known best) new
  on-outcome outcome known is on = subst (λ o. GoesOn step budget best old (best_after o best) new) is on

  pub on-found : (found known : Option Gain) → found ≡ known → GoesOn step budget best old (best_with found best) new → GoesOn step budget best old (best_with known best) new
  on-found found known is on = subst (λ f. GoesOn step budget best old (best_with f best) new) is on

  pub on-swept : (ended known : Swept) → ended ≡ known → GoesOn step budget best old (best_swept ended best) new → GoesOn step budget best old (best_swept known best) new
  on-swept ended known is on = subst (λ s. GoesOn step budget best old (best_swept s best) new) is on

-- a pass that ended a sweep
pub sweep-ended : (budget : ℕ) (best : Record) (pass : Pass) (old mid new : Log) (ended : Swept) → (ended ≡ Done → ⊥) → Grows budget old mid →
    Sweeps budget (Contains (candidates_of pass best)) ended mid new → Sweeps budget (IsCandidate best) ended old new
sweep-ended budget best pass old mid new (Improved rec) not_done grows sweeps = let l = grows.longer in omega (arith, l, sweeps)
sweep-ended budget best pass old mid new Done not_done grows sweeps = absurd (not_done refl)
sweep-ended budget best pass old mid new Spent not_done grows sweeps = (sweeps.0, (sweeps.1.0, (pass, sweeps.1.1), sweeps.1.2))

-- one more pass of which all lists were tried
pub passes-more : (budget : ℕ) (best : Record) (passes : List Pass) (i : ℕ) (default : Pass) (old new : Log) → i < length passes →
    ((p : Pass) → Contains (take i passes) p → AllTried (Contains (candidates_of p best)) old) → Grows budget old new → AllTried (Contains (candidates_of (get_or passes i default) best)) new →
    (p : Pass) → Contains (take (i + 1) passes) p → AllTried (Contains (candidates_of p best)) new
passes-more budget best passes i default old new within before grows tried p among list wanted =
    elim (Contains-push_cases (take i passes) (get_or passes i default) p (subst (λ ps. Contains ps p) (take_more passes i default within) among)) [
      | inl earlier ↦ grows.keeps list (before p earlier list wanted)
      | inr same ↦ tried list (subst (λ q. Contains (candidates_of q best) list) (sym same) wanted)
    ]

-- every pass is among them
pub all-passes : (pass : Pass) → Contains PASSES pass
all-passes DeleteSpan = (0, lit< tt, refl)
all-passes Descend = (1, lit< tt, refl)
all-passes LowerOne = (2, lit< tt, refl)
all-passes LowerPair = (3, lit< tt, refl)
all-passes SwapSiblings = (4, lit< tt, refl)
all-passes LowerDelete = (5, lit< tt, refl)
all-passes Shift = (6, lit< tt, refl)

pub passes-all : (best : Record) (passes : List Pass) (i : ℕ) (log : Log) → passes ≡ PASSES → length passes ≤ i →
    ((p : Pass) → Contains (take i passes) p → AllTried (Contains (candidates_of p best)) log) → AllTried (IsCandidate best) log
passes-all best passes i log are past tried list wanted =
    tried wanted.0 (subst (λ ps. Contains ps wanted.0) (sym (take_all i passes past ∙ are)) (all-passes wanted.0)) list wanted.1

pub not_among : {P : Type 0} (pass : Pass) → Contains [] pass → P
not_among pass among = let none : among.0 < 0 = among.1 in absurd (omega (arith, none))

-- what is left of a walk that handed a list out
pub honest-rest : (best : Record) (old new : List (List Choice)) (first : List Choice) → ((list : List Choice) → Contains old list → IsCandidate best list) → old ≡ first ∷ new →
    (list : List Choice) → Contains new list → IsCandidate best list
honest-rest best old new first honest is list among = honest list (subst (λ lists. Contains lists list) (sym is) (Contains-append_right (first ∷ []) new list among))
