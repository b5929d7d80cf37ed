-- What comes of the plan of one of some items.
use Rattle.std.proofs.Common.{◌≡◌, ℕ, zero, suc, ℤ, pos, ◌-◌, Some, List, [], ◌∷◌, length, map, Ok, sym, ◌∙◌, ap}
use Rattle.std.specs.Prelude.{slice_get}
use Rattle.std.proofs.lemmas.List.{length-map}
use Rattle.pt_val.specs.declared.val.Val.{Val}
use Rattle.pt_case.specs.State.{State, after_leave}
use Rattle.pt_plan.specs.Asked.{asked_integer}
use Rattle.pt_plan.specs.Halt.{case_halt}
use Rattle.pt_plan.specs.Plan.{Gives, Enters, Leaves, and_then}
use Rattle.pt_plan.specs.Came.{Drew}
use Rattle.pt_plan.proofs.DrewLemmas.{leads-is, leads-left, drew-ended}
use Rattle.pt_typed.specs.Fail.{fail_halt}
use Rattle.pt_typed.specs.Plans.{count_of, given, sampled_plan}
use Rattle.pt_typed.proofs.DrawLemmas.{span-second}

-- an item as it is shown
shown-at : {T : Type 0} (shown : T → Val) (items : List T) (number : ℕ) (item : T) → slice_get items number ≡ Some item →
    slice_get (map shown items) number ≡ Some (shown item)
shown-at shown [] number item is = cc
shown-at shown (first ∷ rest) zero item is = let same : first ≡ item = cc in ap (λ i. Some (shown i)) same
shown-at shown (first ∷ rest) (suc number) item is = shown-at shown rest number item is

-- the item that was chosen, or a copy that is shown the same
pub sampled-drawn : {T : Type 0} (shown : T → Val) (items : List T) {old mid late new : State} {last number : ℤ} {value : Val} (count : ℕ) (item : T) →
    Drew {A = Unit {0}} case_halt (Enters 5 (Gives tt)) old mid (Ok tt) → Drew case_halt (asked_integer (pos 0) last) mid late (Ok number) →
    last ≡ pos (count - 1) → count ≡ length items → new ≡ after_leave late → slice_get items (count_of number) ≡ Some item → value ≡ shown item →
    Drew fail_halt (sampled_plan (map shown items)) old new (Ok value)
sampled-drawn shown items {number = number} count item entered drew is_last is_count left at same =
    let all : count ≡ length (map shown items) = is_count ∙ sym (length-map items shown) in
    let chosen : slice_get (map shown items) (count_of number) ≡ Some (shown item) = shown-at shown items (count_of number) item at in
    let way = span-second (asked_integer (pos 0) (pos (length (map shown items) - 1))) (λ number. given (slice_get (map shown items) (count_of number))) entered
    (rw (is_last, all) at drew) in
    rw same (drew-ended (leads-left left (leads-is way (ap (λ found. and_then (given found) (λ last. Leaves (Gives last))) chosen))))
