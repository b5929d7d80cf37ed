-- What is left of the plan of a list's elements.
use Rattle.std.proofs.Common.{◌≡◌, ℕ, suc, Some, None, List, [], ◌∷◌, ◌++◌, length, Ok, Err, ap}
use Rattle.pt_val.specs.declared.val.Val.{Val}
use Rattle.pt_val.specs.declared.val.Val.TheVariants as val
use Rattle.pt_case.specs.State.{State}
use Rattle.pt_plan.specs.Plan.{Plan, and_then}
use Rattle.pt_plan.specs.Came.{Drew}
use Rattle.pt_plan.proofs.DrewLemmas.{Leads, leads-is, leads-call, drew-call, drew-ended}
use Rattle.pt_typed.specs.declared.fail.DrawFail.{DrawFail}
use Rattle.pt_typed.specs.Fail.{fail_halt}
use Rattle.pt_typed.specs.Plans.{element_plan, or_listed, elements_plan}

-- where there is no room for a further one
pub elements-full : {whole : Plan Val} {old now : State} (element : Plan Val) (least room : ℕ) (values : List Val) → room ≡ 0 →
    Leads whole old (elements_plan element least room values) now → Drew fail_halt whole old now (Ok (val.List values))
elements-full element least room values none way = drew-ended (leads-is way (ap (λ count. elements_plan element least count values) none))

-- where there is room for one
module _ {whole : Plan Val} {old now : State} (element : Plan Val) (least room more count : ℕ) (values : List Val) (one : room ≡ suc more)
    (is_count : count ≡ length values) (way : Leads whole old (elements_plan element least room values) now) where
  at-element : Leads whole old (and_then (element_plan element least count) (or_listed values (λ value. elements_plan element least more (values ++ value ∷ [])))) now
  at-element = rw is_count (leads-is way (ap (λ count. elements_plan element least count values) one))

  -- and the draw of it gave no value, gave none, and gave one
  pub elements-failed : {new : State} {why : DrawFail} → Drew fail_halt (element_plan element least count) now new (Err why) → Drew fail_halt whole old new (Err why)
  elements-failed drew = drew-call drew (or_listed values (λ value. elements_plan element least more (values ++ value ∷ []))) at-element

  pub elements-ended : {new : State} → Drew fail_halt (element_plan element least count) now new (Ok None) → Drew fail_halt whole old new (Ok (val.List values))
  elements-ended drew = drew-ended (leads-call drew (or_listed values (λ value. elements_plan element least more (values ++ value ∷ []))) at-element)

  pub elements-grown : {new : State} (value : Val) → Drew fail_halt (element_plan element least count) now new (Ok (Some value)) →
      Leads whole old (elements_plan element least more (values ++ value ∷ [])) new
  elements-grown value drew = leads-call drew (or_listed values (λ value. elements_plan element least more (values ++ value ∷ []))) at-element
