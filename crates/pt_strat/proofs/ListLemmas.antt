-- How a list is drawn, element by element.
use Rattle.std.proofs.Common.{◌≡◌, ℕ, zero, suc, ◌+◌, ◌<◌, refl, arith, Bool, true, false, Some, None, List, [], ◌∷◌, ◌++◌, length, Ok, Err, ap, subst, sym}
use Rattle.pt_val.specs.declared.val.Val.{Val}
use Rattle.pt_val.specs.declared.val.Val.TheVariants as val
use Rattle.pt_case.specs.State.{State, after_leave}
use Rattle.pt_plan.specs.declared.stop.DrawStop.{DrawStop}
use Rattle.pt_plan.specs.Halt.{case_halt}
use Rattle.pt_plan.specs.Stop.{draw_halt}
use Rattle.pt_plan.specs.Plan.{Plan, Gives, Enters, and_then}
use Rattle.pt_plan.specs.Came.{Drew}
use Rattle.pt_plan.proofs.DrewLemmas.{Leads, leads-new, leads-is, leads-call, drew-call, drew-ended}
use Rattle.pt_strat.specs.Parts.{more_plan, element_if, element_plan, or_listed, elements_plan}
use Rattle.pt_strat.proofs.DrawLemmas.{first-failed, then-rest, then-gives, inside-failed, inside-drawn}

-- one more element in its part
module _ (label : ℕ) (element : Plan Val) (least count : ℕ) {old mid : State} (entered : Drew {A = Unit {0}} case_halt (Enters label (Gives tt)) old mid (Ok tt)) where
  -- where it is not known whether there is one
  pub element-unasked : {new : State} {why : DrawStop} → Drew draw_halt (more_plan least count) mid new (Err why) →
      Drew draw_halt (element_plan label element least count) old new (Err why)
  element-unasked drew = inside-failed (and_then (more_plan least count) (element_if element)) entered (first-failed (more_plan least count) (element_if element) drew)

  module _ {after : State} {more : Bool} (asked : Drew draw_halt (more_plan least count) mid after (Ok more)) where
    -- where there is none
    pub element-none : {new : State} → more ≡ false → new ≡ after_leave after → Drew draw_halt (element_plan label element least count) old new (Ok None)
    element-none is left = inside-drawn (and_then (more_plan least count) (element_if element)) entered
        (then-rest (more_plan least count) (element_if element) asked
        (subst (λ m. Drew draw_halt (element_if element m) after after (Ok None)) (sym is) (drew-ended (leads-new (Gives None) after)))) left

    -- where there is one
    pub element-failed : {new : State} {why : DrawStop} → more ≡ true → Drew draw_halt element after new (Err why) →
        Drew draw_halt (element_plan label element least count) old new (Err why)
    element-failed {new = new} {why = why} is drew = inside-failed (and_then (more_plan least count) (element_if element)) entered
        (then-rest (more_plan least count) (element_if element) asked
        (subst (λ m. Drew draw_halt (element_if element m) after new (Err why)) (sym is) (first-failed element (λ value. Gives (Some value)) drew)))

    pub element-drawn : {late new : State} {value : Val} → more ≡ true → Drew draw_halt element after late (Ok value) → new ≡ after_leave late →
        Drew draw_halt (element_plan label element least count) old new (Ok (Some value))
    element-drawn {late = late} {value = value} is drew left = inside-drawn (and_then (more_plan least count) (element_if element)) entered
        (then-rest (more_plan least count) (element_if element) asked
        (subst (λ m. Drew draw_halt (element_if element m) after late (Ok (Some value))) (sym is) (then-gives element (λ value. Some value) drew))) left

-- where there is no room for a further one
pub elements-full : {whole : Plan Val} {old now : State} (label : ℕ) (element : Plan Val) (least room : ℕ) (values : List Val) → room ≡ 0 →
    Leads whole old (elements_plan label element least room values) now → Drew draw_halt whole old now (Ok (val.List values))
elements-full label element least room values none way = drew-ended (leads-is way (ap (λ count. elements_plan label element least count values) none))

-- where there is room for one
module _ {whole : Plan Val} {old now : State} (label : ℕ) (element : Plan Val) (least room more count : ℕ) (values : List Val) (one : room ≡ suc more)
    (is_count : count ≡ length values) (way : Leads whole old (elements_plan label element least room values) now) where
  at-element : Leads whole old (and_then (element_plan label element least count)
      (or_listed values (λ value. elements_plan label element least more (values ++ value ∷ [])))) now
  at-element = rw is_count (leads-is way (ap (λ count. elements_plan label element least count values) one))

  -- and the draw of it gave no value, gave none, and gave one
  pub elements-failed : {new : State} {why : DrawStop} → Drew draw_halt (element_plan label element least count) now new (Err why) → Drew draw_halt whole old new (Err why)
  elements-failed drew = drew-call drew (or_listed values (λ value. elements_plan label element least more (values ++ value ∷ []))) at-element

  pub elements-ended : {new : State} → Drew draw_halt (element_plan label element least count) now new (Ok None) → Drew draw_halt whole old new (Ok (val.List values))
  elements-ended drew = drew-ended (leads-call drew (or_listed values (λ value. elements_plan label element least more (values ++ value ∷ []))) at-element)

  pub elements-grown : {new : State} (value : Val) → Drew draw_halt (element_plan label element least count) now new (Ok (Some value)) →
      Leads whole old (elements_plan label element least more (values ++ value ∷ [])) new
  elements-grown value drew = leads-call drew (or_listed values (λ value. elements_plan label element least more (values ++ value ∷ []))) at-element

-- where there are fewer than the most, there is room for one more
pub one-left : (room made most : ℕ) → room + made ≡ most → made < most → (more : ℕ) × (room ≡ suc more)
one-left zero made most all few = absurd (omega (arith, all, few))
one-left (suc more) made most all few = (more, refl)
