-- How the parts of a tuple, one strategy of several, and the levels of a `recursive` are drawn.
use Rattle.std.proofs.Common.{◌≡◌, ℕ, zero, suc, ◌<◌, ◌≤◌, Bool, true, false, List, [], ◌∷◌, ◌++◌, length, drop, get_or, Result, Ok, Err, refl, sym, ap, subst, arith}
use Rattle.std.specs.Prelude.{if◌then◌else◌}
use Rattle.pt_val.specs.declared.val.Val.{Val}
use Rattle.pt_val.specs.declared.val.Val.TheVariants as val
use Rattle.pt_case.specs.declared.stop.Stop.{Stop}
use Rattle.pt_case.specs.State.{State}
use Rattle.pt_ast.specs.declared.binding.Binding.{Binding}
use Rattle.pt_ast.specs.declared.strat.Strat.{Strat}
use Rattle.pt_ast.specs.Trees.{StratTree, StratTrees, more_strat, strats_in}
use Rattle.pt_ast.specs.Plain.{plain_strat, plain_strats}
use Rattle.pt_plan.specs.declared.stop.DrawStop.{DrawStop}
use Rattle.pt_plan.specs.Halt.{case_halt}
use Rattle.pt_plan.specs.Stop.{draw_halt, draw_stop_of}
use Rattle.pt_plan.specs.Plan.{Plan, Rejects, and_then, within}
use Rattle.pt_plan.specs.Asked.{asked_flag}
use Rattle.pt_plan.specs.Came.{Drew}
use Rattle.pt_plan.proofs.DrewLemmas.{Leads, leads-is, leads-call, drew-call, drew-ended}
use Rattle.pt_strat.specs.Parts.{recursive_plan}
use Rattle.pt_strat.specs.Strategy.{plan_of, tuple_plan, member_plan}
use Rattle.pt_strat.proofs.DrawLemmas.{first-stopped, then-rest}

pub drop-all : {A : Type 0} (items : List A) (index : ℕ) → length items ≤ index → drop index items ≡ []
drop-all [] zero all = refl
drop-all [] (suc index) all = refl
drop-all (item ∷ items) zero all = absurd (omega (arith, all))
drop-all (item ∷ items) (suc index) all = drop-all items index (omega (arith, all))

-- no part is left
pub parts-ended : {whole : Plan Val} {old now : State} (parts : List Strat) (self : Plan Val) (env : List Binding) (index : ℕ) (values : List Val) → length parts ≤ index →
    Leads whole old (tuple_plan (plain_strats (drop index parts)) self env values) now → Drew draw_halt whole old now (Ok (val.Tuple values))
parts-ended parts self env index values all way =
    drew-ended (leads-is way (ap (λ rest. tuple_plan (plain_strats rest) self env values) (drop-all parts index all)))

-- one is
module _ {whole : Plan Val} {old now : State} (tree : StratTree) (rest left : StratTrees) (self : Plan Val) (env : List Binding) (values : List Val)
    (one : left ≡ more_strat tree rest) (way : Leads whole old (tuple_plan left self env values) now) where
  at-part : Leads whole old (and_then (plan_of tree self env) (λ value. tuple_plan rest self env (values ++ value ∷ []))) now
  at-part = leads-is way (ap (λ trees. tuple_plan trees self env values) one)

  pub parts-failed : {new : State} {why : DrawStop} → Drew draw_halt (plan_of tree self env) now new (Err why) → Drew draw_halt whole old new (Err why)
  parts-failed drew = drew-call drew (λ value. tuple_plan rest self env (values ++ value ∷ [])) at-part

  pub parts-grown : {new : State} {value : Val} → Drew draw_halt (plan_of tree self env) now new (Ok value) →
      Leads whole old (tuple_plan rest self env (values ++ value ∷ [])) new
  parts-grown drew = leads-call drew (λ value. tuple_plan rest self env (values ++ value ∷ [])) at-part

-- the strategy of a number
pub member-is : (parts : List Strat) (index : ℕ) (part : Strat) (self : Plan Val) (env : List Binding) → index < length parts → part ≡ get_or parts index part →
    member_plan (plain_strats parts) self env index ≡ plan_of (plain_strat part) self env
member-is [] index part self env within is = absurd (omega (arith, within))
member-is (first ∷ others) zero part self env within is = ap (λ s. plan_of (plain_strat s) self env) (sym is)
member-is (first ∷ others) (suc index) part self env within is = member-is others index part self env (omega (arith, within)) is

pub member-none : (parts : List Strat) (index : ℕ) (self : Plan Val) (env : List Binding) → length parts ≤ index → member_plan (plain_strats parts) self env index ≡ Rejects
member-none [] index self env past = refl
member-none (first ∷ others) zero self env past = absurd (omega (arith, past))
member-none (first ∷ others) (suc index) self env past = member-none others index self env (omega (arith, past))

-- there are as many trees as strategies
pub as-many : (parts : List Strat) → length (strats_in (plain_strats parts)) ≡ length parts
as-many [] = refl
as-many (first ∷ others) = ap suc (as-many others)

-- what follows the answer whether a `recursive` goes deeper
abbrev deeper : ℕ → Plan Val → (Plan Val → Plan Val) → ℕ → Bool → Plan Val
deeper label first second more flag = if flag then second (within label (recursive_plan label first second more)) else first

-- the levels of a `recursive`
module _ (label : ℕ) (first : Plan Val) (second : Plan Val → Plan Val) (depth : ℕ) {old new : State} where
  pub levels-end : {result : Result Val DrawStop} → depth ≡ 0 → Drew draw_halt first old new result →
      Drew draw_halt (recursive_plan label first second depth) old new result
  levels-end {result = result} is drew = subst (λ d. Drew draw_halt (recursive_plan label first second d) old new result) (sym is) drew

  pub levels-unasked : {why : Stop} (more : ℕ) → depth ≡ suc more → Drew case_halt (asked_flag 8) old new (Err why) →
      Drew draw_halt (recursive_plan label first second depth) old new (Err (draw_stop_of why))
  levels-unasked {why = why} more is drew = subst (λ d. Drew draw_halt (recursive_plan label first second d) old new (Err (draw_stop_of why))) (sym is)
      (first-stopped (asked_flag 8) (deeper label first second more) drew)

  module _ {mid : State} {flag : Bool} {result : Result Val DrawStop} (more : ℕ) (is : depth ≡ suc more) (asked : Drew case_halt (asked_flag 8) old mid (Ok flag)) where
    pub levels-first : flag ≡ false → Drew draw_halt first mid new result → Drew draw_halt (recursive_plan label first second depth) old new result
    levels-first ends drew = subst (λ d. Drew draw_halt (recursive_plan label first second d) old new result) (sym is)
        (then-rest (asked_flag 8) (deeper label first second more) asked
        (subst (λ f. Drew draw_halt (deeper label first second more f) mid new result) (sym ends) drew))

    pub levels-deeper : flag ≡ true → Drew draw_halt (second (within label (recursive_plan label first second more))) mid new result →
        Drew draw_halt (recursive_plan label first second depth) old new result
    levels-deeper goes drew = subst (λ d. Drew draw_halt (recursive_plan label first second d) old new result) (sym is)
        (then-rest (asked_flag 8) (deeper label first second more) asked
        (subst (λ f. Drew draw_halt (deeper label first second more f) mid new result) (sym goes) drew))
