-- A strategy leaves its own spans and no others, and notes nothing.
use Rattle.std.proofs.Common.{ℕ, zero, suc, Bool, true, false, Option, Some, None, Result, Ok, Err, List, [], ◌∷◌, ◌++◌, length, refl}
use Rattle.std.specs.Prelude.{nat_lt, slice_get, if◌then◌else◌}
use Rattle.pt_val.specs.declared.place.Place.{Place}
use Rattle.pt_val.specs.declared.val.Val.{Val}
use Rattle.pt_val.specs.declared.val.Val.TheVariants as val
use Rattle.pt_choice.specs.declared.kind.Shape.TheVariants as kind
use Rattle.pt_case.specs.declared.ending.What.TheVariants as what
use Rattle.pt_case.specs.declared.ending.Origin.{Origin}
use Rattle.pt_case.specs.declared.ending.Origin.TheVariants.{Suite}
use Rattle.pt_ast.specs.declared.binding.Binding.{Binding}
use Rattle.pt_ast.specs.Trees.{StratTree, Ints_of, Bools_of, Texts_of, Blobs_of, Sampled_of, Lists_of, Tuples_of, OneOf_of, Map_of, Filter_of, FlatMap_of, Recursive_of, Self_of, StratTrees, no_strat, more_strat, strats_in, num_of}
use Rattle.pt_eval.specs.Env.{bound}
use Rattle.pt_eval.specs.Parts.{truth_of, members_of}
use Rattle.pt_eval.specs.Value.{evaluated}
use Rattle.pt_plan.specs.Plan.{Plan, Gives, Rejects, Faults, Asks, and_then, within}
use Rattle.pt_plan.specs.Asked.{asked_flag}
use Rattle.pt_plan.specs.Every.{IsBalanced, NotesNothing}
use Rattle.pt_plan.proofs.EveryLemmas.{silent-then, silent-within, balanced-and_then, balanced-within}
use Rattle.pt_strat.specs.Labels.{node_label, part_label}
use Rattle.pt_strat.specs.Bounds.{range_of, lengths_of}
use Rattle.pt_strat.specs.Parts.{by_value, given, integer_plan, places_in, chars_at, are_some, text_plan, blob_plan, place_plan, item_plan, sample_plan, more_plan, element_if, element_plan, or_listed, elements_plan, list_plan, try_plan, or_again, tries_plan, recursive_plan}
use Rattle.pt_strat.specs.Strategy.{is_self, in_span, inner_plan, tuple_plan, member_plan, plan_of}
use Rattle.pt_strat.specs.declared.bounds.Lengths.{Lengths}
use Rattle.pt_strat.specs.Laws.{LeavesItsSpans, StaysSilent}

-- it leaves its own spans and no others, and notes nothing
pub record IsQuiet {A : Type 0} (plan : Plan A) : Type 0 where
  pub balanced : IsBalanced plan
  pub silent : NotesNothing plan

quiet-gives : {A : Type 0} (value : A) → IsQuiet (Gives value)
quiet-gives value = record { balanced = refl; silent = tt }

quiet-rejects : {A : Type 0} → IsQuiet {A = A} Rejects
quiet-rejects = record { balanced = tt; silent = tt }

quiet-faults : {A : Type 0} (origin : Origin) → IsQuiet {A = A} (Faults origin)
quiet-faults origin = record { balanced = tt; silent = tt }

quiet-then : {A B : Type 0} (plan : Plan A) (next : A → Plan B) → IsQuiet plan → ((value : A) → IsQuiet (next value)) → IsQuiet (and_then plan next)
quiet-then plan next is later = record {
  balanced = balanced-and_then plan next is.balanced (λ value. (later value).balanced);
  silent = silent-then plan next is.silent (λ value. (later value).silent);
}

quiet-within : {A : Type 0} (label : ℕ) (plan : Plan A) → IsQuiet plan → IsQuiet (within label plan)
quiet-within label plan is = record { balanced = balanced-within label plan is.balanced; silent = silent-within label plan is.silent }

quiet-if : {A : Type 0} (test : Bool) (first other : Plan A) → IsQuiet first → IsQuiet other → IsQuiet (if test then first else other)
quiet-if true first other is is_other = is
quiet-if false first other is is_other = is_other

quiet-by-value : {A B : Type 0} (found : Result A Origin) (next : A → Plan B) → ((value : A) → IsQuiet (next value)) → IsQuiet (by_value found next)
quiet-by-value (Ok value) next each = each value
quiet-by-value (Err origin) next each = quiet-faults origin

quiet-given : {A : Type 0} (found : Option A) → IsQuiet (given found)
quiet-given (Some value) = quiet-gives value
quiet-given None = quiet-rejects

-- a question and what is made of its answer
quiet-flag : (chance : ℕ) → IsQuiet (asked_flag chance)
quiet-flag chance = record { balanced = λ answer admitted. refl; silent = λ answer admitted. tt }

quiet-place : (count : ℕ) → IsQuiet (place_plan count)
quiet-place count = record { balanced = λ answer admitted. refl; silent = λ answer admitted. tt }

quiet-text : (at : Place) (alphabet : List ℕ) (lengths : Lengths) → IsQuiet (text_plan at alphabet lengths)
quiet-text at alphabet lengths = quiet-if (are_some alphabet)
    (Asks (kind.Text lengths.least lengths.most (length alphabet)) (λ answer. Gives (val.Text (chars_at alphabet (places_in answer)))))
    (Faults (Suite what.Bounds at)) (record { balanced = λ answer admitted. refl; silent = λ answer admitted. tt }) (quiet-faults (Suite what.Bounds at))

pub quiet-item : (items : List Val) → IsQuiet (item_plan items)
quiet-item items =
    quiet-then (place_plan (length items)) (λ place. given (slice_get items place)) (quiet-place (length items)) (λ place. quiet-given (slice_get items place))

quiet-sample : (at : Place) (items : List Val) → IsQuiet (sample_plan at items)
quiet-sample at items = quiet-if (are_some items) (item_plan items) (Faults (Suite what.Bounds at)) (quiet-item items) (quiet-faults (Suite what.Bounds at))

quiet-element : (label : ℕ) (element : Plan Val) (least count : ℕ) → IsQuiet element → IsQuiet (element_plan label element least count)
quiet-element label element least count is = quiet-within label (and_then (more_plan least count) (element_if element))
    (quiet-then (more_plan least count) (element_if element) (quiet-if (nat_lt count least) (Gives true) (asked_flag 12) (quiet-gives true) (quiet-flag 12))
    (λ more. quiet-if more (and_then element (λ value. Gives (Some value))) (Gives None)
    (quiet-then element (λ value. Gives (Some value)) is (λ value. quiet-gives (Some value))) (quiet-gives None)))

quiet-elements : (label : ℕ) (element : Plan Val) (least room : ℕ) (values : List Val) → IsQuiet element → IsQuiet (elements_plan label element least room values)
quiet-elements label element least zero values is = quiet-gives (val.List values)
quiet-elements label element least (suc room) values is =
    quiet-then (element_plan label element least (length values)) (or_listed values (λ value. elements_plan label element least room (values ++ value ∷ [])))
    (quiet-element label element least (length values) is) (next (λ value. quiet-elements label element least room (values ++ value ∷ []) is))
  where
    next : ((value : Val) → IsQuiet (elements_plan label element least room (values ++ value ∷ []))) → (found : Option Val) →
        IsQuiet (or_listed values (λ value. elements_plan label element least room (values ++ value ∷ [])) found)
    next later (Some value) = later value
    next later None = quiet-gives (val.List values)

quiet-tries : (attempt : Plan (Option Val)) (tries : ℕ) → IsQuiet attempt → IsQuiet (tries_plan attempt tries)
quiet-tries attempt zero is = quiet-rejects
quiet-tries attempt (suc tries) is = quiet-then attempt (or_again (tries_plan attempt tries)) is (next (quiet-tries attempt tries is))
  where
    next : IsQuiet (tries_plan attempt tries) → (found : Option Val) → IsQuiet (or_again (tries_plan attempt tries) found)
    next rest (Some value) = quiet-gives value
    next rest None = rest

quiet-levels : (label : ℕ) (first : Plan Val) (second : Plan Val → Plan Val) (depth : ℕ) → IsQuiet first → ((again : Plan Val) → IsQuiet again → IsQuiet (second again)) →
    IsQuiet (recursive_plan label first second depth)
quiet-levels label first second zero is more = is
quiet-levels label first second (suc depth) is more =
    let again = within label (recursive_plan label first second depth) in
    quiet-then (asked_flag 8) (λ deeper. if deeper then second again else first) (quiet-flag 8) (λ deeper. quiet-if deeper (second again) first
    (more again (quiet-within label (recursive_plan label first second depth) (quiet-levels label first second depth is more))) is)

quiet-in-span : (tree : StratTree) (plan : Plan Val) → IsQuiet plan → IsQuiet (in_span tree plan)
quiet-in-span tree plan is = quiet-if (is_self tree) plan (within (node_label (num_of tree)) plan) is (quiet-within (node_label (num_of tree)) plan is)

mutual
  quiet-inner : (tree : StratTree) (self : Plan Val) (env : List Binding) → IsQuiet self → IsQuiet (inner_plan tree self env)
  quiet-inner (Ints_of at num lo hi) self env is = quiet-by-value (range_of at lo hi env) integer_plan
      (λ range. record { balanced = λ answer admitted. refl; silent = λ answer admitted. tt })
  quiet-inner (Bools_of at num) self env is = record { balanced = λ answer admitted. refl; silent = λ answer admitted. tt }
  quiet-inner (Texts_of at num alphabet lo hi) self env is =
      quiet-by-value (lengths_of at 64 lo hi env) (text_plan at alphabet.chars) (quiet-text at alphabet.chars)
  quiet-inner (Blobs_of at num lo hi) self env is = quiet-by-value (lengths_of at 64 lo hi env) blob_plan
      (λ lengths. record { balanced = λ answer admitted. refl; silent = λ answer admitted. tt })
  quiet-inner (Sampled_of at num list) self env is =
      quiet-by-value (evaluated list env) (λ items. sample_plan at (members_of items)) (λ items. quiet-sample at (members_of items))
  quiet-inner (Lists_of at num element lo hi) self env is =
      let inner = in_span element (inner_plan element self env) in
      quiet-by-value (lengths_of at 256 lo hi env) (list_plan (part_label num) inner) (λ lengths.
      quiet-elements (part_label num) inner lengths.least lengths.most [] (quiet-in-span element (inner_plan element self env) (quiet-inner element self env is)))
  quiet-inner (Tuples_of at num parts) self env is = quiet-parts parts self env [] is
  quiet-inner (OneOf_of at num parts) self env is =
      quiet-then (place_plan (length (strats_in parts))) (member_plan parts self env) (quiet-place (length (strats_in parts))) (λ number. quiet-member parts self env number is)
  quiet-inner (Map_of at num given inner body) self env is =
      let made : Val → Plan Val = λ value. by_value (evaluated body (env ++ bound given.name value ∷ [])) (λ made. Gives made) in
      quiet-then (in_span inner (inner_plan inner self env)) made (quiet-in-span inner (inner_plan inner self env) (quiet-inner inner self env is))
      (λ value. quiet-by-value (evaluated body (env ++ bound given.name value ∷ [])) (λ made. Gives made) quiet-gives)
  quiet-inner (Filter_of at num given inner cond) self env is =
      let condition : Val → Result Val Origin = λ value. evaluated cond (env ++ bound given.name value ∷ []) in
      let drawn = in_span inner (inner_plan inner self env) in
      let next : Val → Plan (Option Val) = λ value. by_value (condition value) (λ truth. Gives (if truth_of truth then Some value else None)) in
      quiet-tries (try_plan (part_label num) drawn condition) 3
      (quiet-within (part_label num) (and_then drawn next) (quiet-then drawn next (quiet-in-span inner (inner_plan inner self env) (quiet-inner inner self env is))
      (λ value. quiet-by-value (condition value) (λ truth. Gives (if truth_of truth then Some value else None)) (λ truth. quiet-gives (if truth_of truth then Some value else None)))))
  quiet-inner (FlatMap_of at num given inner second) self env is =
      let next : Val → Plan Val = λ value. in_span second (inner_plan second self (env ++ bound given.name value ∷ [])) in
      quiet-then (in_span inner (inner_plan inner self env)) next (quiet-in-span inner (inner_plan inner self env) (quiet-inner inner self env is))
      (λ value. quiet-in-span second (inner_plan second self (env ++ bound given.name value ∷ [])) (quiet-inner second self (env ++ bound given.name value ∷ []) is))
  quiet-inner (Recursive_of at num depth first second) self env is =
      quiet-levels (node_label num) (in_span first (inner_plan first self env)) (λ again. in_span second (inner_plan second again env)) depth
      (quiet-in-span first (inner_plan first self env) (quiet-inner first self env is))
      (λ again again_is. quiet-in-span second (inner_plan second again env) (quiet-inner second again env again_is))
  quiet-inner (Self_of at num) self env is = is

  quiet-parts : (parts : StratTrees) (self : Plan Val) (env : List Binding) (values : List Val) → IsQuiet self → IsQuiet (tuple_plan parts self env values)
  quiet-parts no_strat self env values is = quiet-gives (val.Tuple values)
  quiet-parts (more_strat first others) self env values is =
      let next : Val → Plan Val = λ value. tuple_plan others self env (values ++ value ∷ []) in
      quiet-then (in_span first (inner_plan first self env)) next (quiet-in-span first (inner_plan first self env) (quiet-inner first self env is))
      (λ value. quiet-parts others self env (values ++ value ∷ []) is)

  quiet-member : (parts : StratTrees) (self : Plan Val) (env : List Binding) (number : ℕ) → IsQuiet self → IsQuiet (member_plan parts self env number)
  quiet-member no_strat self env number is = quiet-rejects
  quiet-member (more_strat first others) self env zero is = quiet-in-span first (inner_plan first self env) (quiet-inner first self env is)
  quiet-member (more_strat first others) self env (suc number) is = quiet-member others self env number is

pub quiet : (tree : StratTree) (env : List Binding) → IsQuiet (plan_of tree Rejects env)
quiet tree env = quiet-in-span tree (inner_plan tree Rejects env) (quiet-inner tree Rejects env quiet-rejects)

pub leaves-its-spans : LeavesItsSpans
leaves-its-spans tree env = (quiet tree env).balanced

pub stays-silent : StaysSilent
stays-silent tree env = (quiet tree env).silent
