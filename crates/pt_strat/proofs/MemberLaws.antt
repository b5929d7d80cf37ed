-- What a strategy derives is in its set.
use Rattle.std.proofs.Common.{◌≡◌, ◌≤◌, ◌<◌, ◌≤ℤ◌, ℕ, ℤ, zero, suc, ◌+◌, ◌+ℤ◌, ◌-ℤ◌, Bool, true, false, Option, Some, None, Result, Ok, Err, List, [], ◌∷◌, ◌++◌, length, inl, inr, refl, sym, ap, subst, arith, length-append, append-nil, append_assoc}
use Rattle.std.specs.Prelude.{◌&&◌, nat_lt, nat_le, slice_get, slice_index, slice_index_or, if◌then◌else◌}
use Rattle.std.specs.List.{All, Contains, list_all}
use Rattle.std.proofs.lemmas.Grind.{common_steps}
use Rattle.std.proofs.lemmas.Bool.Decides.{nat_tests}
use Rattle.std.proofs.lemmas.List.Elements.{All-nil, All-cons, All-push}
use Rattle.pt_choice.specs.Kind.{admits}
use Rattle.pt_choice.specs.declared.choice.Choice.{Choice}
use Rattle.pt_choice.specs.declared.choice.Choice.TheVariants as choice
use Rattle.pt_choice.specs.declared.kind.Shape.TheVariants as kind
use Rattle.pt_val.specs.declared.place.Place.{Place}
use Rattle.pt_val.specs.declared.val.Val.{Val}
use Rattle.pt_val.specs.declared.val.Val.TheVariants as val
use Rattle.pt_case.specs.declared.ending.What.TheVariants as what
use Rattle.pt_case.specs.declared.ending.Origin.{Origin}
use Rattle.pt_case.specs.declared.ending.Origin.TheVariants.{Suite}
use Rattle.pt_ast.specs.declared.binding.Binding.{Binding}
use Rattle.pt_ast.specs.Trees.{StratTree, Ints_of, Bools_of, Texts_of, Blobs_of, Sampled_of, Lists_of, Tuples_of, OneOf_of, Map_of, Filter_of, FlatMap_of, Recursive_of, Self_of, StratTrees, no_strat, more_strat, num_of}
use Rattle.pt_eval.specs.Env.{bound}
use Rattle.pt_eval.specs.Parts.{truth_of, members_of}
use Rattle.pt_eval.specs.Value.{evaluated}
use Rattle.pt_plan.specs.Plan.{Plan, Gives, Rejects, Faults, Asks, Leaves, and_then, within}
use Rattle.pt_plan.specs.Asked.{flag_in, integer_in, asked_flag, asked_integer}
use Rattle.pt_plan.specs.Every.{GivesOnly}
use Rattle.pt_plan.proofs.EveryLemmas.{gives-then, gives-wider, gives-derives, integer-within}
use Rattle.pt_strat.specs.declared.bounds.Range.{Range}
use Rattle.pt_strat.specs.declared.bounds.Lengths.{Lengths}
use Rattle.pt_strat.specs.Labels.{node_label, part_label}
use Rattle.pt_strat.specs.Bounds.{count_of, range_of, lengths_of}
use Rattle.pt_strat.specs.Parts.{by_value, given, nearest, integer_plan, places_in, bytes_in, chars_at, are_some, text_plan, blob_plan, item_plan, sample_plan, more_plan, element_if, element_plan, or_listed, elements_plan, list_plan, try_plan, or_again, tries_plan, recursive_plan}
use Rattle.pt_strat.specs.Strategy.{is_self, in_span, inner_plan, tuple_plan, member_plan, plan_of}
use Rattle.pt_strat.specs.Member.{IsWithin, IsIn, AreIn, IsInOne, IsOneOf}
use Rattle.pt_strat.specs.Laws.{DerivedIsInSet}
use Rattle.pt_strat.proofs.BoundsLaws.{between-range, between-lengths, lengths-ordered}

gives-by-value : {A B : Type 0} (Is : B → Type 0) (found : Result A Origin) (next : A → Plan B) →
    ((value : A) → found ≡ Ok value → GivesOnly Is (next value)) → GivesOnly Is (by_value found next)
gives-by-value Is (Ok value) next each = each value refl
gives-by-value Is (Err origin) next each = tt

gives-within : {A : Type 0} (Is : A → Type 0) (label : ℕ) (plan : Plan A) → GivesOnly Is plan → GivesOnly Is (within label plan)
gives-within Is label plan only = gives-then Is Is plan (λ value. Leaves (Gives value)) only (λ value is. is)

gives-in-span : (Is : Val → Type 0) (tree : StratTree) (plan : Plan Val) → GivesOnly Is plan → GivesOnly Is (in_span tree plan)
gives-in-span Is tree plan only = at (is_self tree)
  where
    at : (again : Bool) → GivesOnly Is (if again then plan else within (node_label (num_of tree)) plan)
    at true = only
    at false = gives-within Is (node_label (num_of tree)) plan only

-- a distance from the target that is within its bounds
between : (lo hi target distance : ℤ) → (lo -ℤ target) ≤ℤ distance → distance ≤ℤ (hi -ℤ target) →
    (lo ≤ℤ (target +ℤ distance)) × ((target +ℤ distance) ≤ℤ hi)
between lo hi target distance low high = (grind (arith, common_steps), grind (arith, common_steps))

-- the integers between two bounds
abbrev IsFrom : Range → Val → Type 0
IsFrom range value = (number : ℤ) × (value ≡ val.Int number) × (range.lo ≤ℤ number) × (number ≤ℤ range.hi)

integers : (range : Range) → GivesOnly (IsFrom range) (integer_plan range)
integers range =
    let target = nearest range.lo range.hi in
    let shifted : ℤ → Plan Val = λ distance. Gives (val.Int (target +ℤ distance)) in
    gives-then (λ number. ((range.lo -ℤ target) ≤ℤ number) × (number ≤ℤ (range.hi -ℤ target))) (IsFrom range)
    (asked_integer (range.lo -ℤ target) (range.hi -ℤ target)) shifted (integer-within (range.lo -ℤ target) (range.hi -ℤ target))
    (λ distance is. let inside = between range.lo range.hi target distance is.0 is.1 in (target +ℤ distance, refl, inside.0, inside.1))

-- the characters at places of the alphabet are in it
chars-in : (alphabet places : List ℕ) → list_all (λ place. nat_lt place (length alphabet)) places ≡ true →
    All (Contains alphabet) (chars_at alphabet places)
chars-in alphabet [] each = All-nil (Contains alphabet)
chars-in alphabet (place ∷ places) each =
    let both = split (nat_lt place (length alphabet)) (list_all (λ place. nat_lt place (length alphabet)) places) each in
    let few : place < length alphabet = let e = both.0 in grind (arith, nat_tests) in
    All-cons (Contains alphabet) (slice_index alphabet place) (chars_at alphabet places) (place, few, same place alphabet few) (chars-in alphabet places both.1)
  where
    split : (one other : Bool) → one && other ≡ true → (one ≡ true) × (other ≡ true)
    split true true both = (refl, refl)
    split true false both = cc
    split false other both = cc

    same : (place : ℕ) (alphabet : List ℕ) → place < length alphabet → slice_index_or alphabet place (slice_index alphabet place) ≡ slice_index alphabet place
    same place [] few = absurd (omega (arith, few))
    same zero (first ∷ rest) few = refl
    same (suc place) (first ∷ rest) few = same place rest (omega (arith, few))

chars-many : (alphabet places : List ℕ) → length (chars_at alphabet places) ≡ length places
chars-many alphabet [] = refl
chars-many alphabet (place ∷ places) = ap suc (chars-many alphabet places)

-- a length that two tests allow
allowed : (least count most : ℕ) (rest : Bool) → (nat_le least count && nat_le count most) && rest ≡ true → (least ≤ count) × (count ≤ most) × (rest ≡ true)
allowed least count most rest all = grind (arith, nat_tests, common_steps)

measured : (least count most : ℕ) → nat_le least count && nat_le count most ≡ true → (least ≤ count) × (count ≤ most)
measured least count most both = grind (arith, nat_tests, common_steps)

abbrev IsTextOf : List ℕ → Lengths → Val → Type 0
IsTextOf alphabet lengths value =
    (text : List ℕ) × (value ≡ val.Text text) × (lengths.least ≤ length text) × (length text ≤ lengths.most) × All (Contains alphabet) text

texts : (at : Place) (alphabet : List ℕ) (lengths : Lengths) → GivesOnly (IsTextOf alphabet lengths) (text_plan at alphabet lengths)
texts at alphabet lengths = split (are_some alphabet)
  where
    only : (answer : Choice) → admits (kind.Text lengths.least lengths.most (length alphabet)) answer ≡ true →
        IsTextOf alphabet lengths (val.Text (chars_at alphabet (places_in answer)))
    only (choice.Text places) admitted =
        let is = allowed lengths.least (length places) lengths.most _ admitted in
        let many = chars-many alphabet places in
        (chars_at alphabet places, refl, rw many is.0, rw many is.1, chars-in alphabet places is.2)
    only (choice.Bool flag) admitted = cc
    only (choice.Int number) admitted = cc
    only (choice.Bytes bytes) admitted = cc

    split : (some : Bool) → GivesOnly (IsTextOf alphabet lengths) (if some
        then Asks (kind.Text lengths.least lengths.most (length alphabet)) (λ answer. Gives (val.Text (chars_at alphabet (places_in answer))))
        else Faults (Suite what.Bounds at))
    split true = only
    split false = tt

abbrev IsBlobOf : Lengths → Val → Type 0
IsBlobOf lengths value = (bytes : List ℕ) × (value ≡ val.Bytes bytes) × (lengths.least ≤ length bytes) × (length bytes ≤ lengths.most)

blobs : (lengths : Lengths) → GivesOnly (IsBlobOf lengths) (blob_plan lengths)
blobs lengths = only
  where
    only : (answer : Choice) → admits (kind.Bytes lengths.least lengths.most) answer ≡ true → IsBlobOf lengths (val.Bytes (bytes_in answer))
    only (choice.Bytes bytes) admitted = let is = measured lengths.least (length bytes) lengths.most admitted in (bytes, refl, is.0, is.1)
    only (choice.Bool flag) admitted = cc
    only (choice.Int number) admitted = cc
    only (choice.Text places) admitted = cc

-- an item by its number is one of the items
found-in : (items : List Val) (number : ℕ) → GivesOnly (Contains items) (given (slice_get items number))
found-in [] number = tt
found-in (first ∷ rest) zero = (0, omega arith, refl)
found-in (first ∷ rest) (suc number) = behind (slice_get rest number) (found-in rest number)
  where
    behind : (found : Option Val) → GivesOnly (Contains rest) (given found) → GivesOnly (Contains (first ∷ rest)) (given found)
    behind (Some value) is = (suc is.0, omega (arith, is.1), is.2)
    behind None is = tt

samples : (at : Place) (items : List Val) → GivesOnly (Contains items) (sample_plan at items)
samples at items = split (are_some items)
  where
    split : (some : Bool) → GivesOnly (Contains items)
        (if some then item_plan items else Faults (Suite what.Bounds at))
    split true = λ answer admitted. found-in items (count_of (integer_in answer))
    split false = tt

-- a list stops at a no, or where it is full
more-gives : (least count : ℕ) → GivesOnly (λ more. more ≡ false → least ≤ count) (more_plan least count)
more-gives least count = at (nat_lt count least) refl
  where
    at : (below : Bool) → nat_lt count least ≡ below → GivesOnly (λ more. more ≡ false → least ≤ count) (if below then Gives true else asked_flag 12)
    at true is = λ no. cc
    at false is = λ answer admitted no. grind (arith, nat_tests)

module _ (label : ℕ) (In : Val → Type 0) (element : Plan Val) (only : GivesOnly In element) (least most : ℕ) where
  -- one more is of the set, and there is none only where there are enough
  abbrev OneMore : ℕ → Option Val → Type 0
  OneMore count (Some value) = In value
  OneMore count None = least ≤ count

  if-gives : (count : ℕ) (more : Bool) → (more ≡ false → least ≤ count) → GivesOnly (OneMore count) (element_if element more)
  if-gives count true enough = gives-then In (OneMore count) element (λ value. Gives (Some value)) only (λ value is. is)
  if-gives count false enough = enough refl

  element-gives : (count : ℕ) → GivesOnly (OneMore count) (element_plan label element least count)
  element-gives count =
      gives-within (OneMore count) label (and_then (more_plan least count) (element_if element))
      (gives-then (λ more. more ≡ false → least ≤ count) (OneMore count) (more_plan least count) (element_if element) (more-gives least count) (if-gives count))

  abbrev IsListOf : Val → Type 0
  IsListOf value = (elements : List Val) × (value ≡ val.List elements) × (least ≤ length elements) × (length elements ≤ most) × All In elements

  elements-give : (room : ℕ) (values : List Val) → least ≤ most → length values + room ≡ most → All In values →
      GivesOnly IsListOf (elements_plan label element least room values)
  elements-give zero values ordered full all = (values, refl, omega (arith, ordered, full), omega (arith, full), all)
  elements-give (suc room) values ordered full all =
      gives-then (OneMore (length values)) IsListOf (element_plan label element least (length values)) _ (element-gives (length values))
      (next (λ value is. elements-give room (values ++ value ∷ []) ordered (omega (arith, full, length-append values (value ∷ []))) (All-push In values value all is)))
    where
      next : ((value : Val) → In value → GivesOnly IsListOf (elements_plan label element least room (values ++ value ∷ []))) → (found : Option Val) →
          OneMore (length values) found → GivesOnly IsListOf (or_listed values (λ value. elements_plan label element least room (values ++ value ∷ [])) found)
      next later (Some value) is = later value is
      next later None is = (values, refl, is, omega (arith, full), all)

-- a value that passes a condition
abbrev IsKept : (Val → Type 0) → (Val → Result Val Origin) → Val → Type 0
IsKept In condition value = In value × ((truth : Val) × (condition value ≡ Ok truth) × (truth_of truth ≡ true))

abbrev IsKeptIfAny : (Val → Type 0) → (Val → Result Val Origin) → Option Val → Type 0
IsKeptIfAny In condition (Some value) = IsKept In condition value
IsKeptIfAny In condition None = Unit {0}

tries-give : (In : Val → Type 0) (condition : Val → Result Val Origin) (label : ℕ) (inner : Plan Val) → GivesOnly In inner → (tries : ℕ) →
    GivesOnly (IsKept In condition) (tries_plan (try_plan label inner condition) tries)
tries-give In condition label inner only zero = tt
tries-give In condition label inner only (suc tries) =
    gives-then (IsKeptIfAny In condition) (IsKept In condition) (try_plan label inner condition) (or_again (tries_plan (try_plan label inner condition) tries)) try-gives
    (again (tries-give In condition label inner only tries))
  where
    tested : (value truth : Val) → In value → condition value ≡ Ok truth → (test : Bool) → truth_of truth ≡ test →
        IsKeptIfAny In condition (if test then Some value else None)
    tested value truth is truth_is true holds = (is, (truth, truth_is, holds))
    tested value truth is truth_is false fails = tt

    try-gives : GivesOnly (IsKeptIfAny In condition) (try_plan label inner condition)
    try-gives = gives-within (IsKeptIfAny In condition) label
        (and_then inner (λ value. by_value (condition value) (λ truth. Gives (if truth_of truth then Some value else None))))
        (gives-then In (IsKeptIfAny In condition) inner (λ value. by_value (condition value) (λ truth. Gives (if truth_of truth then Some value else None))) only
        (λ value is. gives-by-value (IsKeptIfAny In condition) (condition value) (λ truth. Gives (if truth_of truth then Some value else None))
        (λ truth truth_is. tested value truth is truth_is (truth_of truth) refl)))

    again : GivesOnly (IsKept In condition) (tries_plan (try_plan label inner condition) tries) → (found : Option Val) → IsKeptIfAny In condition found →
        GivesOnly (IsKept In condition) (or_again (tries_plan (try_plan label inner condition) tries) found)
    again rest (Some value) is = is
    again rest None is = rest

-- the one or the other
either : {A : Type 0} (Is : A → Type 0) (test : Bool) (first other : Plan A) → GivesOnly Is first → GivesOnly Is other → GivesOnly Is (if test then first else other)
either Is true first other is is_other = is
either Is false first other is is_other = is_other

levels-give : (label : ℕ) (first : Plan Val) (second : Plan Val → Plan Val) (First : Val → Type 0) (Second : (Val → Type 0) → Val → Type 0) (depth : ℕ) →
    GivesOnly First first → ((again : Plan Val) (Again : Val → Type 0) → GivesOnly Again again → GivesOnly (Second Again) (second again)) →
    GivesOnly (IsWithin First Second depth) (recursive_plan label first second depth)
levels-give label first second First Second zero only more = only
levels-give label first second First Second (suc depth) only more = λ answer admitted.
    let below = IsWithin First Second depth in
    let again = within label (recursive_plan label first second depth) in
    either (IsWithin First Second (suc depth)) (flag_in answer) (second again) first
    (gives-wider (Second below) (IsWithin First Second (suc depth)) (second again) (λ value is. inr is)
    (more again below (gives-within below label (recursive_plan label first second depth) (levels-give label first second First Second depth only more))))
    (gives-wider First (IsWithin First Second (suc depth)) first (λ value is. inl is) only)

mutual
  inner-gives : (tree : StratTree) (self : Plan Val) (Self : Val → Type 0) (env : List Binding) → GivesOnly Self self → GivesOnly (IsIn tree Self env) (inner_plan tree self env)
  inner-gives (Ints_of at num lo hi) self Self env only =
      gives-by-value (IsIn (Ints_of at num lo hi) Self env) (range_of at lo hi env) integer_plan (λ range is.
      gives-wider (IsFrom range) (IsIn (Ints_of at num lo hi) Self env) (integer_plan range)
      (λ value from. (from.0, from.1, between-range at lo hi env range from.0 is from.2 from.3)) (integers range))
  inner-gives (Bools_of at num) self Self env only = λ answer admitted. (flag_in answer, refl)
  inner-gives (Texts_of at num alphabet lo hi) self Self env only =
      gives-by-value (IsIn (Texts_of at num alphabet lo hi) Self env) (lengths_of at 64 lo hi env) (text_plan at alphabet.chars) (λ lengths is.
      gives-wider (IsTextOf alphabet.chars lengths) (IsIn (Texts_of at num alphabet lo hi) Self env) (text_plan at alphabet.chars lengths)
      (λ value text. (text.0, text.1, between-lengths at 64 lo hi env lengths (length text.0) is text.2 text.3, text.4)) (texts at alphabet.chars lengths))
  inner-gives (Blobs_of at num lo hi) self Self env only =
      gives-by-value (IsIn (Blobs_of at num lo hi) Self env) (lengths_of at 64 lo hi env) blob_plan (λ lengths is.
      gives-wider (IsBlobOf lengths) (IsIn (Blobs_of at num lo hi) Self env) (blob_plan lengths)
      (λ value blob. (blob.0, blob.1, between-lengths at 64 lo hi env lengths (length blob.0) is blob.2 blob.3)) (blobs lengths))
  inner-gives (Sampled_of at num list) self Self env only =
      gives-by-value (IsIn (Sampled_of at num list) Self env) (evaluated list env) (λ items. sample_plan at (members_of items)) (λ items is.
      gives-wider (Contains (members_of items)) (IsIn (Sampled_of at num list) Self env) (sample_plan at (members_of items))
      (λ value one. (items, is, one)) (samples at (members_of items)))
  inner-gives (Lists_of at num element lo hi) self Self env only =
      let inner = in_span element (inner_plan element self env) in
      let each = gives-in-span (IsIn element Self env) element (inner_plan element self env) (inner-gives element self Self env only) in
      gives-by-value (IsIn (Lists_of at num element lo hi) Self env) (lengths_of at 256 lo hi env) (list_plan (part_label num) inner) (λ lengths is.
      gives-wider (IsListOf (part_label num) (IsIn element Self env) inner each lengths.least lengths.most) (IsIn (Lists_of at num element lo hi) Self env)
      (list_plan (part_label num) inner lengths)
      (λ value list. (list.0, list.1, between-lengths at 256 lo hi env lengths (length list.0) is list.2 list.3, list.4))
      (elements-give (part_label num) (IsIn element Self env) inner each lengths.least lengths.most lengths.most []
      (lengths-ordered at 256 lo hi env lengths is) (omega arith) (All-nil (IsIn element Self env))))
  inner-gives (Tuples_of at num parts) self Self env only = gives-wider (λ value. (rest : List Val) × (value ≡ val.Tuple ([] ++ rest)) × AreIn parts Self env rest)
      (IsIn (Tuples_of at num parts) Self env) (tuple_plan parts self env []) (λ value is. is) (parts-give parts self Self env [] only)
  inner-gives (OneOf_of at num parts) self Self env only = λ answer admitted. member-gives parts self Self env (count_of (integer_in answer)) only
  inner-gives (Map_of at num given inner body) self Self env only =
      gives-then (IsIn inner Self env) (IsIn (Map_of at num given inner body) Self env) (in_span inner (inner_plan inner self env))
      (λ value. by_value (evaluated body (env ++ bound given.name value ∷ [])) (λ made. Gives made))
      (gives-in-span (IsIn inner Self env) inner (inner_plan inner self env) (inner-gives inner self Self env only)) (λ from from_is.
      gives-by-value (IsIn (Map_of at num given inner body) Self env) (evaluated body (env ++ bound given.name from ∷ [])) (λ made. Gives made) (λ made made_is.
      (from, from_is, made_is)))
  inner-gives (Filter_of at num given inner cond) self Self env only =
      tries-give (IsIn inner Self env) (λ value. evaluated cond (env ++ bound given.name value ∷ [])) (part_label num) (in_span inner (inner_plan inner self env))
      (gives-in-span (IsIn inner Self env) inner (inner_plan inner self env) (inner-gives inner self Self env only)) 3
  inner-gives (FlatMap_of at num given inner second) self Self env only =
      gives-then (IsIn inner Self env) (IsIn (FlatMap_of at num given inner second) Self env) (in_span inner (inner_plan inner self env))
      (λ value. in_span second (inner_plan second self (env ++ bound given.name value ∷ [])))
      (gives-in-span (IsIn inner Self env) inner (inner_plan inner self env) (inner-gives inner self Self env only)) (λ from from_is.
      gives-wider (IsIn second Self (env ++ bound given.name from ∷ [])) (IsIn (FlatMap_of at num given inner second) Self env)
      (in_span second (inner_plan second self (env ++ bound given.name from ∷ []))) (λ value is. (from, from_is, is))
      (gives-in-span (IsIn second Self (env ++ bound given.name from ∷ [])) second (inner_plan second self (env ++ bound given.name from ∷ []))
      (inner-gives second self Self (env ++ bound given.name from ∷ []) only)))
  inner-gives (Recursive_of at num depth first second) self Self env only =
      levels-give (node_label num) (in_span first (inner_plan first self env)) (λ again. in_span second (inner_plan second again env))
      (IsIn first Self env) (λ Again. IsIn second Again env) depth
      (gives-in-span (IsIn first Self env) first (inner_plan first self env) (inner-gives first self Self env only))
      (λ again Again again_is. gives-in-span (IsIn second Again env) second (inner_plan second again env) (inner-gives second again Again env again_is))
  inner-gives (Self_of at num) self Self env only = only

  parts-give : (parts : StratTrees) (self : Plan Val) (Self : Val → Type 0) (env : List Binding) (values : List Val) → GivesOnly Self self →
      GivesOnly (λ value. (rest : List Val) × (value ≡ val.Tuple (values ++ rest)) × AreIn parts Self env rest) (tuple_plan parts self env values)
  parts-give no_strat self Self env values only = ([], subst (λ vs. val.Tuple values ≡ val.Tuple vs) (sym (append-nil values)) refl, tt)
  parts-give (more_strat first others) self Self env values only =
      gives-then (IsIn first Self env) (λ value. (rest : List Val) × (value ≡ val.Tuple (values ++ rest)) × AreIn (more_strat first others) Self env rest)
      (in_span first (inner_plan first self env)) (λ value. tuple_plan others self env (values ++ value ∷ []))
      (gives-in-span (IsIn first Self env) first (inner_plan first self env) (inner-gives first self Self env only)) (λ one one_is.
      gives-wider (λ value. (rest : List Val) × (value ≡ val.Tuple ((values ++ one ∷ []) ++ rest)) × AreIn others Self env rest)
      (λ value. (rest : List Val) × (value ≡ val.Tuple (values ++ rest)) × AreIn (more_strat first others) Self env rest)
      (tuple_plan others self env (values ++ one ∷ [])) (λ value is. (one ∷ is.0, rw append_assoc at is.1, (one_is, is.2)))
      (parts-give others self Self env (values ++ one ∷ []) only))

  member-gives : (parts : StratTrees) (self : Plan Val) (Self : Val → Type 0) (env : List Binding) (number : ℕ) → GivesOnly Self self →
      GivesOnly (IsInOne parts Self env) (member_plan parts self env number)
  member-gives no_strat self Self env number only = tt
  member-gives (more_strat first others) self Self env zero only =
      gives-wider (IsIn first Self env) (IsInOne (more_strat first others) Self env) (in_span first (inner_plan first self env)) (λ value is. inl is)
      (gives-in-span (IsIn first Self env) first (inner_plan first self env) (inner-gives first self Self env only))
  member-gives (more_strat first others) self Self env (suc number) only =
      gives-wider (IsInOne others Self env) (IsInOne (more_strat first others) Self env) (member_plan others self env number) (λ value is. inr is)
      (member-gives others self Self env number only)

pub gives-its-own : (tree : StratTree) (env : List Binding) → GivesOnly (IsOneOf tree env) (plan_of tree Rejects env)
gives-its-own tree env = gives-in-span (IsOneOf tree env) tree (inner_plan tree Rejects env) (inner-gives tree Rejects (λ none. ⊥) env tt)

pub derived-is-in-set : DerivedIsInSet
derived-is-in-set tree env choices value spans notes is =
    gives-derives (IsOneOf tree env) (plan_of tree Rejects env) 0 [] [] choices value spans notes (gives-its-own tree env) is
