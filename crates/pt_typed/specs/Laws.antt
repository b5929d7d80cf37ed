-- That each plan keeps the laws of a strategy, where the plans that it is made of do.
use Rattle.std.proofs.Common.{◌≡◌, ◌≤◌, ◌<◌, ◌≤ℤ◌, ℕ, ℤ, zero, suc, pos, ◌+◌, ◌-◌, ◌+ℤ◌, ◌-ℤ◌, Bool, true, false, Option, Some, None, List, [], ◌∷◌, ◌++◌, length, inl, inr, refl, ap, subst, arith, length-append}
use Rattle.std.specs.Prelude.{◌&&◌, nat_lt, nat_le, int_lt, slice_get, slice_index, slice_index_or, if◌then◌else◌}
use Rattle.std.specs.List.{All, Contains, list_all}
use Rattle.std.proofs.lemmas.Grind.{common_steps}
use Rattle.std.proofs.lemmas.Bool.Decides.{nat_tests}
use Rattle.std.proofs.lemmas.List.Elements.{All-nil, All-cons, All-push}
use Rattle.pt_choice.specs.Kind.{admits}
use Rattle.pt_choice.specs.declared.choice.Choice.{Choice}
use Rattle.pt_choice.specs.declared.choice.Choice.TheVariants as choice
use Rattle.pt_choice.specs.declared.kind.Shape.TheVariants as kind
use Rattle.pt_val.specs.declared.val.Val.{Val}
use Rattle.pt_val.specs.declared.val.Val.TheVariants as val
use Rattle.pt_plan.specs.Plan.{Plan, Gives, Rejects, Faults, Asks, Enters, Leaves, Notes, and_then, within}
use Rattle.pt_plan.specs.Asked.{flag_in, integer_in, asked_flag, asked_integer}
use Rattle.pt_plan.specs.Every.{GivesOnly, IsBalancedAt, IsBalanced, NotesNothing}
use Rattle.pt_plan.proofs.EveryLemmas.{gives-then, gives-wider, silent-then, silent-within, balanced-then, balanced-and_then, balanced-within, integer-within}
use Rattle.pt_typed.specs.Shown.{pair_of}
use Rattle.pt_typed.specs.Strategy.{IsStrategy}
use Rattle.pt_typed.specs.Plans.{nearest, ints_plan, bools_plan, places_in, bytes_in, chars_at, texts_plan, blobs_plan, count_of, given, sampled_plan, more_plan, element_if, element_plan, or_listed, elements_plan, list_plan, pair_plan, either_plan, one_of_plan, map_plan, tries_plan, filter_plan, flat_map_plan}
use Rattle.pt_typed.specs.Sets.{IsBetween, IsTruth, IsTextOf, IsBlobOf, IsListOf, IsPairOf, IsInEither, IsImageOf, IsWanted, IsLedTo}

-- in a span of its own
pub within-lawful : (In : Val → Type 0) (label : ℕ) (plan : Plan Val) → GivesOnly In plan → IsBalanced plan → NotesNothing plan →
    IsStrategy In (within label plan)
within-lawful In label plan only balanced silent = record {
  within_set = gives-then In In plan (λ value. Leaves (Gives value)) only (λ value is. is);
  balanced = balanced-within label plan balanced;
  silent = silent-within label plan silent;
  begins = tt;
}

-- a distance from the target that is within its bounds
between : (lo hi target distance : ℤ) → (lo -ℤ target) ≤ℤ distance → distance ≤ℤ (hi -ℤ target) →
    (lo ≤ℤ (target +ℤ distance)) × ((target +ℤ distance) ≤ℤ hi)
between lo hi target distance low high = (grind (arith, common_steps), grind (arith, common_steps))

pub ints-lawful : (lo hi : ℤ) → IsStrategy (IsBetween lo hi) (ints_plan lo hi)
ints-lawful lo hi =
    let target = nearest lo hi in
    let shifted : ℤ → Plan Val = λ distance. Gives (val.Int (target +ℤ distance)) in
    within-lawful (IsBetween lo hi) 1 (and_then (asked_integer (lo -ℤ target) (hi -ℤ target)) shifted)
    (gives-then (λ number. ((lo -ℤ target) ≤ℤ number) × (number ≤ℤ (hi -ℤ target))) (IsBetween lo hi)
    (asked_integer (lo -ℤ target) (hi -ℤ target)) shifted (integer-within (lo -ℤ target) (hi -ℤ target))
    (λ distance is. let inside = between lo hi target distance is.0 is.1 in (target +ℤ distance, refl, inside.0, inside.1)))
    (λ answer admitted. refl) (λ answer admitted. tt)

pub bools-lawful : IsStrategy IsTruth bools_plan
bools-lawful = within-lawful IsTruth 2 (and_then (asked_flag 8) (λ flag. Gives (val.Bool flag)))
    (λ answer admitted. (flag_in answer, refl)) (λ answer admitted. refl) (λ answer admitted. tt)

-- the characters at places of the alphabet are in it
chars-in : (alphabet places : List ℕ) → list_all (λ place. nat_lt place (length alphabet)) places ≡ true →
    All (Contains alphabet) (chars_at alphabet places)
chars-in alphabet [] each = All-nil (Contains alphabet)
chars-in alphabet (place ∷ places) each =
    let both = split (nat_lt place (length alphabet)) (list_all (λ place. nat_lt place (length alphabet)) places) each in
    let few : place < length alphabet = let e = both.0 in grind (arith, nat_tests) in
    All-cons (Contains alphabet) (slice_index alphabet place) (chars_at alphabet places) (place, few, same place alphabet few) (chars-in alphabet places both.1)
  where
    split : (one other : Bool) → one && other ≡ true → (one ≡ true) × (other ≡ true)
    split true true both = (refl, refl)
    split true false both = cc
    split false other both = cc

    same : (place : ℕ) (alphabet : List ℕ) → place < length alphabet → slice_index_or alphabet place (slice_index alphabet place) ≡ slice_index alphabet place
    same place [] few = absurd (omega (arith, few))
    same zero (first ∷ rest) few = refl
    same (suc place) (first ∷ rest) few = same place rest (omega (arith, few))

chars-many : (alphabet places : List ℕ) → length (chars_at alphabet places) ≡ length places
chars-many alphabet [] = refl
chars-many alphabet (place ∷ places) = ap suc (chars-many alphabet places)

-- a length that two tests allow
allowed : (min count max : ℕ) (rest : Bool) → (nat_le min count && nat_le count max) && rest ≡ true → (min ≤ count) × (count ≤ max) × (rest ≡ true)
allowed min count max rest all = grind (arith, nat_tests, common_steps)

pub texts-lawful : (alphabet : List ℕ) (min max : ℕ) → IsStrategy (IsTextOf alphabet min max) (texts_plan alphabet min max)
texts-lawful alphabet min max =
    within-lawful (IsTextOf alphabet min max) 3 (Asks (kind.Text min max (length alphabet)) (λ answer. Gives (val.Text (chars_at alphabet (places_in answer)))))
    only (λ answer admitted. refl) (λ answer admitted. tt)
  where
    only : (answer : Choice) → admits (kind.Text min max (length alphabet)) answer ≡ true → IsTextOf alphabet min max (val.Text (chars_at alphabet (places_in answer)))
    only (choice.Text places) admitted =
        let is = allowed min (length places) max _ admitted in
        let many = chars-many alphabet places in
        (chars_at alphabet places, refl, rw many is.0, rw many is.1, chars-in alphabet places is.2)
    only (choice.Bool flag) admitted = cc
    only (choice.Int number) admitted = cc
    only (choice.Bytes bytes) admitted = cc

pub blobs-lawful : (min max : ℕ) → IsStrategy (IsBlobOf min max) (blobs_plan min max)
blobs-lawful min max =
    within-lawful (IsBlobOf min max) 4 (Asks (kind.Bytes min max) (λ answer. Gives (val.Bytes (bytes_in answer))))
    only (λ answer admitted. refl) (λ answer admitted. tt)
  where
    measured : (count : ℕ) → nat_le min count && nat_le count max ≡ true → (min ≤ count) × (count ≤ max)
    measured count both = grind (arith, nat_tests, common_steps)

    only : (answer : Choice) → admits (kind.Bytes min max) answer ≡ true → IsBlobOf min max (val.Bytes (bytes_in answer))
    only (choice.Bytes bytes) admitted = let is = measured (length bytes) admitted in (bytes, refl, is.0, is.1)
    only (choice.Bool flag) admitted = cc
    only (choice.Int number) admitted = cc
    only (choice.Text places) admitted = cc

-- an item by its number is one of the items
given-lawful : (items : List Val) (number : ℕ) → GivesOnly (Contains items) (given (slice_get items number))
given-lawful [] number = tt
given-lawful (first ∷ rest) zero = (0, omega arith, refl)
given-lawful (first ∷ rest) (suc number) =
    behind (slice_get rest number) (given-lawful rest number)
  where
    behind : (found : Option Val) → GivesOnly (Contains rest) (given found) → GivesOnly (Contains (first ∷ rest)) (given found)
    behind (Some value) is = (suc is.0, omega (arith, is.1), is.2)
    behind None is = tt

given-balanced : (found : Option Val) → IsBalanced (given found)
given-balanced (Some value) = refl
given-balanced None = tt

given-silent : (found : Option Val) → NotesNothing (given found)
given-silent (Some value) = tt
given-silent None = tt

pub sampled-lawful : (items : List Val) → IsStrategy (Contains items) (sampled_plan items)
sampled-lawful items =
    within-lawful (Contains items) 5 (and_then (asked_integer (pos 0) (pos (length items - 1))) (λ number. given (slice_get items (count_of number))))
    (λ answer admitted. given-lawful items (count_of (integer_in answer)))
    (λ answer admitted. given-balanced (slice_get items (count_of (integer_in answer))))
    (λ answer admitted. given-silent (slice_get items (count_of (integer_in answer))))

-- a list stops at a no, or where it is full
more-gives : (least count : ℕ) → GivesOnly (λ more. more ≡ false → least ≤ count) (more_plan least count)
more-gives least count = at (nat_lt count least) refl
  where
    at : (below : Bool) → nat_lt count least ≡ below → GivesOnly (λ more. more ≡ false → least ≤ count) (if below then Gives true else asked_flag 12)
    at true is = λ no. cc
    at false is = λ answer admitted no. grind (arith, nat_tests)

more-balanced : (least count : ℕ) → IsBalanced (more_plan least count)
more-balanced least count = at (nat_lt count least)
  where
    at : (below : Bool) → IsBalanced (if below then Gives true else asked_flag 12)
    at true = refl
    at false = λ answer admitted. refl

more-silent : (least count : ℕ) → NotesNothing (more_plan least count)
more-silent least count = at (nat_lt count least)
  where
    at : (below : Bool) → NotesNothing (if below then Gives true else asked_flag 12)
    at true = tt
    at false = λ answer admitted. tt

module _ (In : Val → Type 0) (element : Plan Val) (each : IsStrategy In element) (least most : ℕ) where
  -- one more is of the set, and there is none only where there are enough
  abbrev OneMore : ℕ → Option Val → Type 0
  OneMore count (Some value) = In value
  OneMore count None = least ≤ count

  if-gives : (count : ℕ) (more : Bool) → (more ≡ false → least ≤ count) → GivesOnly (OneMore count) (element_if element more)
  if-gives count true enough = gives-then In (OneMore count) element (λ value. Gives (Some value)) each.within_set (λ value is. is)
  if-gives count false enough = enough refl

  if-balanced : (more : Bool) → IsBalanced (element_if element more)
  if-balanced true = balanced-and_then element (λ value. Gives (Some value)) each.balanced (λ value. refl)
  if-balanced false = refl

  if-silent : (more : Bool) → NotesNothing (element_if element more)
  if-silent true = silent-then element (λ value. Gives (Some value)) each.silent (λ value. tt)
  if-silent false = tt

  element-gives : (count : ℕ) → GivesOnly (OneMore count) (element_plan element least count)
  element-gives count =
      gives-then (OneMore count) (OneMore count) (and_then (more_plan least count) (element_if element)) (λ found. Leaves (Gives found))
      (gives-then (λ more. more ≡ false → least ≤ count) (OneMore count) (more_plan least count) (element_if element) (more-gives least count) (if-gives count))
      (λ found is. is)

  element-balanced : (count : ℕ) → IsBalanced (element_plan element least count)
  element-balanced count = balanced-within 7 (and_then (more_plan least count) (element_if element))
      (balanced-and_then (more_plan least count) (element_if element) (more-balanced least count) if-balanced)

  element-silent : (count : ℕ) → NotesNothing (element_plan element least count)
  element-silent count = silent-within 7 (and_then (more_plan least count) (element_if element))
      (silent-then (more_plan least count) (element_if element) (more-silent least count) if-silent)

  elements-give : (room : ℕ) (values : List Val) → least ≤ most → length values + room ≡ most → All In values →
      GivesOnly (IsListOf In least most) (elements_plan element least room values)
  elements-give zero values ordered full all = (values, refl, omega (arith, ordered, full), omega (arith, full), all)
  elements-give (suc room) values ordered full all =
      gives-then (OneMore (length values)) (IsListOf In least most) (element_plan element least (length values)) _ (element-gives (length values))
      (next (λ value is. elements-give room (values ++ value ∷ []) ordered (omega (arith, full, length-append values (value ∷ []))) (All-push In values value all is)))
    where
      next : ((value : Val) → In value → GivesOnly (IsListOf In least most) (elements_plan element least room (values ++ value ∷ []))) → (found : Option Val) →
          OneMore (length values) found → GivesOnly (IsListOf In least most) (or_listed values (λ value. elements_plan element least room (values ++ value ∷ [])) found)
      next later (Some value) is = later value is
      next later None is = (values, refl, is, omega (arith, full), all)

  elements-balanced : (room : ℕ) (values : List Val) → IsBalanced (elements_plan element least room values)
  elements-balanced zero values = refl
  elements-balanced (suc room) values = balanced-and_then (element_plan element least (length values)) _ (element-balanced (length values))
      (next (λ value. elements-balanced room (values ++ value ∷ [])))
    where
      next : ((value : Val) → IsBalanced (elements_plan element least room (values ++ value ∷ []))) → (found : Option Val) →
          IsBalanced (or_listed values (λ value. elements_plan element least room (values ++ value ∷ [])) found)
      next later (Some value) = later value
      next later None = refl

  elements-silent : (room : ℕ) (values : List Val) → NotesNothing (elements_plan element least room values)
  elements-silent zero values = tt
  elements-silent (suc room) values = silent-then (element_plan element least (length values)) _ (element-silent (length values))
      (next (λ value. elements-silent room (values ++ value ∷ [])))
    where
      next : ((value : Val) → NotesNothing (elements_plan element least room (values ++ value ∷ []))) → (found : Option Val) →
          NotesNothing (or_listed values (λ value. elements_plan element least room (values ++ value ∷ [])) found)
      next later (Some value) = later value
      next later None = tt

  pub list-lawful : least ≤ most → IsStrategy (IsListOf In least most) (list_plan element least most)
  list-lawful ordered = within-lawful (IsListOf In least most) 6 (elements_plan element least most [])
      (elements-give most [] ordered (omega arith) (All-nil In)) (elements-balanced most []) (elements-silent most [])

-- a pair
pub pair-lawful : (In Other : Val → Type 0) (first second : Plan Val) → IsStrategy In first → IsStrategy Other second →
    IsStrategy (IsPairOf In Other) (pair_plan first second)
pair-lawful In Other first second one other =
    let last : Val → Plan Val = λ a. and_then second (λ b. Gives (pair_of a b)) in
    within-lawful (IsPairOf In Other) 8 (and_then first last)
    (gives-then In (IsPairOf In Other) first last one.within_set (λ a is_a. gives-then Other (IsPairOf In Other) second (λ b. Gives (pair_of a b)) other.within_set
    (λ b is_b. (a, b, refl, is_a, is_b))))
    (balanced-and_then first last one.balanced (λ a. balanced-and_then second (λ b. Gives (pair_of a b)) other.balanced (λ b. refl)))
    (silent-then first last one.silent (λ a. silent-then second (λ b. Gives (pair_of a b)) other.silent (λ b. tt)))

-- either of two
module _ (In Other : Val → Type 0) (first second : Plan Val) (one : IsStrategy In first) (other : IsStrategy Other second) where
  either-lawful : (which : ℤ) → GivesOnly (IsInEither In Other) (either_plan first second which)
      × IsBalanced (either_plan first second which) × NotesNothing (either_plan first second which)
  either-lawful which = at (int_lt (pos 0) which)
    where
      at : (second_one : Bool) → GivesOnly (IsInEither In Other) (if second_one then second else first)
          × IsBalanced (if second_one then second else first) × NotesNothing (if second_one then second else first)
      at true = (gives-wider Other (IsInEither In Other) second (λ value is. inr is) other.within_set, other.balanced, other.silent)
      at false = (gives-wider In (IsInEither In Other) first (λ value is. inl is) one.within_set, one.balanced, one.silent)

  pub one_of-lawful : IsStrategy (IsInEither In Other) (one_of_plan first second)
  one_of-lawful = within-lawful (IsInEither In Other) 9 (and_then (asked_integer (pos 0) (pos 1)) (either_plan first second))
      (λ answer admitted. (either-lawful (integer_in answer)).0) (λ answer admitted. (either-lawful (integer_in answer)).1)
      (λ answer admitted. (either-lawful (integer_in answer)).2)

-- images
pub map-lawful : (In : Val → Type 0) (inner : Plan Val) (image : Val → Val) → IsStrategy In inner → IsStrategy (IsImageOf In image) (map_plan inner image)
map-lawful In inner image one =
    let last : Val → Plan Val = λ value. Gives (image value) in
    within-lawful (IsImageOf In image) 10 (and_then inner last)
    (gives-then In (IsImageOf In image) inner last one.within_set (λ value is. (value, is, refl)))
    (balanced-and_then inner last one.balanced (λ value. refl)) (silent-then inner last one.silent (λ value. tt))

-- values that are wanted
module _ (In : Val → Type 0) (inner : Plan Val) (wanted : Val → Bool) (one : IsStrategy In inner) where
  tries-give : (tries : ℕ) → GivesOnly (IsWanted In wanted) (tries_plan inner wanted tries)
  tries-give zero = tt
  tries-give (suc tries) =
      gives-then In (IsWanted In wanted) inner (λ value. Leaves (if wanted value then Gives value else tries_plan inner wanted tries)) one.within_set
      (λ value is. at value is (tries-give tries) (wanted value) refl)
    where
      at : (value : Val) → In value → GivesOnly (IsWanted In wanted) (tries_plan inner wanted tries) → (truth : Bool) → wanted value ≡ truth →
          GivesOnly (IsWanted In wanted) (if truth then Gives value else tries_plan inner wanted tries)
      at value is rest true holds = (is, holds)
      at value is rest false fails = rest

  tries-balanced : (tries : ℕ) → IsBalanced (tries_plan inner wanted tries)
  tries-balanced zero = tt
  tries-balanced (suc tries) =
      balanced-then 0 1 1 inner (λ value. Leaves (if wanted value then Gives value else tries_plan inner wanted tries)) refl one.balanced
      (λ value. at value (tries-balanced tries) (wanted value))
    where
      at : (value : Val) → IsBalanced (tries_plan inner wanted tries) → (truth : Bool) → IsBalanced (if truth then Gives value else tries_plan inner wanted tries)
      at value rest true = refl
      at value rest false = rest

  tries-silent : (tries : ℕ) → NotesNothing (tries_plan inner wanted tries)
  tries-silent zero = tt
  tries-silent (suc tries) =
      silent-then inner (λ value. Leaves (if wanted value then Gives value else tries_plan inner wanted tries)) one.silent
      (λ value. at value (tries-silent tries) (wanted value))
    where
      at : (value : Val) → NotesNothing (tries_plan inner wanted tries) → (truth : Bool) → NotesNothing (if truth then Gives value else tries_plan inner wanted tries)
      at value rest true = tt
      at value rest false = rest

  pub filter-lawful : IsStrategy (IsWanted In wanted) (filter_plan inner wanted)
  filter-lawful = within-lawful (IsWanted In wanted) 11 (tries_plan inner wanted 3) (tries-give 3) (tries-balanced 3) (tries-silent 3)

-- one plan and then others, of which something is known at the values of the first alone
balanced-met : (In : Val → Type 0) (depth outer all : ℕ) (plan : Plan Val) (next : Val → Plan Val) → all ≡ depth + outer → GivesOnly In plan →
    IsBalancedAt depth plan → ((value : Val) → In value → IsBalancedAt outer (next value)) → IsBalancedAt all (and_then plan next)
balanced-met In depth outer all (Gives value) next sum only balanced later =
    let same : outer ≡ all = omega (arith, sum, balanced) in subst (λ n. IsBalancedAt n (next value)) same (later value only)
balanced-met In depth outer all Rejects next sum only balanced later = tt
balanced-met In depth outer all (Faults origin) next sum only balanced later = tt
balanced-met In depth outer all (Asks kind more) next sum only balanced later =
    λ choice admitted. balanced-met In depth outer all (more choice) next sum (only choice admitted) (balanced choice admitted) later
balanced-met In depth outer all (Enters label more) next sum only balanced later =
    balanced-met In (suc depth) outer (suc all) more next (omega (arith, sum)) only balanced later
balanced-met In zero outer all (Leaves more) next sum only balanced later = absurd balanced
balanced-met In (suc depth) outer zero (Leaves more) next sum only balanced later = absurd (omega (arith, sum))
balanced-met In (suc depth) outer (suc all) (Leaves more) next sum only balanced later =
    balanced-met In depth outer all more next (omega (arith, sum)) only balanced later
balanced-met In depth outer all (Notes note more) next sum only balanced later = balanced-met In depth outer all more next sum only balanced later

silent-met : (In : Val → Type 0) (plan : Plan Val) (next : Val → Plan Val) → GivesOnly In plan → NotesNothing plan →
    ((value : Val) → In value → NotesNothing (next value)) → NotesNothing (and_then plan next)
silent-met In (Gives value) next only silent later = later value only
silent-met In Rejects next only silent later = tt
silent-met In (Faults origin) next only silent later = tt
silent-met In (Asks kind more) next only silent later =
    λ choice admitted. silent-met In (more choice) next (only choice admitted) (silent choice admitted) later
silent-met In (Enters label more) next only silent later = silent-met In more next only silent later
silent-met In (Leaves more) next only silent later = silent-met In more next only silent later
silent-met In (Notes note more) next only silent later = absurd silent

-- values of strategies that depend on a first value
pub flat_map-lawful : (In : Val → Type 0) (inner : Plan Val) (Next : Val → Val → Type 0) (next : Val → Plan Val) → IsStrategy In inner →
    ((value : Val) → In value → IsStrategy (Next value) (next value)) → IsStrategy (IsLedTo In Next) (flat_map_plan inner next)
flat_map-lawful In inner Next next one later = within-lawful (IsLedTo In Next) 12 (and_then inner next)
    (gives-then In (IsLedTo In Next) inner next one.within_set
    (λ value is. gives-wider (Next value) (IsLedTo In Next) (next value) (λ last is_last. (value, is, is_last)) (later value is).within_set))
    (balanced-met In 0 0 0 inner next refl one.within_set one.balanced (λ value is. (later value is).balanced))
    (silent-met In inner next one.within_set one.silent (λ value is. (later value is).silent))
