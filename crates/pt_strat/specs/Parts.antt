-- What strategies are made of.
use Rattle.std.specs.Prelude.{ℕ, zero, suc, ◌-◌, ℤ, pos, ◌+ℤ◌, ◌-ℤ◌, int_lt, nat_lt, nat_le, ◌&&◌, Bool, true, Option, Some, None, Result, Ok, Err, List, [], ◌∷◌, ◌++◌, length, map, slice_get, slice_index, if◌then◌else◌}
use Rattle.pt_choice.specs.declared.choice.Choice.{Choice}
use Rattle.pt_choice.specs.declared.choice.Choice.TheVariants as choice
use Rattle.pt_choice.specs.declared.kind.Shape.TheVariants as kind
use Rattle.pt_val.specs.declared.place.Place.{Place}
use Rattle.pt_val.specs.declared.val.Val.{Val}
use Rattle.pt_val.specs.declared.val.Val.TheVariants as val
use Rattle.pt_case.specs.declared.ending.What.TheVariants as what
use Rattle.pt_case.specs.declared.ending.Origin.{Origin}
use Rattle.pt_case.specs.declared.ending.Origin.TheVariants.{Suite}
use Rattle.pt_eval.specs.Parts.{truth_of}
use Rattle.pt_plan.specs.Plan.{Plan, Gives, Rejects, Faults, Asks, and_then, within}
use Rattle.pt_plan.specs.Asked.{asked_flag, asked_integer}
use Rattle.pt_strat.specs.declared.bounds.Range.{Range}
use Rattle.pt_strat.specs.declared.bounds.Lengths.{Lengths}
use Rattle.pt_strat.specs.Bounds.{count_of}

-- what was evaluated, and then what follows from it; a fault ends it
abbrev pub by_value : {A B : Type 0} → Result A Origin → (A → Plan B) → Plan B
by_value (Ok value) next = next value
by_value (Err origin) next = Faults origin

-- what is there; where there is nothing, which a suite never comes to, it rejects
abbrev pub given : {A : Type 0} → Option A → Plan A
given (Some value) = Gives value
given None = Rejects

-- the number nearest to 0 of those between two bounds
abbrev pub nearest : ℤ → ℤ → ℤ
nearest lo hi = if int_lt (pos 0) lo then lo else (if int_lt hi (pos 0) then hi else pos 0)

-- an integer between two bounds, as a distance from the nearest to 0
abbrev pub integer_plan : Range → Plan Val
integer_plan range = and_then (asked_integer (range.lo -ℤ nearest range.lo range.hi) (range.hi -ℤ nearest range.lo range.hi))
    (λ distance. Gives (val.Int (nearest range.lo range.hi +ℤ distance)))

-- the places of a text, where the choice is one
abbrev pub places_in : Choice → List ℕ
places_in (choice.Text places) = places
places_in _ = []

-- the bytes of a choice, where it is of bytes
abbrev pub bytes_in : Choice → List ℕ
bytes_in (choice.Bytes bytes) = bytes
bytes_in _ = []

-- the characters of an alphabet at these places
abbrev pub chars_at : List ℕ → List ℕ → List ℕ
chars_at alphabet places = map (λ place. slice_index alphabet place) places

-- there are 1 to 256
abbrev pub are_some : {A : Type 0} → List A → Bool
are_some items = nat_lt 0 (length items) && nat_le (length items) 256

-- a text of so many characters of the alphabet, which in a suite has 1 to 256
abbrev pub text_plan : Place → List ℕ → Lengths → Plan Val
text_plan at alphabet lengths = if are_some alphabet
    then Asks (kind.Text lengths.least lengths.most (length alphabet)) (λ answer. Gives (val.Text (chars_at alphabet (places_in answer))))
    else Faults (Suite what.Bounds at)

-- so many bytes
abbrev pub blob_plan : Lengths → Plan Val
blob_plan lengths = Asks (kind.Bytes lengths.least lengths.most) (λ answer. Gives (val.Bytes (bytes_in answer)))

-- the number of one of so many
abbrev pub place_plan : ℕ → Plan ℕ
place_plan count = and_then (asked_integer (pos 0) (pos (count - 1))) (λ number. Gives (count_of number))

-- one of the items; of none it is none
abbrev pub item_plan : List Val → Plan Val
item_plan items = and_then (place_plan (length items)) (λ place. given (slice_get items place))

-- one of the items of a sample, of which there are to be 1 to 256
abbrev pub sample_plan : Place → List Val → Plan Val
sample_plan at items = if are_some items then item_plan items else Faults (Suite what.Bounds at)

-- Whether there is one more element, where there are so many: below the least number there is, and from there on it is asked.
abbrev pub more_plan : ℕ → ℕ → Plan Bool
more_plan least count = if nat_lt count least then Gives true else asked_flag 12

-- one more element where the answer is yes
abbrev pub element_if : Plan Val → Bool → Plan (Option Val)
element_if element more = if more then and_then element (λ value. Gives (Some value)) else Gives None

-- one more element, if there is one, in a part of its own with the question before it
abbrev pub element_plan : ℕ → Plan Val → ℕ → ℕ → Plan (Option Val)
element_plan label element least count = within label (and_then (more_plan least count) (element_if element))

-- these values as a list, where there is no further one
abbrev pub or_listed : List Val → (Val → Plan Val) → Option Val → Plan Val
or_listed values next (Some value) = next value
or_listed values next None = Gives (val.List values)

-- further elements behind these, while there is one more and room for so many
abbrev pub elements_plan : ℕ → Plan Val → ℕ → ℕ → List Val → Plan Val
elements_plan label element least zero values = Gives (val.List values)
elements_plan label element least (suc room) values = and_then (element_plan label element least (length values))
    (or_listed values (λ value. elements_plan label element least room (values ++ value ∷ [])))

abbrev pub list_plan : ℕ → Plan Val → Lengths → Plan Val
list_plan label element lengths = elements_plan label element lengths.least lengths.most []

-- a value in a part of its own, where the condition is true of it
abbrev pub try_plan : ℕ → Plan Val → (Val → Result Val Origin) → Plan (Option Val)
try_plan label inner condition =
    within label (and_then inner (λ value. by_value (condition value) (λ truth. Gives (if truth_of truth then Some value else None))))

-- the value, and where there is none another try
abbrev pub or_again : Plan Val → Option Val → Plan Val
or_again next (Some value) = Gives value
or_again next None = next

-- the first value in so many tries
abbrev pub tries_plan : Plan (Option Val) → ℕ → Plan Val
tries_plan attempt zero = Rejects
tries_plan attempt (suc tries) = and_then attempt (or_again (tries_plan attempt tries))

-- So many levels above its end it asks, and on true it is the second, in which `self` is this one level down in a span of its own.
abbrev pub recursive_plan : ℕ → Plan Val → (Plan Val → Plan Val) → ℕ → Plan Val
recursive_plan label first second zero = first
recursive_plan label first second (suc depth) =
    and_then (asked_flag 8) (λ deeper. if deeper then second (within label (recursive_plan label first second depth)) else first)
