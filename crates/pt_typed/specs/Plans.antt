-- What is done to draw a value, strategy by strategy. Each draws in a span of its own label.
use Rattle.std.specs.Prelude.{ℕ, zero, suc, ◌-◌, ℤ, pos, negsuc, ◌+ℤ◌, ◌-ℤ◌, int_lt, nat_lt, Bool, true, Option, Some, None, List, [], ◌∷◌, ◌++◌, length, map, slice_get, slice_index, if◌then◌else◌}
use Rattle.pt_choice.specs.declared.choice.Choice.{Choice}
use Rattle.pt_choice.specs.declared.choice.Choice.TheVariants as choice
use Rattle.pt_choice.specs.declared.kind.Shape.TheVariants as kind
use Rattle.pt_val.specs.declared.val.Val.{Val}
use Rattle.pt_val.specs.declared.val.Val.TheVariants as val
use Rattle.pt_plan.specs.Asked.{asked_flag, asked_integer}
use Rattle.pt_plan.specs.Plan.{Plan, Gives, Rejects, Asks, Enters, Leaves, and_then, within}
use Rattle.pt_typed.specs.Shown.{pair_of}

-- the number nearest to 0 of those between two bounds
abbrev pub nearest : ℤ → ℤ → ℤ
nearest lo hi = if int_lt (pos 0) lo then lo else (if int_lt hi (pos 0) then hi else pos 0)

-- an integer between two bounds, as a distance from the nearest to 0
abbrev pub ints_plan : ℤ → ℤ → Plan Val
ints_plan lo hi = within 1 (and_then (asked_integer (lo -ℤ nearest lo hi) (hi -ℤ nearest lo hi)) (λ distance. Gives (val.Int (nearest lo hi +ℤ distance))))

-- a fair boolean
abbrev pub bools_plan : Plan Val
bools_plan = within 2 (and_then (asked_flag 8) (λ flag. Gives (val.Bool flag)))

-- the places of a text, where the choice is one
abbrev pub places_in : Choice → List ℕ
places_in (choice.Text places) = places
places_in _ = []

-- the bytes of a choice, where it is of bytes
abbrev pub bytes_in : Choice → List ℕ
bytes_in (choice.Bytes bytes) = bytes
bytes_in _ = []

-- the characters of an alphabet at these places
abbrev pub chars_at : List ℕ → List ℕ → List ℕ
chars_at alphabet places = map (λ place. slice_index alphabet place) places

-- a text of so many characters of the alphabet
abbrev pub texts_plan : List ℕ → ℕ → ℕ → Plan Val
texts_plan alphabet min max =
    within 3 (Asks (kind.Text min max (length alphabet)) (λ answer. Gives (val.Text (chars_at alphabet (places_in answer)))))

-- so many bytes
abbrev pub blobs_plan : ℕ → ℕ → Plan Val
blobs_plan min max = within 4 (Asks (kind.Bytes min max) (λ answer. Gives (val.Bytes (bytes_in answer))))

-- the number of an integer that is not negative
abbrev pub count_of : ℤ → ℕ
count_of (pos count) = count
count_of (negsuc less) = 0

-- the item, where there is one
abbrev pub given : Option Val → Plan Val
given (Some value) = Gives value
given None = Rejects

-- one of the items, by its number
abbrev pub sampled_plan : List Val → Plan Val
sampled_plan items = within 5 (and_then (asked_integer (pos 0) (pos (length items - 1))) (λ number. given (slice_get items (count_of number))))

-- Whether there is one more element, where there are so many: below the least number there is, and from there on it is asked.
abbrev pub more_plan : ℕ → ℕ → Plan Bool
more_plan least count = if nat_lt count least then Gives true else asked_flag 12

-- one more element where the answer is yes
abbrev pub element_if : Plan Val → Bool → Plan (Option Val)
element_if element more = if more then and_then element (λ value. Gives (Some value)) else Gives None

-- one more element, if there is one, in a span of its own with the question before it
abbrev pub element_plan : Plan Val → ℕ → ℕ → Plan (Option Val)
element_plan element least count = within 7 (and_then (more_plan least count) (element_if element))

-- these values as a list, where there is no further one
abbrev pub or_listed : List Val → (Val → Plan Val) → Option Val → Plan Val
or_listed values next (Some value) = next value
or_listed values next None = Gives (val.List values)

-- further elements behind these, while there is one more and room for so many
abbrev pub elements_plan : Plan Val → ℕ → ℕ → List Val → Plan Val
elements_plan element least zero values = Gives (val.List values)
elements_plan element least (suc room) values = and_then (element_plan element least (length values))
    (or_listed values (λ value. elements_plan element least room (values ++ value ∷ [])))

-- a list of so many elements
abbrev pub list_plan : Plan Val → ℕ → ℕ → Plan Val
list_plan element least most = within 6 (elements_plan element least most [])

-- the one and then the other, as a pair
abbrev pub pair_plan : Plan Val → Plan Val → Plan Val
pair_plan first second = within 8 (and_then first (λ one. and_then second (λ other. Gives (pair_of one other))))

-- the one where the choice is 0, and else the other
abbrev pub either_plan : Plan Val → Plan Val → ℤ → Plan Val
either_plan first second which = if int_lt (pos 0) which then second else first

-- one of the two
abbrev pub one_of_plan : Plan Val → Plan Val → Plan Val
one_of_plan first second = within 9 (and_then (asked_integer (pos 0) (pos 1)) (either_plan first second))

-- the image of a value
abbrev pub map_plan : Plan Val → (Val → Val) → Plan Val
map_plan inner image = within 10 (and_then inner (λ value. Gives (image value)))

-- Up to so many tries, each in a span of its own: the first value that is wanted is taken, and where there is none it rejects.
abbrev pub tries_plan : Plan Val → (Val → Bool) → ℕ → Plan Val
tries_plan inner wanted zero = Rejects
tries_plan inner wanted (suc tries) =
    Enters 13 (and_then inner (λ value. Leaves (if wanted value then Gives value else tries_plan inner wanted tries)))

-- a value that is wanted, in three tries
abbrev pub filter_plan : Plan Val → (Val → Bool) → Plan Val
filter_plan inner wanted = within 11 (tries_plan inner wanted 3)

-- a value of the strategy that a first value leads to
abbrev pub flat_map_plan : Plan Val → (Val → Plan Val) → Plan Val
flat_map_plan inner next = within 12 (and_then inner next)
