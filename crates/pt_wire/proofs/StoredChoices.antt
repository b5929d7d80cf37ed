-- A stored choice, behind the byte of its sort.
use Rattle.std.proofs.Common.{◌≡◌, ℕ, ◌+◌, ◌-◌, ◌/◌, ◌%◌, ◌^◌, ◌<◌, ◌≤◌, true, false, ℤ, pos, negsuc, unsigned_abs, List, [], ◌∷◌, ◌++◌, length, take, drop, replicate, refl, sym, ap, subst, ◌∙◌, inl, inr, arith, length-append}
use Rattle.std.specs.List.{AllByRecursion}
use Rattle.std.proofs.lemmas.Bool.{cases_lt}
use Rattle.std.proofs.lemmas.List.{append-nil, length-replicate, take_all, take_at, take-append-drop, length-take}
use Rattle.pt_choice.specs.declared.choice.Choice.{Choice}
use Rattle.pt_choice.specs.declared.choice.Choice.TheVariants as choice
use Rattle.pt_wire.specs.Spelling.{Begins, FailsAt, Splits, StartsWith}
use Rattle.pt_wire.specs.Leb128.{IsLeb128, IsLeb128Within}
use Rattle.pt_wire.proofs.Leb128Groups.{one_number}
use Rattle.pt_wire.specs.Stored.{zigzag, IsCounted, StoredChoice}
use Rattle.pt_wire.proofs.Bytes.{bytes_then_zeros, bytes-take}
use Rattle.pt_wire.proofs.Chains.{IsPrefixFree}
use Rattle.pt_wire.proofs.Failing.{fails_at_end, fails_here, fails_behind, starts_behind, starts_with_byte, begins_spelled}

-- no choice is spelled by no bytes
pub choice_empty : (c : Choice) → StoredChoice c [] → ⊥
choice_empty (choice.Bool false) h = cc
choice_empty (choice.Bool true) h = cc
choice_empty (choice.Int value) (held, parts, spelled, small) = cc
choice_empty (choice.Bytes items) (held, parts, counted) = cc
choice_empty (choice.Text places) (held, parts, counted) = cc

begun : Begins (StartsWith StoredChoice) []
begun = begins_spelled StoredChoice (choice.Bool false) (0 ∷ []) refl

-- where there are no bytes
pub choice_end : FailsAt (StartsWith StoredChoice) [] 0
choice_end = fails_at_end (StartsWith StoredChoice) begun none where
  none : (c : Choice) → StartsWith StoredChoice c [] → ⊥
  none c (after, ([], spelled, parts)) = choice_empty c spelled
  none c (after, (first ∷ front, spelled, parts)) = absurd cc

-- there is no fifth sort
no_sort : (byte : ℕ) (c : Choice) (rest : List ℕ) → 4 < byte → StoredChoice c (byte ∷ rest) → ⊥
no_sort byte (choice.Bool false) rest great h = let same : byte ≡ 0 = cc in omega arith
no_sort byte (choice.Bool true) rest great h = let same : byte ≡ 1 = cc in omega arith
no_sort byte (choice.Int value) rest great (held, parts, spelled, small) = let same : byte ≡ 2 = cc in omega arith
no_sort byte (choice.Bytes items) rest great (held, parts, counted) = let same : byte ≡ 3 = cc in omega arith
no_sort byte (choice.Text places) rest great (held, parts, counted) = let same : byte ≡ 4 = cc in omega arith

pub unknown_sort : (byte : ℕ) (bytes : List ℕ) → 4 < byte → FailsAt (StartsWith StoredChoice) (byte ∷ bytes) 0
unknown_sort byte bytes great = fails_here (StartsWith StoredChoice) byte bytes begun none where
  none : (c : Choice) (rest : List ℕ) → StartsWith StoredChoice c (byte ∷ rest) → ⊥
  none c rest (after, ([], spelled, parts)) = choice_empty c spelled
  none c rest (after, (first ∷ front, spelled, parts)) =
      let same : first ≡ byte = cc in
      no_sort byte c front great (subst (λ b. StoredChoice c (b ∷ front)) same spelled)

-- ---- integers

-- each number stands for an integer
integer_of : (number : ℕ) → (value : ℤ) × (zigzag value ≡ number) × (number ≤ 2 ^ 65 - 2 → unsigned_abs value < 2 ^ 64)
integer_of number = elim (cases_lt 0 (number % 2)) [
  | inl odd ↦ (negsuc (number / 2), omega arith, λ small. omega arith)
  | inr even ↦ (pos (number / 2), omega arith, λ small. omega arith)
]

-- the number of an integer of small magnitude
pub number_small : (value : ℤ) → unsigned_abs value < 2 ^ 64 → zigzag value ≤ 2 ^ 65 - 2
number_small (pos n) small = omega arith
number_small (negsuc n) small = omega arith

abbrev Number : ℕ → List ℕ → Type 0
Number = IsLeb128Within 0 (2 ^ 65 - 2)

to_integer : (number : ℕ) (rest : List ℕ) → Number number rest → StoredChoice (choice.Int (integer_of number).0) (2 ∷ rest)
to_integer number rest (spelled, least, most) =
    let value = integer_of number in
    (rest, refl, subst (λ n. IsLeb128 n rest) (sym value.1) spelled, value.2 most)

from_integer : (c : Choice) (rest : List ℕ) → StoredChoice c (2 ∷ rest) → (number : ℕ) × Number number rest
from_integer (choice.Bool false) rest h = absurd cc
from_integer (choice.Bool true) rest h = absurd cc
from_integer (choice.Int value) rest (held, parts, spelled, small) =
    let same : held ≡ rest = cc in
    (zigzag value, (subst (IsLeb128 (zigzag value)) same spelled, omega arith, number_small value small))
from_integer (choice.Bytes items) rest (held, parts, counted) = absurd cc
from_integer (choice.Text places) rest (held, parts, counted) = absurd cc

pub integer_behind : (bytes : List ℕ) (place : ℕ) → FailsAt (StartsWith Number) bytes place → FailsAt (StartsWith StoredChoice) (2 ∷ bytes) (place + 1)
integer_behind bytes place =
    let out : ℕ → Choice = λ number. choice.Int (integer_of number).0 in
    fails_behind (StartsWith Number) (StartsWith StoredChoice) 2 bytes place out
    (starts_behind Number StoredChoice 2 out to_integer)
    (starts_with_byte Number StoredChoice 2 choice_empty from_integer)

-- ---- bytes and places

pub bytes_behind : (bytes : List ℕ) (place : ℕ) → FailsAt (StartsWith IsCounted) bytes place → FailsAt (StartsWith StoredChoice) (3 ∷ bytes) (place + 1)
bytes_behind bytes place =
    fails_behind (StartsWith IsCounted) (StartsWith StoredChoice) 3 bytes place choice.Bytes
    (starts_behind IsCounted StoredChoice 3 choice.Bytes (λ items rest counted. (rest, refl, counted)))
    (starts_with_byte IsCounted StoredChoice 3 choice_empty from) where
      from : (c : Choice) (rest : List ℕ) → StoredChoice c (3 ∷ rest) → (items : List ℕ) × IsCounted items rest
      from (choice.Bool false) rest h = absurd cc
      from (choice.Bool true) rest h = absurd cc
      from (choice.Int value) rest (held, parts, spelled, small) = absurd cc
      from (choice.Bytes items) rest (held, parts, counted) = let same : held ≡ rest = cc in (items, subst (IsCounted items) same counted)
      from (choice.Text places) rest (held, parts, counted) = absurd cc

pub places_behind : (bytes : List ℕ) (place : ℕ) → FailsAt (StartsWith IsCounted) bytes place → FailsAt (StartsWith StoredChoice) (4 ∷ bytes) (place + 1)
places_behind bytes place =
    fails_behind (StartsWith IsCounted) (StartsWith StoredChoice) 4 bytes place choice.Text
    (starts_behind IsCounted StoredChoice 4 choice.Text (λ items rest counted. (rest, refl, counted)))
    (starts_with_byte IsCounted StoredChoice 4 choice_empty from) where
      from : (c : Choice) (rest : List ℕ) → StoredChoice c (4 ∷ rest) → (items : List ℕ) × IsCounted items rest
      from (choice.Bool false) rest h = absurd cc
      from (choice.Bool true) rest h = absurd cc
      from (choice.Int value) rest (held, parts, spelled, small) = absurd cc
      from (choice.Bytes items) rest (held, parts, counted) = absurd cc
      from (choice.Text places) rest (held, parts, counted) = let same : held ≡ rest = cc in (places, subst (IsCounted places) same counted)

-- ---- a count and so many bytes

counted_empty : (items : List ℕ) → IsCounted items [] → ⊥
counted_empty items (parts, short) = cc

counted_begun : Begins (StartsWith IsCounted) []
counted_begun = begins_spelled IsCounted [] (0 ∷ []) (refl, (omega arith, tt))

pub counted_end : FailsAt (StartsWith IsCounted) [] 0
counted_end = fails_at_end (StartsWith IsCounted) counted_begun none where
  none : (items : List ℕ) → StartsWith IsCounted items [] → ⊥
  none items (after, ([], spelled, parts)) = counted_empty items spelled
  none items (after, (first ∷ front, spelled, parts)) = absurd cc

-- how many bytes a count needs behind it
counted_long : (count : ℕ) (items rest : List ℕ) → StartsWith IsCounted items (count ∷ rest) → (count ≤ 64) × (count ≤ length rest)
counted_long count items rest (after, ([], spelled, parts)) = absurd (counted_empty items spelled)
counted_long count items rest (after, (first ∷ front, (form, (few, each)), parts)) =
    let counts : length items ≡ count = cc in
    let others : rest ≡ items ++ after = cc in
    (omega arith, omega (arith, ap length others, length-append items after))

pub count_too_great : (count : ℕ) (bytes : List ℕ) → 64 < count → FailsAt (StartsWith IsCounted) (count ∷ bytes) 0
count_too_great count bytes great = fails_here (StartsWith IsCounted) count bytes counted_begun (λ items rest h. let long = counted_long count items rest h in omega arith)

-- a count with too few bytes behind it
pub counted_short : (count : ℕ) (bytes : List ℕ) → count ≤ 64 → length bytes < count → AllByRecursion (λ byte. byte < 256) bytes → FailsAt (StartsWith IsCounted) (count ∷ bytes) (length (count ∷ bytes))
counted_short count bytes few short each = record {
  none = λ items h. let long = counted_long count items bytes h in omega arith;
  within = omega arith;
  begun =
      let missing = replicate (count - length bytes) 0 in
      let items = bytes ++ missing in
      let counts : length items ≡ count = omega (arith, length-append bytes missing, length-replicate {A = ℕ} (count - length bytes) 0) in
      rw (take_all (length bytes) bytes (omega arith)) (items, missing, ([], (count ∷ items, (ap (λ n. n ∷ items) (sym counts), (omega arith, bytes_then_zeros (count - length bytes) bytes each)), sym (append-nil (count ∷ items)))));
  broken = λ lt. absurd (omega arith);
}

-- a count with enough bytes behind it
pub counted_split : (count : ℕ) (bytes items after : List ℕ) → count ≤ 64 → count ≤ length bytes → AllByRecursion (λ byte. byte < 256) bytes → items ≡ take count bytes → after ≡ drop count bytes
    → Splits IsCounted items (count ∷ bytes) after
counted_split count bytes items after few long each front back =
    let counts : length items ≡ count = ap length front ∙ omega (arith, length-take count bytes) in
    let whole : items ++ after ≡ bytes = rw (front, back) (take-append-drop count bytes) in
    (count ∷ items, (ap (λ n. n ∷ items) (sym counts), (omega arith, rw front (bytes-take count bytes each))), ap (λ (rest : List ℕ). count ∷ rest) (sym whole))

-- ---- one choice at the front of any bytes

zigzag_injective : (v w : ℤ) → zigzag v ≡ zigzag w → v ≡ w
zigzag_injective (pos m) (pos n) e = ap pos (omega arith)
zigzag_injective (pos m) (negsuc n) e = absurd (omega arith)
zigzag_injective (negsuc m) (pos n) e = absurd (omega arith)
zigzag_injective (negsuc m) (negsuc n) e = ap negsuc (omega arith)

same_front : (a b x y : List ℕ) → length a ≡ length b → a ++ x ≡ b ++ y → a ≡ b
same_front a b x y len e = sym (take_at a x (length a) refl) ∙ ap (take (length a)) e ∙ take_at b y (length a) (sym len)

one_counted : (a b f g x y : List ℕ) → IsCounted a f → IsCounted b g → f ++ x ≡ g ++ y → (a ≡ b) × (f ≡ g)
one_counted a b [] g x y (form, short) k e = absurd cc
one_counted a b (m ∷ f) [] x y h (form, short) e = absurd cc
one_counted a b (m ∷ f) (n ∷ g) x y (form, short) (form', short') e =
    let len : length a ≡ length b = cc in
    let behind : a ++ x ≡ b ++ y = cc in
    let same = same_front a b x y len behind in
    (same, cc)

-- no spelling of a choice begins another
pub one_choice : (c d : Choice) (f g x y : List ℕ) → StoredChoice c f → StoredChoice d g → f ++ x ≡ g ++ y → (c ≡ d) × (f ≡ g)
one_choice (choice.Bool false) (choice.Bool false) f g x y h k e = (refl, cc)
one_choice (choice.Bool true) (choice.Bool true) f g x y h k e = (refl, cc)
one_choice (choice.Int v) (choice.Int w) f g x y (held, form, spelled, small) (held', form', spelled', small') e =
    let behind : held ++ x ≡ held' ++ y = cc in
    let same = one_number (zigzag v) (zigzag w) held held' x y spelled spelled' behind in
    let rest = same.1 in
    (ap choice.Int (zigzag_injective v w same.0), cc)
one_choice (choice.Bytes a) (choice.Bytes b) f g x y (held, form, counted) (held', form', counted') e =
    let behind : held ++ x ≡ held' ++ y = cc in
    let same = one_counted a b held held' x y counted counted' behind in
    let rest = same.1 in
    (ap choice.Bytes same.0, cc)
one_choice (choice.Text a) (choice.Text b) f g x y (held, form, counted) (held', form', counted') e =
    let behind : held ++ x ≡ held' ++ y = cc in
    let same = one_counted a b held held' x y counted counted' behind in
    let rest = same.1 in
    (ap choice.Text same.0, cc)
one_choice (choice.Bool false) d f g x y h k e = absurd cc
one_choice (choice.Bool true) d f g x y h k e = absurd cc
one_choice c (choice.Bool false) f g x y h k e = absurd cc
one_choice c (choice.Bool true) f g x y h k e = absurd cc
one_choice c d f g x y h k e = absurd cc

pub choices_free : IsPrefixFree StoredChoice
choices_free = record { empty = choice_empty; one = one_choice }
