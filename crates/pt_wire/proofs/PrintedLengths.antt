-- How long printed choices are.
use Rattle.std.proofs.Common.{ℕ, suc, ◌*◌, ◌<◌, ◌≤◌, true, false, ℤ, pos, negsuc, List, [], ◌∷◌, length, ap, arith, length-append}
use Rattle.std.proofs.Math.Nat.{mul-suc}
use Rattle.std.proofs.lemmas.Fmt.{length-decimal-le}
use Rattle.pt_choice.specs.declared.choice.Choice.{Choice}
use Rattle.pt_choice.specs.declared.choice.Choice.TheVariants as choice
use Rattle.pt_choice.specs.Limits.{IsFew}
use Rattle.pt_wire.specs.Spelling.{Chained, Joined}
use Rattle.pt_wire.specs.Printed.{PrintedByte, PrintedChoice, PrintedInteger, PrintedNumber, PrintedPlaces, Printed}

-- spellings one after the other, each of so many bytes at most
pub length-chained : {A : Type 0} (Spells : A → List ℕ → Type 0) (most : ℕ) → ((value : A) (text : List ℕ) → Spells value text → length text ≤ most)
    → (list : List A) (text : List ℕ) → Chained Spells list text → length text ≤ most * length list
length-chained Spells most each [] text none = omega (arith, ap length none)
length-chained Spells most each (first ∷ others) text (front, rest, one, more, parts) =
    let one_long = each first front one in
    let more_long = length-chained Spells most each others rest more in
    omega (arith, ap length parts, length-append front rest, mul-suc most (length others))

-- the same with a mark between each two: as if each had one byte more, and then one byte less
length-joined : {A : Type 0} (Spells : A → List ℕ → Type 0) (mark most : ℕ) → ((value : A) (text : List ℕ) → Spells value text → length text ≤ most)
    → (list : List A) (text : List ℕ) → Joined Spells mark list text → length text < suc most * length list
length-joined Spells mark most each [] text none = absurd none
length-joined Spells mark most each (only ∷ []) text one =
    let one_long = each only text one in
    omega (arith, mul-suc (suc most) 0)
length-joined Spells mark most each (first ∷ second ∷ others) text (front, rest, one, more, parts) =
    let one_long = each first front one in
    let more_long = length-joined Spells mark most each (second ∷ others) rest more in
    omega (arith, ap length parts, length-append front (mark ∷ rest), mul-suc (suc most) (length (second ∷ others)))

length-place : (place : ℕ) (text : List ℕ) → PrintedNumber 255 place text → length text ≤ 3
length-place place text (is, small) =
    let digits = length-decimal-le 3 place (omega arith) (omega arith) (omega arith) in
    omega (arith, ap length is)

length-places : (places text : List ℕ) → IsFew places → PrintedPlaces places text → length text ≤ 255
length-places [] text few none = omega (arith, ap length none)
length-places (first ∷ others) text few joined =
    let long = length-joined (PrintedNumber 255) 46 3 length-place (first ∷ others) text joined in
    omega arith

length-integer : (value : ℤ) (text : List ℕ) → PrintedInteger value text → length text ≤ 21
length-integer (pos n) text (is, small) =
    let digits = length-decimal-le 20 n (omega arith) (omega arith) (omega arith) in
    omega (arith, ap length is)
length-integer (negsuc n) text (is, small) =
    let digits = length-decimal-le 20 (suc n) (omega arith) (omega arith) (omega arith) in
    omega (arith, ap length is)

length-byte : (byte : ℕ) (text : List ℕ) → PrintedByte byte text → length text ≤ 2
length-byte byte text (is, small) = omega (arith, ap length is)

-- the longest is a text of 64 places of three digits
length-choice : (member : Choice) (text : List ℕ) → PrintedChoice member text → length text ≤ 256
length-choice (choice.Bool false) text (held, is, letter) = omega (arith, ap length is, ap length letter)
length-choice (choice.Bool true) text (held, is, letter) = omega (arith, ap length is, ap length letter)
length-choice (choice.Int value) text (held, is, integer) =
    let long = length-integer value held integer in
    omega (arith, ap length is)
length-choice (choice.Bytes bytes) text (held, is, (few, chained)) =
    let long = length-chained PrintedByte 2 length-byte bytes held chained in
    omega (arith, ap length is)
length-choice (choice.Text places) text (held, is, (few, printed)) =
    let long = length-places places held few printed in
    omega (arith, ap length is)

-- 256 choices of 256 bytes, and 255 spaces
pub length-printed : (list : List Choice) (text : List ℕ) → Printed list text → length list ≤ 256 → length text ≤ 65791
length-printed [] text is few = omega (arith, ap length is)
length-printed (first ∷ others) text joined few =
    let long = length-joined PrintedChoice 32 256 length-choice (first ∷ others) text joined in
    omega arith
