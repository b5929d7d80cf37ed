-- Printed choices, behind the letters of their sorts, and lists of them.
use Rattle.std.proofs.Common.{◌≡◌, ◌≢◌, ℕ, suc, ◌+◌, ◌/◌, ◌%◌, ◌<◌, ◌≤◌, Bool, true, false, ℤ, pos, negsuc, List, [], ◌∷◌, ◌++◌, length, refl, sym, ap, subst, ◌∙◌, arith, length-append}
use Rattle.std.specs.Fmt.{decimal, digit_glyph}
use Rattle.std.proofs.lemmas.Bool.Decides.{nat_tests}
use Rattle.std.proofs.lemmas.Fmt.{decimal_injective, decimal_nonempty}
use Rattle.pt_choice.specs.declared.choice.Choice.{Choice}
use Rattle.pt_choice.specs.declared.choice.Choice.TheVariants as choice
use Rattle.pt_wire.specs.Spelling.{Among, Begins, Chained, FailsAt, Joined}
use Rattle.pt_choice.specs.Limits.{IsFew}
use Rattle.pt_wire.specs.Printed.{PrintedBool, PrintedInteger, PrintedByte, PrintedNumber, PrintedPlaces, PrintedChoice, Printed}
use Rattle.pt_wire.proofs.Chains.{one_chain}
use Rattle.pt_wire.proofs.Decimals.{digit_within}
use Rattle.pt_wire.proofs.Failing.{fails_at_end, fails_here, fails_behind, same_head}
use Rattle.pt_wire.proofs.JoinedTexts.{IsMarkable, Lacks, joined_more, one_joined}
use Rattle.pt_wire.proofs.PrintedBytes.{bytes_free}
use Rattle.pt_wire.proofs.PrintedPlaces.{digits_lack, places_markable}

-- one choice more at the end
pub printed_more : (list : List Choice) (c : Choice) (text front : List ℕ) → 0 < length list → Printed list text → PrintedChoice c front → Printed (list ++ c ∷ []) (text ++ 32 ∷ front)
printed_more [] c text front some printed one = absurd (omega arith)
printed_more (first ∷ others) c text front some printed one = joined_more PrintedChoice 32 first others c text front printed one

-- ---- where the text of a choice fails

pub choice_empty : (c : Choice) → PrintedChoice c [] → ⊥
choice_empty (choice.Bool value) (held, text, h) = cc
choice_empty (choice.Int value) (held, text, h) = cc
choice_empty (choice.Bytes bytes) (held, text, h) = cc
choice_empty (choice.Text places) (held, text, h) = cc

choice_begun : Begins PrintedChoice []
choice_begun = (choice.Bool false, 98 ∷ 102 ∷ [], (102 ∷ [], refl, refl))

pub choice_end : FailsAt PrintedChoice [] 0
choice_end = fails_at_end PrintedChoice choice_begun choice_empty

pub unknown_letter : (letter : ℕ) (others : List ℕ) → letter ≢ 98 → letter ≢ 105 → letter ≢ 120 → letter ≢ 116 → FailsAt PrintedChoice (letter ∷ others) 0
unknown_letter letter others no_b no_i no_x no_t = fails_here PrintedChoice letter others choice_begun none where
  none : (c : Choice) (rest : List ℕ) → PrintedChoice c (letter ∷ rest) → ⊥
  none (choice.Bool value) rest (held, text, h) = no_b cc
  none (choice.Int value) rest (held, text, h) = no_i cc
  none (choice.Bytes bytes) rest (held, text, h) = no_x cc
  none (choice.Text places) rest (held, text, h) = no_t cc

pub bool_behind : (text : List ℕ) (place : ℕ) → FailsAt PrintedBool text place → FailsAt PrintedChoice (98 ∷ text) (place + 1)
bool_behind text place = fails_behind PrintedBool PrintedChoice 98 text place choice.Bool (λ value rest h. (rest, refl, h)) from where
  from : (c : Choice) (rest : List ℕ) → PrintedChoice c (98 ∷ rest) → (value : Bool) × PrintedBool value rest
  from (choice.Bool value) rest (held, text, h) = let same : held ≡ rest = cc in (value, subst (PrintedBool value) same h)
  from (choice.Int value) rest (held, text, h) = absurd (omega (arith, same_head 98 105 rest held text))
  from (choice.Bytes bytes) rest (held, text, h) = absurd (omega (arith, same_head 98 120 rest held text))
  from (choice.Text places) rest (held, text, h) = absurd (omega (arith, same_head 98 116 rest held text))

pub integer_behind : (text : List ℕ) (place : ℕ) → FailsAt PrintedInteger text place → FailsAt PrintedChoice (105 ∷ text) (place + 1)
integer_behind text place = fails_behind PrintedInteger PrintedChoice 105 text place choice.Int (λ value rest h. (rest, refl, h)) from where
  from : (c : Choice) (rest : List ℕ) → PrintedChoice c (105 ∷ rest) → (value : ℤ) × PrintedInteger value rest
  from (choice.Bool value) rest (held, text, h) = absurd (omega (arith, same_head 105 98 rest held text))
  from (choice.Int value) rest (held, text, h) = let same : held ≡ rest = cc in (value, subst (PrintedInteger value) same h)
  from (choice.Bytes bytes) rest (held, text, h) = absurd (omega (arith, same_head 105 120 rest held text))
  from (choice.Text places) rest (held, text, h) = absurd (omega (arith, same_head 105 116 rest held text))

pub bytes_behind : (text : List ℕ) (place : ℕ) → FailsAt (Among IsFew (Chained PrintedByte)) text place → FailsAt PrintedChoice (120 ∷ text) (place + 1)
bytes_behind text place = fails_behind (Among IsFew (Chained PrintedByte)) PrintedChoice 120 text place choice.Bytes (λ bytes rest h. (rest, refl, h)) from where
  from : (c : Choice) (rest : List ℕ) → PrintedChoice c (120 ∷ rest) → (bytes : List ℕ) × Among IsFew (Chained PrintedByte) bytes rest
  from (choice.Bool value) rest (held, text, h) = absurd (omega (arith, same_head 120 98 rest held text))
  from (choice.Int value) rest (held, text, h) = absurd (omega (arith, same_head 120 105 rest held text))
  from (choice.Bytes bytes) rest (held, text, h) = let same : held ≡ rest = cc in (bytes, subst (Among IsFew (Chained PrintedByte) bytes) same h)
  from (choice.Text places) rest (held, text, h) = absurd (omega (arith, same_head 120 116 rest held text))

pub places_behind : (text : List ℕ) (place : ℕ) → FailsAt (Among IsFew PrintedPlaces) text place → FailsAt PrintedChoice (116 ∷ text) (place + 1)
places_behind text place = fails_behind (Among IsFew PrintedPlaces) PrintedChoice 116 text place choice.Text (λ places rest h. (rest, refl, h)) from where
  from : (c : Choice) (rest : List ℕ) → PrintedChoice c (116 ∷ rest) → (places : List ℕ) × Among IsFew PrintedPlaces places rest
  from (choice.Bool value) rest (held, text, h) = absurd (omega (arith, same_head 116 98 rest held text))
  from (choice.Int value) rest (held, text, h) = absurd (omega (arith, same_head 116 105 rest held text))
  from (choice.Bytes bytes) rest (held, text, h) = absurd (omega (arith, same_head 116 120 rest held text))
  from (choice.Text places) rest (held, text, h) = let same : held ≡ rest = cc in (places, subst (Among IsFew PrintedPlaces places) same h)

-- ---- no printed choice holds a space

Lacks-append : (mark : ℕ) (a b : List ℕ) → Lacks mark a → Lacks mark b → Lacks mark (a ++ b)
Lacks-append mark [] b h k = k
Lacks-append mark (x ∷ a) b h k = (h.0, Lacks-append mark a b h.1 k)

glyph_high : (value : ℕ) → 48 ≤ digit_glyph false value
glyph_high value = grind (arith, nat_tests)

bytes_lack : (bytes text : List ℕ) → Chained PrintedByte bytes text → Lacks 32 text
bytes_lack [] text nothing = subst (Lacks 32) (sym nothing) tt
bytes_lack (byte ∷ bytes) text (front, rest, (glyphs, small), more, parts) =
    let high = glyph_high (byte / 16) in
    let low = glyph_high (byte % 16) in
    subst (Lacks 32) (sym parts)
    (Lacks-append 32 front rest (subst (Lacks 32) (sym glyphs) ((λ e. omega arith), ((λ e. omega arith), tt))) (bytes_lack bytes rest more))

places_lack : (list text : List ℕ) → Joined (PrintedNumber 255) 46 list text → Lacks 32 text
places_lack [] text joined = absurd joined
places_lack (place ∷ []) text (is, small) = digits_lack 32 place text (omega arith) (omega arith) is
places_lack (place ∷ next ∷ places) text (front, rest, (is, small), more, parts) =
    subst (Lacks 32) (sym parts) (Lacks-append 32 front (46 ∷ rest) (digits_lack 32 place front (omega arith) (omega arith) is) ((λ e. omega arith), places_lack (next ∷ places) rest more))

integer_lacks : (value : ℤ) (text : List ℕ) → PrintedInteger value text → Lacks 32 text
integer_lacks (pos n) text (is, small) = digits_lack 32 n text small (omega arith) is
integer_lacks (negsuc n) text (is, small) = subst (Lacks 32) (sym is) ((λ e. omega arith), digits_lack 32 (suc n) (decimal (suc n)) small (omega arith) refl)

choice_lacks : (c : Choice) (text : List ℕ) → PrintedChoice c text → Lacks 32 text
choice_lacks (choice.Bool false) text (held, is, h) = subst (Lacks 32) (sym (is ∙ ap (λ t. 98 ∷ t) h)) ((λ e. omega arith), ((λ e. omega arith), tt))
choice_lacks (choice.Bool true) text (held, is, h) = subst (Lacks 32) (sym (is ∙ ap (λ t. 98 ∷ t) h)) ((λ e. omega arith), ((λ e. omega arith), tt))
choice_lacks (choice.Int value) text (held, is, h) = subst (Lacks 32) (sym is) ((λ e. omega arith), integer_lacks value held h)
choice_lacks (choice.Bytes bytes) text (held, is, h) = subst (Lacks 32) (sym is) ((λ e. omega arith), bytes_lack bytes held h.1)
choice_lacks (choice.Text []) text (held, is, h) = subst (Lacks 32) (sym (is ∙ ap (λ t. 116 ∷ t) h.1)) ((λ e. omega arith), tt)
choice_lacks (choice.Text (place ∷ places)) text (held, is, h) = subst (Lacks 32) (sym is) ((λ e. omega arith), places_lack (place ∷ places) held h.1)

-- ---- a text is that of one choice

one_integer : (v w : ℤ) (text : List ℕ) → PrintedInteger v text → PrintedInteger w text → v ≡ w
one_integer (pos m) (pos n) text (is, small) (is', small') = ap pos (decimal_injective m n small small' (sym is ∙ is'))
one_integer (pos m) (negsuc n) text (is, small) (is', small') = let range = digit_within m 45 [] (decimal (suc n)) small (sym is ∙ is') in absurd (omega arith)
one_integer (negsuc m) (pos n) text (is, small) (is', small') = let range = digit_within n 45 [] (decimal (suc m)) small' (sym is' ∙ is) in absurd (omega arith)
one_integer (negsuc m) (negsuc n) text (is, small) (is', small') =
    let digits : decimal (suc m) ≡ decimal (suc n) = cc in
    let same = decimal_injective (suc m) (suc n) small small' digits in
    ap negsuc (omega arith)

some_places : (list : List ℕ) → Joined (PrintedNumber 255) 46 list [] → ⊥
some_places [] joined = joined
some_places (place ∷ []) (is, small) = let some = decimal_nonempty place (omega arith) in omega (arith, ap length is)
some_places (place ∷ next ∷ places) (front, rest, one, more, parts) = omega (arith, ap length parts, length-append front (46 ∷ rest))

one_places : (a b text : List ℕ) → PrintedPlaces a text → PrintedPlaces b text → a ≡ b
one_places [] [] text h k = refl
one_places [] (place ∷ places) text h k = absurd (some_places (place ∷ places) (subst (Joined (PrintedNumber 255) 46 (place ∷ places)) h k))
one_places (place ∷ places) [] text h k = absurd (some_places (place ∷ places) (subst (Joined (PrintedNumber 255) 46 (place ∷ places)) k h))
one_places (place ∷ places) (place' ∷ places') text h k = one_joined (PrintedNumber 255) 46 places_markable (place ∷ places) (place' ∷ places') text h k

one_bool : (a b : Bool) (text : List ℕ) → PrintedBool a text → PrintedBool b text → a ≡ b
one_bool false false text h k = refl
one_bool false true text h k = absurd (omega (arith, same_head 102 116 [] [] (sym h ∙ k)))
one_bool true false text h k = absurd (omega (arith, same_head 116 102 [] [] (sym h ∙ k)))
one_bool true true text h k = refl

abbrev letter_of : Choice → ℕ
letter_of (choice.Bool value) = 98
letter_of (choice.Int value) = 105
letter_of (choice.Bytes bytes) = 120
letter_of (choice.Text places) = 116

letter_first : (c : Choice) (text : List ℕ) → PrintedChoice c text → (held : List ℕ) × (text ≡ letter_of c ∷ held)
letter_first (choice.Bool value) text (held, is, h) = (held, is)
letter_first (choice.Int value) text (held, is, h) = (held, is)
letter_first (choice.Bytes bytes) text (held, is, h) = (held, is)
letter_first (choice.Text places) text (held, is, h) = (held, is)

same_letter : (c d : Choice) (text : List ℕ) → PrintedChoice c text → PrintedChoice d text → letter_of c ≡ letter_of d
same_letter c d text h k =
    let a = letter_first c text h in
    let b = letter_first d text k in
    same_head (letter_of c) (letter_of d) a.0 b.0 (sym a.1 ∙ b.1)

one_choice : (c d : Choice) (text : List ℕ) → PrintedChoice c text → PrintedChoice d text → c ≡ d
one_choice (choice.Bool a) (choice.Bool b) text (held, is, h) (held', is', h') = let same : held' ≡ held = cc in ap choice.Bool (one_bool a b held h (subst (PrintedBool b) same h'))
one_choice (choice.Int a) (choice.Int b) text (held, is, h) (held', is', h') = let same : held' ≡ held = cc in ap choice.Int (one_integer a b held h (subst (PrintedInteger b) same h'))
one_choice (choice.Bytes a) (choice.Bytes b) text (held, is, h) (held', is', h') =
    let same : held' ≡ held = cc in ap choice.Bytes (one_chain PrintedByte bytes_free a b held h.1 (subst (Chained PrintedByte b) same h'.1))
one_choice (choice.Text a) (choice.Text b) text (held, is, h) (held', is', h') = let same : held' ≡ held = cc in ap choice.Text (one_places a b held h.1 (subst (PrintedPlaces b) same h'.1))
one_choice c d text h k = absurd (omega (arith, same_letter c d text h k))

-- choices can be told apart by the spaces
pub choices_markable : IsMarkable PrintedChoice 32
choices_markable = record { clean = choice_lacks; one = one_choice }

-- no choice begins with a minus
pub no_minus : (c : Choice) (rest : List ℕ) → PrintedChoice c (45 ∷ rest) → ⊥
no_minus (choice.Bool value) rest (held, text, h) = omega (arith, same_head 45 98 rest held text)
no_minus (choice.Int value) rest (held, text, h) = omega (arith, same_head 45 105 rest held text)
no_minus (choice.Bytes bytes) rest (held, text, h) = omega (arith, same_head 45 120 rest held text)
no_minus (choice.Text places) rest (held, text, h) = omega (arith, same_head 45 116 rest held text)
