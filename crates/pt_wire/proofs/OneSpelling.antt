-- A value has at most one spelling.
use Rattle.std.proofs.Common.{◌≡◌, ℕ, Bool, true, false, List, [], ◌∷◌, ◌++◌, sym, ap, subst, ◌∙◌, arith}
use Rattle.pt_choice.specs.declared.choice.Choice.{Choice}
use Rattle.pt_choice.specs.declared.choice.Choice.TheVariants as choice
use Rattle.pt_wire.specs.Leb128.{IsLeb128}
use Rattle.pt_wire.specs.Spelling.{Chained, Joined}
use Rattle.pt_wire.specs.Stored.{zigzag, Stored, StoredChoice, StoredOne}
use Rattle.pt_wire.specs.Printed.{PrintedBool, PrintedByte, PrintedNumber, PrintedPlaces, PrintedChoice, Printed}

one_chained : {A : Type 0} (Spells : A → List ℕ → Type 0) → ((value : A) (f g : List ℕ) → Spells value f → Spells value g → f ≡ g)
    → (list : List A) (a b : List ℕ) → Chained Spells list a → Chained Spells list b → a ≡ b
one_chained Spells one [] a b h k = h ∙ sym k
one_chained Spells one (first ∷ others) a b (front, rest, spelled, more, parts) (front', rest', spelled', more', parts') =
    parts ∙ ap (λ f. f ++ rest) (one first front front' spelled spelled') ∙ ap (λ r. front' ++ r) (one_chained Spells one others rest rest' more more') ∙ sym parts'

one_joined : {A : Type 0} (Spells : A → List ℕ → Type 0) (mark : ℕ) → ((value : A) (f g : List ℕ) → Spells value f → Spells value g → f ≡ g)
    → (list : List A) (a b : List ℕ) → Joined Spells mark list a → Joined Spells mark list b → a ≡ b
one_joined Spells mark one [] a b h k = absurd h
one_joined Spells mark one (only ∷ []) a b h k = one only a b h k
one_joined Spells mark one (first ∷ second ∷ others) a b (front, rest, spelled, more, parts) (front', rest', spelled', more', parts') =
    parts ∙ ap (λ f. f ++ mark ∷ rest) (one first front front' spelled spelled') ∙ ap (λ r. front' ++ mark ∷ r) (one_joined Spells mark one (second ∷ others) rest rest' more more') ∙ sym parts'

one_leb128 : (number : ℕ) (f g : List ℕ) → IsLeb128 number f → IsLeb128 number g → f ≡ g
one_leb128 number [] g h k = absurd h
one_leb128 number (b ∷ f) [] h k = absurd k
one_leb128 number (b ∷ []) (c ∷ []) (below, is) (below', is') = ap (λ d. d ∷ []) (sym is ∙ is')
one_leb128 number (b ∷ []) (c ∷ d ∷ g) (below, is) (low, high, small, positive, byte, whole, more) = absurd (omega arith)
one_leb128 number (b ∷ b' ∷ f) (c ∷ []) (low, high, small, positive, byte, whole, more) (below, is) = absurd (omega arith)
one_leb128 number (b ∷ b' ∷ f) (c ∷ c' ∷ g) (low, high, small, positive, byte, whole, more) (low', high', small', positive', byte', whole', more') =
    let lows : low ≡ low' = omega arith in
    let highs : high ≡ high' = omega arith in
    let first : b ≡ c = omega arith in
    let rest = one_leb128 high (b' ∷ f) (c' ∷ g) more (subst (λ n. IsLeb128 n (c' ∷ g)) (sym highs) more') in
    ap (λ x. x ∷ b' ∷ f) first ∙ ap (λ r. c ∷ r) rest

behind : (tag : ℕ) (f g a b : List ℕ) → f ≡ tag ∷ a → g ≡ tag ∷ b → a ≡ b → f ≡ g
behind tag f g a b h k e = h ∙ ap (λ t. tag ∷ t) e ∙ sym k

stored_choice : (c : Choice) (f g : List ℕ) → StoredChoice c f → StoredChoice c g → f ≡ g
stored_choice (choice.Bool false) f g h k = h ∙ sym k
stored_choice (choice.Bool true) f g h k = h ∙ sym k
stored_choice (choice.Int value) f g (held, is, spelled, small) (held', is', spelled', small') = behind 2 f g held held' is is' (one_leb128 (zigzag value) held held' spelled spelled')
stored_choice (choice.Bytes items) f g (held, is, counted) (held', is', counted') = behind 3 f g held held' is is' (counted.0 ∙ sym counted'.0)
stored_choice (choice.Text places) f g (held, is, counted) (held', is', counted') = behind 4 f g held held' is is' (counted.0 ∙ sym counted'.0)

pub old_spelling : (list : List Choice) (a b : List ℕ) → StoredOne list a → StoredOne list b → a ≡ b
old_spelling = one_chained StoredChoice stored_choice

pub stored_spelling : (list : List Choice) (a b : List ℕ) → Stored list a → Stored list b → a ≡ b
stored_spelling list a b (front, held, (form, small), spelled, parts) (front', held', (form', small'), spelled', parts') =
    parts ∙ ap (λ f. f ++ held) (form ∙ sym form') ∙ ap (λ h. front' ++ h) (old_spelling list held held' spelled spelled') ∙ sym parts'

printed_bool : (value : Bool) (f g : List ℕ) → PrintedBool value f → PrintedBool value g → f ≡ g
printed_bool false f g h k = h ∙ sym k
printed_bool true f g h k = h ∙ sym k

printed_places : (list a b : List ℕ) → PrintedPlaces list a → PrintedPlaces list b → a ≡ b
printed_places [] a b h k = h ∙ sym k
printed_places (place ∷ places) a b h k = one_joined (PrintedNumber 255) 46 (λ n f g h k. h.0 ∙ sym k.0) (place ∷ places) a b h k

printed_choice : (c : Choice) (f g : List ℕ) → PrintedChoice c f → PrintedChoice c g → f ≡ g
printed_choice (choice.Bool value) f g (held, is, h) (held', is', h') = behind 98 f g held held' is is' (printed_bool value held held' h h')
printed_choice (choice.Int value) f g (held, is, h) (held', is', h') = behind 105 f g held held' is is' (h.0 ∙ sym h'.0)
printed_choice (choice.Bytes bytes) f g (held, is, h) (held', is', h') = behind 120 f g held held' is is' (one_chained PrintedByte (λ byte a b x y. x.0 ∙ sym y.0) bytes held held' h.1 h'.1)
printed_choice (choice.Text places) f g (held, is, h) (held', is', h') = behind 116 f g held held' is is' (printed_places places held held' h.1 h'.1)

pub printed_spelling : (list : List Choice) (a b : List ℕ) → Printed list a → Printed list b → a ≡ b
printed_spelling [] a b h k = h ∙ sym k
printed_spelling (c ∷ cs) a b h k = one_joined PrintedChoice 32 printed_choice (c ∷ cs) a b h k
