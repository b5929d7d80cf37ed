-- Characters of a text, as they are read.
use Rattle.std.proofs.Common.{◌≡◌, ◌⊎◌, ℕ, Bool, true, false, ◌==◌, ◌&&◌, ◌||◌, if◌then◌else◌, ◌≤◌, ◌<◌, ◌+◌, ◌*◌, ◌^◌, nat_lt, List, [], ◌∷◌, ◌++◌, length, Option, Some, None, MatchOption, inl, inr, refl, sym, ap, subst, ◌∙◌, append_assoc, arith}
use Rattle.std.specs.Borrow.{Bor}
use Rattle.std.specs.Char.{IsScalar}
use Rattle.std.specs.List.{list_all}
use Rattle.std.proofs.Math.Nat.{pow-le-pow_right}
use Rattle.pt_wire.specs.Spelling.{Splits}
use Rattle.pt_lex.specs.Texts.{IsCode, SpellsChar, hex_on, hex_value, is_hex, is_plain}
use Rattle.pt_lex.specs.reading.Text.{code_on}
use Rattle.pt_lex.proofs.Fronts.{and_left, and_right}

abbrev Code : Type 0
Code = Option (ℕ × List ℕ)

number_of : Code → ℕ
number_of None = 0
number_of (Some x) = x.0

rest_of : Code → List ℕ
rest_of None = []
rest_of (Some x) = x.1

some_same : (m n : ℕ) (x y : List ℕ) → ◌≡◌ {A = Code} (Some (m, x)) (Some (n, y)) → (m ≡ n) × (x ≡ y)
unfolding number_of rest_of
some_same m n x y e = (ap number_of e, ap rest_of e)

-- what is read is digits up to a brace
pub record Digits (count front : ℕ) (text : List ℕ) (code : ℕ) (rest : List ℕ) : Type 0 where
  pub digits : List ℕ
  pub all : list_all is_hex digits ≡ true
  pub some : 1 ≤ count + length digits
  pub few : count + length digits ≤ 6
  pub value : code ≡ hex_on front digits
  pub parts : text ≡ digits ++ 125 ∷ rest

if_yes : (b : Bool) (x y : Code) → b ≡ true → (if b then x else y) ≡ x
if_yes true x y e = refl
if_yes false x y e = absurd cc

if_no : (b : Bool) (x y : Code) → b ≡ false → (if b then x else y) ≡ y
if_no true x y e = absurd cc
if_no false x y e = refl

all_more : (digit : ℕ) (digits : List ℕ) → is_hex digit ≡ true → list_all is_hex digits ≡ true → list_all is_hex (digit ∷ digits) ≡ true
all_more digit digits one others = rw (one, others) refl

code_sound : (count front : ℕ) (text : List ℕ) (code : ℕ) (rest : List ℕ) → count ≤ 6 → code_on count front text ≡ Some (code, rest) → Digits count front text code rest
code_sound count front [] code rest le e = absurd cc
code_sound count front (char ∷ text) code rest le e = cases (char == 125 && nat_lt 0 count) (count == 6) (is_hex char) (code_sound (count + 1) (16 * front + hex_value char) text code rest) refl refl refl e where
  further : Code
  further = if is_hex char then code_on (count + 1) (16 * front + hex_value char) text else None

  behind : Code
  behind = if count == 6 then None else further

  cases : (b f h : Bool) → (count + 1 ≤ 6 → code_on (count + 1) (16 * front + hex_value char) text ≡ Some (code, rest) → Digits (count + 1) (16 * front + hex_value char) text code rest)
      → (char == 125 && nat_lt 0 count) ≡ b → (count == 6) ≡ f → is_hex char ≡ h → (if char == 125 && nat_lt 0 count then Some (front, text) else behind) ≡ Some (code, rest)
      → Digits count front (char ∷ text) code rest
  cases true f h more b_is f_is h_is e =
      let both = some_same front code text rest (sym (if_yes (char == 125 && nat_lt 0 count) (Some (front, text)) behind b_is) ∙ e) in
      let brace : char ≡ 125 = grind (arith, b_is) in
      let any : 1 ≤ count = grind (arith, b_is) in
      record { digits = []; all = refl; some = omega arith; few = omega arith; value = sym both.0; parts = ap (λ c. c ∷ text) brace ∙ ap (λ r. 125 ∷ r) both.1 }
  cases false true h more b_is f_is h_is e =
      let none : ◌≡◌ {A = Code} None (Some (code, rest)) = sym (if_no (char == 125 && nat_lt 0 count) (Some (front, text)) behind b_is ∙ if_yes (count == 6) None further f_is) ∙ e in absurd cc
  cases false false true more b_is f_is h_is e =
      let short : count + 1 ≤ 6 = grind (arith, f_is, le) in
      let d = more short (sym (if_no (char == 125 && nat_lt 0 count) (Some (front, text)) behind b_is ∙ if_no (count == 6) None further f_is
      ∙ if_yes (is_hex char) (code_on (count + 1) (16 * front + hex_value char) text) None h_is) ∙ e) in
      record { digits = char ∷ d.digits; all = all_more char d.digits h_is d.all; some = omega arith; few = omega (arith, d.few); value = d.value; parts = ap (λ t. char ∷ t) d.parts }
  cases false false false more b_is f_is h_is e =
      let none : ◌≡◌ {A = Code} None (Some (code, rest)) = sym (if_no (char == 125 && nat_lt 0 count) (Some (front, text)) behind b_is ∙ if_no (count == 6) None further f_is
      ∙ if_no (is_hex char) (code_on (count + 1) (16 * front + hex_value char) text) None h_is) ∙ e in absurd cc

brace_ends : (count : ℕ) → 1 ≤ count → (125 == 125 && nat_lt 0 count) ≡ true
brace_ends count le = grind (arith, le)

no_brace : (digit count : ℕ) → is_hex digit ≡ true → (digit == 125 && nat_lt 0 count) ≡ false
no_brace digit count e = grind (arith, e)

not_full : (count : ℕ) → count + 1 ≤ 6 → (count == 6) ≡ false
not_full count le = grind (arith, le)

code_complete : (count front : ℕ) (digits rest : List ℕ) → list_all is_hex digits ≡ true → 1 ≤ count + length digits → count + length digits ≤ 6
    → code_on count front (digits ++ 125 ∷ rest) ≡ Some (hex_on front digits, rest)
code_complete count front [] rest all some few = rw (brace_ends count (omega arith)) refl
code_complete count front (digit ∷ digits) rest all some few =
    let hex = and_left (is_hex digit) (list_all is_hex digits) all in
    let text = digits ++ 125 ∷ rest in
    let next : Code = code_on (count + 1) (16 * front + hex_value digit) text in
    if_no (digit == 125 && nat_lt 0 count) (Some (front, text)) (if count == 6 then None else if is_hex digit then next else None) (no_brace digit count hex)
    ∙ if_no (count == 6) None (if is_hex digit then next else None) (not_full count (omega arith))
    ∙ if_yes (is_hex digit) next None hex
    ∙ code_complete (count + 1) (16 * front + hex_value digit) digits rest (and_right (is_hex digit) (list_all is_hex digits) all) (omega arith) (omega arith)

tail_same : (a b : ℕ) (xs ys : List ℕ) → a ∷ xs ≡ b ∷ ys → xs ≡ ys
tail_same a b xs ys e = cc

heads : (a b : ℕ) (xs ys : List ℕ) → a ∷ xs ≡ b ∷ ys → a ≡ b
heads a b xs ys e = cc

-- a code that stands there is what is read
code_read : (char : ℕ) (text rest : List ℕ) → Splits IsCode char (123 ∷ text) rest → (code_on 0 0 text ≡ Some (char, rest)) × IsScalar char
code_read char text rest (front, (digits, all, some, few, value, scalar, whole), parts) =
    let e : text ≡ digits ++ 125 ∷ rest = tail_same 123 123 text (digits ++ 125 ∷ rest) (parts ∙ ap (λ f. f ++ rest) whole ∙ ap (λ d. 123 ∷ d) (append_assoc digits (125 ∷ []) rest)) in
    (ap (code_on 0 0) e ∙ code_complete 0 0 digits rest all (omega (arith, some)) (omega (arith, few)) ∙ ap (λ n. Some (n, rest)) (sym value), scalar)

pub code_there : (text : List ℕ) (code : ℕ) (rest : List ℕ) → code_on 0 0 text ≡ Some (code, rest) → IsScalar code → Splits IsCode code (123 ∷ text) rest
code_there text code rest e scalar =
    let d = code_sound 0 0 text code rest (omega arith) e in
    (123 ∷ d.digits ++ 125 ∷ [], (d.digits, d.all, omega (arith, d.some), omega (arith, d.few), d.value, scalar, refl), ap (λ t. 123 ∷ t) (d.parts ∙ sym (append_assoc d.digits (125 ∷ []) rest)))

pub no_code_there : (text : List ℕ) → code_on 0 0 text ≡ None → (char : ℕ) (rest : List ℕ) → Splits IsCode char (123 ∷ text) rest → ⊥
no_code_there text e char rest there = let h : ◌≡◌ {A = Code} None (Some (char, rest)) = sym e ∙ (code_read char text rest there).0 in absurd cc

pub no_scalar_there : (text : List ℕ) (code : ℕ) (after : List ℕ) → code_on 0 0 text ≡ Some (code, after) → (IsScalar code → ⊥) → (char : ℕ) (rest : List ℕ) → Splits IsCode char (123 ∷ text) rest → ⊥
no_scalar_there text code after e denied char rest there =
    let read = code_read char text rest there in
    denied (subst IsScalar (sym (some_same code char after rest (sym e ∙ read.0)).0) read.1)

-- a character of a text, by how it is written
pub plain_there : (char : ℕ) (rest : List ℕ) → is_plain char ≡ true → Splits SpellsChar char (char ∷ rest) rest
plain_there char rest plain = (char ∷ [], inl (plain, refl), refl)

pub quoted_there : (char : ℕ) (rest : List ℕ) → (char == 34 || char == 92) ≡ true → Splits SpellsChar char (92 ∷ char ∷ rest) rest
quoted_there char rest quoted = (92 ∷ char ∷ [], inr (inl (quoted, refl)), refl)

pub coded_there : (char : ℕ) (text rest : List ℕ) → Splits IsCode char text rest → Splits SpellsChar char (92 ∷ 117 ∷ text) rest
coded_there char text rest (front, spelled, parts) = (92 ∷ 117 ∷ front, inr (inr (front, spelled, refl)), ap (λ t. 92 ∷ 117 ∷ t) parts)

-- behind a backslash
pub data Escaped (char : ℕ) (text rest : List ℕ) : Type 0 where
  Itself : (char == 34 || char == 92) ≡ true → text ≡ char ∷ rest → Escaped char text rest
  ByCode : (code : List ℕ) → text ≡ 117 ∷ code → Splits IsCode char code rest → Escaped char text rest

pub char_parts : (char first : ℕ) (text rest : List ℕ) → Splits SpellsChar char (first ∷ text) rest → ((is_plain first ≡ true) × (first ≡ char) × (text ≡ rest)) ⊎ ((first ≡ 92) × Escaped char text rest)
char_parts char first text rest (front, inl (plain, is), parts) =
    let e : first ∷ text ≡ char ∷ rest = parts ∙ ap (λ f. f ++ rest) is in
    let same = heads first char text rest e in
    inl (subst (λ c. is_plain c ≡ true) (sym same) plain, same, tail_same first char text rest e)
char_parts char first text rest (front, inr (inl (quoted, is)), parts) =
    let e : first ∷ text ≡ 92 ∷ char ∷ rest = parts ∙ ap (λ f. f ++ rest) is in
    inr (heads first 92 text (char ∷ rest) e, Itself quoted (tail_same first 92 text (char ∷ rest) e))
char_parts char first text rest (front, inr (inr (code, spelled, is)), parts) =
    let e : first ∷ text ≡ 92 ∷ 117 ∷ code ++ rest = parts ∙ ap (λ f. f ++ rest) is in
    inr (heads first 92 text (117 ∷ code ++ rest) e, ByCode (code ++ rest) (tail_same first 92 text (117 ∷ code ++ rest) e) (code, spelled, refl))

-- six digits are few
pub small_code : (code count : ℕ) → count ≤ 5 → code < 16 ^ count → code < 1048576
small_code code count few small = let most : 16 ^ count ≤ 1048576 = pow-le-pow_right {n = 16} (omega arith) {i = count} {j = 5} few in omega (arith, small, most)

pub quoted_from : (char : ℕ) → (char ≡ 34) ⊎ (char ≡ 92) → (char == 34 || char == 92) ≡ true
quoted_from char (inl e) = rw e refl
quoted_from char (inr e) = rw e refl

no_code : (char : ℕ) → (char == 34 || char == 92) ≡ true → char ≡ 117 → ⊥
no_code char quoted e = grind (arith, quoted, e)

-- what is found of a text, or that nothing is
abbrev pub Told : (ℕ → List ℕ → Type 0) → Option (ℕ × Bor (List ℕ)) → Type 0
Told There o = MatchOption o ((char : ℕ) (rest : List ℕ) → There char rest → ⊥) (λ x. There x.0 x.1.now)

-- a letter u and a code behind a backslash
pub told_by_code : (o : Option (ℕ × Bor (List ℕ))) (text rest : List ℕ) (first : ℕ) → text ≡ first ∷ rest → first ≡ 117 → Told (λ char more. Splits IsCode char rest more) o
    → Told (λ char more. Splits SpellsChar char (92 ∷ text) more) o
told_by_code None text rest first parts is none = refuse where
  whole : text ≡ 117 ∷ rest
  whole = parts ∙ ap (λ c. c ∷ rest) is

  by : (char : ℕ) (more : List ℕ) → ((is_plain 92 ≡ true) × (◌≡◌ {A = ℕ} 92 char) × (text ≡ more)) ⊎ ((◌≡◌ {A = ℕ} 92 92) × Escaped char text more) → ⊥
  by char more (inl (plain, same, e)) = absurd cc
  by char more (inr (slash, Itself quoted e)) = no_code char quoted (sym (heads 117 char rest more (sym whole ∙ e)))
  by char more (inr (slash, ByCode code e there)) = none char more (subst (λ t. Splits IsCode char t more) (sym (tail_same 117 117 rest code (sym whole ∙ e))) there)

  refuse : (char : ℕ) (more : List ℕ) → Splits SpellsChar char (92 ∷ text) more → ⊥
  refuse char more there = by char more (char_parts char 92 text more there)
told_by_code (Some x) text rest first parts is there =
    subst (λ t. Splits SpellsChar x.0 (92 ∷ t) x.1.now) (sym (parts ∙ ap (λ c. c ∷ rest) is)) (coded_there x.0 rest x.1.now there)

pub told_of : (o : Option (ℕ × Bor (List ℕ))) (text other : List ℕ) → text ≡ other → Told (λ char more. Splits SpellsChar char other more) o → Told (λ char more. Splits SpellsChar char text more) o
told_of o text other e told = subst (λ t. Told (λ char more. Splits SpellsChar char t more) o) (sym e) told

pub told_none : (There : ℕ → List ℕ → Type 0) (o : Option (ℕ × Bor (List ℕ))) → o ≡ None → ((char : ℕ) (rest : List ℕ) → There char rest → ⊥) → Told There o
told_none There o e none = subst (Told There) (sym e) none
