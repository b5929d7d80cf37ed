-- Reading from left to right, with the first fault that is met.
use Rattle.std.specs.Prelude.{◌≡◌, ℕ, zero, suc, ◌-◌, ◌==◌, ◌^◌, ◌&&◌, nat_lt, nat_le, pos, neg_ℤ, ℤ, List, [], ◌∷◌, ◌++◌, length, Result, Ok, Err, if◌then◌else◌, Bool, true, false, Option, Some, None}
use Rattle.pt_val.specs.declared.place.Place.{Place}
use Rattle.pt_ast.specs.declared.ident.Ident.{Ident}
use Rattle.pt_token.specs.declared.token.Token.{Token}
use Rattle.pt_token.specs.declared.token.Kind.{Kind}
use Rattle.pt_token.specs.declared.token.Kind.TheVariants as kind
use Rattle.pt_token.specs.declared.token.Mark.TheVariants as mark
use Rattle.pt_token.specs.declared.token.Word.TheVariants as word
use Rattle.pt_grammar.specs.declared.sort.Sort.{Sort}
use Rattle.pt_grammar.specs.declared.sort.Sort.TheVariants as sort

-- a fault, and the tokens from the faulty one on
pub record Fault : Type 0 where
  pub sort : Sort
  pub rest : List Token

abbrev pub at : Sort → List Token → Fault
at which rest = record { sort = which; rest = rest }

-- what was read and the tokens behind it, or the fault
abbrev pub Reading : Type 0 → Type 0
Reading A = Result (A × List Token) Fault

infixl 10 ◌>>=◌
abbrev pub ◌>>=◌ : {A B : Type 0} → Result A Fault → (A → Result B Fault) → Result B Fault
(Ok x) >>= f = f x
(Err e) >>= f = Err e

abbrev pub place_at : List Token → Place
place_at [] = record { line = 0; column = 0 }
place_at (token ∷ rest) = token.at

-- one token, by what it gives or the sort of its fault

abbrev pub taken : {A : Type 0} → Result A Sort → List Token → List Token → Reading A
taken (Ok value) tokens rest = Ok (value, rest)
taken (Err which) tokens rest = Err (at which tokens)

abbrev pub token_at : {A : Type 0} → (Place → Kind → Result A Sort) → List Token → Reading A
token_at view [] = Err (at sort.Syntax [])
token_at view (token ∷ rest) = taken (view token.at token.kind) (token ∷ rest) rest

abbrev pub seen : (Kind → Bool) → Place → Kind → Result (Unit {0}) Sort
seen is place which = if is which then Ok tt else Err sort.Syntax

abbrev pub one_at : (Kind → Bool) → List Token → Reading (Unit {0})
one_at is = token_at (seen is)

-- a word, and where it stands
abbrev pub word_seen : (Kind → Bool) → Place → Kind → Result Place Sort
word_seen is place which = if is which then Ok place else Err sort.Syntax

abbrev pub word_at : (Kind → Bool) → List Token → Reading Place
word_at is = token_at (word_seen is)

-- an opening bracket, where this many levels are left
abbrev pub opened : (Kind → Bool) → ℕ → Place → Kind → Result (Unit {0}) Sort
opened is left place which = if is which then (if left == 0 then Err sort.TooDeep else Ok tt) else Err sort.Syntax

abbrev pub open_at : (Kind → Bool) → ℕ → List Token → Reading (Unit {0})
open_at is left = token_at (opened is left)

-- a first token that opens a level
abbrev pub deeper : {A : Type 0} → ℕ → List Token → Reading A → Reading A
deeper left tokens read = if left == 0 then Err (at sort.TooDeep tokens) else read

abbrev pub named : Place → Kind → Result Ident Sort
named place (kind.Name name) = Ok (record { at = place; name = name })
named place kind.LongName = Err sort.OutOfRange
named place other = Err sort.Syntax

abbrev pub name_at : List Token → Reading Ident
name_at = token_at named

abbrev pub text_seen : Place → Kind → Result (Place × List ℕ) Sort
text_seen place (kind.Text chars) = Ok (place, chars)
text_seen place kind.LongText = Err sort.OutOfRange
text_seen place other = Err sort.Syntax

abbrev pub bytes_seen : Place → Kind → Result (Place × List ℕ) Sort
bytes_seen place (kind.Bytes bytes) = Ok (place, bytes)
bytes_seen place kind.LongBytes = Err sort.OutOfRange
bytes_seen place other = Err sort.Syntax

-- a number, by what is made of it and the test of its bound
abbrev pub counted : {A : Type 0} → (Place → ℕ → A) → (ℕ → Bool) → Place → Kind → Result A Sort
counted make fits place (kind.Number n) = if fits n then Ok (make place n) else Err sort.OutOfRange
counted make fits place other = Err sort.Syntax

abbrev pub number_seen : Place → Kind → Result (Place × ℤ) Sort
number_seen = counted (λ place n. (place, pos n)) (λ n. nat_lt n (2 ^ 63))

abbrev pub magnitude_seen : Place → Kind → Result ℤ Sort
magnitude_seen = counted (λ place n. neg_ℤ (pos n)) (λ n. nat_le n (2 ^ 63))

abbrev pub limited_seen : ℕ → ℕ → Place → Kind → Result ℕ Sort
limited_seen least most = counted (λ place n. n) (λ n. nat_le least n && nat_le n most)

abbrev pub limited_at : ℕ → ℕ → List Token → Reading ℕ
limited_at least most = token_at (limited_seen least most)

-- tests of kinds

abbrev pub is_open : Kind → Bool
is_open (kind.Mark mark.OpenParen) = true
is_open other = false

abbrev pub is_close : Kind → Bool
is_close (kind.Mark mark.CloseParen) = true
is_close other = false

abbrev pub is_open_square : Kind → Bool
is_open_square (kind.Mark mark.OpenBracket) = true
is_open_square other = false

abbrev pub is_close_square : Kind → Bool
is_close_square (kind.Mark mark.CloseBracket) = true
is_close_square other = false

abbrev pub is_open_brace : Kind → Bool
is_open_brace (kind.Mark mark.OpenBrace) = true
is_open_brace other = false

abbrev pub is_close_brace : Kind → Bool
is_close_brace (kind.Mark mark.CloseBrace) = true
is_close_brace other = false

abbrev pub is_comma : Kind → Bool
is_comma (kind.Mark mark.Comma) = true
is_comma other = false

abbrev pub is_semicolon : Kind → Bool
is_semicolon (kind.Mark mark.Semicolon) = true
is_semicolon other = false

abbrev pub is_colon : Kind → Bool
is_colon (kind.Mark mark.Colon) = true
is_colon other = false

abbrev pub is_dot : Kind → Bool
is_dot (kind.Mark mark.Dot) = true
is_dot other = false

abbrev pub is_assign : Kind → Bool
is_assign (kind.Mark mark.Assign) = true
is_assign other = false

abbrev pub is_then : Kind → Bool
is_then (kind.Word word.Then) = true
is_then other = false

abbrev pub is_else : Kind → Bool
is_else (kind.Word word.Else) = true
is_else other = false

abbrev pub is_or : Kind → Bool
is_or (kind.Word word.Or) = true
is_or other = false

abbrev pub is_and : Kind → Bool
is_and (kind.Word word.And) = true
is_and other = false

abbrev pub is_from : Kind → Bool
is_from (kind.Word word.From) = true
is_from other = false

-- whether the first token is of such a kind
abbrev pub goes_on : (Kind → Bool) → List Token → Bool
goes_on begins [] = false
goes_on begins (token ∷ rest) = begins token.kind

-- one form after the other, as long as the next token begins one

abbrev pub many_then : {A : Type 0} → (List Token → Reading A) → (A → List Token → Reading (List A)) → List Token → Bool → Reading (List A)
many_then part others tokens false = Ok ([], tokens)
many_then part others tokens true = part tokens >>= λ first. others first.0 first.1 >>= λ more. Ok (first.0 ∷ more.0, more.1)

unfoldable pub many_at : {A Given : Type 0} → (Given → List Token → Reading A) → (Given → Kind → Bool) → (Given → A → Given) → ℕ → Given
    → List Token → Reading (List A)
many_at part begins leaves zero given tokens = Ok ([], tokens)
many_at part begins leaves (suc turns) given tokens =
    many_then (part given) (λ a rest. many_at part begins leaves turns (leaves given a) rest) tokens (goes_on (begins given) tokens)

-- there are turns enough for all
abbrev pub all_at : {A Given : Type 0} → (Given → List Token → Reading A) → (Given → Kind → Bool) → (Given → A → Given) → Given → List Token
    → Reading (List A)
all_at part begins leaves given tokens = many_at part begins leaves (length tokens) given tokens

-- what was read before, and what is still read
abbrev pub with_front : {A : Type 0} → List A → Reading (List A) → Reading (List A)
with_front front read = read >>= λ x. Ok (front ++ x.0, x.1)

-- a form that may be left out

abbrev pub maybe_then : {A : Type 0} → (List Token → Reading A) → List Token → Bool → Reading (Option A)
maybe_then part tokens false = Ok (None, tokens)
maybe_then part tokens true = part tokens >>= λ x. Ok (Some x.0, x.1)

abbrev pub maybe_at : {A : Type 0} → (List Token → Reading A) → (Kind → Bool) → List Token → Reading (Option A)
maybe_at part begins tokens = maybe_then part tokens (goes_on begins tokens)

-- a part, where there may be room for no more

-- the fault of a part too many, by what reading its first token alone comes to
abbrev pub sort_here : Sort → List Token → Sort
sort_here which [] = sort.OutOfRange
sort_here which (token ∷ rest) = which

abbrev pub too_many : {A : Type 0} → Reading A → Sort
too_many (Ok x) = sort.OutOfRange
too_many (Err fault) = sort_here fault.sort fault.rest

abbrev pub refused_at : {A : Type 0} → (List Token → Reading A) → List Token → Reading A
refused_at part [] = Err (at sort.Syntax [])
refused_at part (token ∷ rest) = Err (at (too_many (part (token ∷ []))) (token ∷ rest))

abbrev pub room_at : {A : Type 0} → (List Token → Reading A) → ℕ → List Token → Reading A
room_at part room tokens = if room == 0 then refused_at part tokens else part tokens

abbrev pub less_room : {A : Type 0} → ℕ → A → ℕ
less_room room part = room - 1
