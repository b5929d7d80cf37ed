-- Reading types.
use Rattle.std.specs.Prelude.{ℕ, zero, suc, ◌-◌, List, [], ◌∷◌, Result, Ok, Err}
use Rattle.pt_ast.specs.Types.{TypeTree, Int_type, Bool_type, Text_type, Bytes_type, Tree_type, List_type, Tuple_type, types_of}
use Rattle.pt_token.specs.declared.token.Token.{Token}
use Rattle.pt_token.specs.declared.token.Kind.{Kind}
use Rattle.pt_token.specs.declared.token.Kind.TheVariants as kind
use Rattle.pt_token.specs.declared.token.Word.TheVariants as word
use Rattle.pt_grammar.specs.declared.sort.Sort.TheVariants as sort
use Rattle.pt_grammar.specs.Reading.{Fault, at, Reading, ◌>>=◌, one_at, open_at, is_open, is_close, is_comma, all_at, with_front, room_at, less_room}

-- a type behind a comma
abbrev pub more_type_at : (List Token → Reading TypeTree) → ℕ → List Token → Reading TypeTree
more_type_at item room tokens = one_at is_comma tokens >>= λ comma. room_at item room comma.1

abbrev pub more_types_at : (List Token → Reading TypeTree) → ℕ → List Token → Reading (List TypeTree)
more_types_at item room tokens = all_at (more_type_at item) (λ room. is_comma) less_room room tokens

-- what stands behind the words `list` and `tuple`

unfoldable pub list_type_at : ℕ → (List Token → Reading TypeTree) → List Token → Reading TypeTree
list_type_at left item tokens = do
  inside ← open_at is_open left tokens
  one ← item inside.1
  behind ← one_at is_close one.1
  Ok (List_type one.0, behind.1)

unfoldable pub tuple_type_at : ℕ → (List Token → Reading TypeTree) → List Token → Reading TypeTree
tuple_type_at left item tokens = do
  inside ← open_at is_open left tokens
  first ← item inside.1
  comma ← one_at is_comma first.1
  second ← item comma.1
  all ← with_front (first.0 ∷ second.0 ∷ []) (more_types_at item 6 second.1)
  behind ← one_at is_close all.1
  Ok (Tuple_type (types_of all.0), behind.1)

-- a type whose first token is of this kind, where this is the rest
unfoldable pub type_on : ℕ → (List Token → Reading TypeTree) → List Token → List Token → Kind → Reading TypeTree
type_on left item tokens rest (kind.Word word.Int) = Ok (Int_type, rest)
type_on left item tokens rest (kind.Word word.Bool) = Ok (Bool_type, rest)
type_on left item tokens rest (kind.Word word.Text) = Ok (Text_type, rest)
type_on left item tokens rest (kind.Word word.Bytes) = Ok (Bytes_type, rest)
type_on left item tokens rest (kind.Word word.Tree) = Ok (Tree_type, rest)
type_on left item tokens rest (kind.Word word.List) = list_type_at left item rest
type_on left item tokens rest (kind.Word word.Tuple) = tuple_type_at left item rest
type_on left item tokens rest other = Err (at sort.Syntax tokens)

abbrev pub type_step : ℕ → (List Token → Reading TypeTree) → List Token → Reading TypeTree
type_step left item [] = Err (at sort.Syntax [])
type_step left item (token ∷ rest) = type_on left item (token ∷ rest) rest token.kind

-- a type inside brackets
unfoldable pub type_below : ℕ → List Token → Reading TypeTree
type_below zero = λ tokens. Err (at sort.Syntax tokens)
type_below (suc left) = type_step left (type_below left)

abbrev pub type_at : ℕ → List Token → Reading TypeTree
type_at left = type_step left (type_below left)
