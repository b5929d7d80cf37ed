-- Reading expressions.
use Rattle.std.specs.Prelude.{ℕ, zero, suc, ◌-◌, ℤ, is_some, List, [], ◌∷◌, Result, Ok, Err, Bool, true, false, Option, Some, None}
use Rattle.pt_val.specs.declared.place.Place.{Place}
use Rattle.pt_ast.specs.declared.expr.Binder.{Binder}
use Rattle.pt_ast.specs.declared.expr.CompareOp.{CompareOp}
use Rattle.pt_ast.specs.declared.expr.Func.{Func}
use Rattle.pt_ast.specs.declared.expr.Op.{Op}
use Rattle.pt_ast.specs.Trees.{ExprTree, Num, Text_of, Bytes_of, Flag, Var, If_of, Or_of, And_of, Not_of, Compare_of, Sum_of, Prod_of, Neg_of, Post_of, Call_of, Bind_of, Bracket_of, Tuple_of, List_of, exprs_of, TailTree, tail_of, tails_of, PostTree, index_of, part_of, posts_of}
use Rattle.pt_token.specs.declared.token.Token.{Token}
use Rattle.pt_token.specs.declared.token.Kind.{Kind}
use Rattle.pt_token.specs.declared.token.Kind.TheVariants as kind
use Rattle.pt_token.specs.declared.token.Mark.TheVariants as mark
use Rattle.pt_token.specs.declared.token.Word.TheVariants as word
use Rattle.pt_grammar.specs.declared.sort.Sort.{Sort}
use Rattle.pt_grammar.specs.declared.sort.Sort.TheVariants as sort
use Rattle.pt_grammar.specs.Tokens.{compare_of, sum_of, product_of}
use Rattle.pt_grammar.specs.Reading.{Fault, at, Reading, ◌>>=◌, place_at, token_at, one_at, open_at, deeper, name_at, text_seen, bytes_seen, number_seen, magnitude_seen, is_open, is_close, is_close_square, is_comma, is_then, is_else, is_or, is_and, all_at, with_front, maybe_at, room_at, less_room}

-- how expressions, operands of `and` and operands of minus signs are read one level deeper
pub record Readers : Type 0 where
  pub expr : List Token → Reading ExprTree
  pub nots : List Token → Reading ExprTree
  pub unary : List Token → Reading ExprTree

-- an operator, by what a token of its kind stands for

abbrev pub operator_found : {A : Type 0} → Place → Option A → Result (Place × A) Sort
operator_found place None = Err sort.Syntax
operator_found place (Some which) = Ok (place, which)

abbrev pub operator_at : {A : Type 0} → (Kind → Option A) → List Token → Reading (Place × A)
operator_at operator = token_at (λ place which. operator_found place (operator which))

-- chains: what is joined to a first operand, and the tree of both

abbrev pub alone : {A : Type 0} → Unit {0} → A → Unit {0}
alone given part = tt

abbrev pub row_at : {X : Type 0} → (List Token → Reading X) → (Kind → Bool) → List Token → Reading (List X)
row_at part begins tokens = all_at (λ given. part) (λ given. begins) alone tt tokens

abbrev pub chain_at : {X : Type 0} → (List Token → Reading ExprTree) → (List Token → Reading X) → (Kind → Bool)
    → (Place → ExprTree → List X → ExprTree) → List Token → Reading ExprTree
chain_at operand part begins tree tokens = do
  first ← operand tokens
  others ← row_at part begins first.1
  Ok (tree (place_at tokens) first.0 others.0, others.1)

abbrev pub joined_at : (Kind → Bool) → (List Token → Reading ExprTree) → List Token → Reading ExprTree
joined_at is operand tokens = one_at is tokens >>= λ mark. operand mark.1

abbrev pub tail_at : (Kind → Option Op) → (List Token → Reading ExprTree) → List Token → Reading TailTree
tail_at operator operand tokens = do
  which ← operator_at operator tokens
  right ← operand which.1
  Ok (tail_of which.0.0 which.0.1 right.0, right.1)

abbrev pub or_tree : Place → ExprTree → List ExprTree → ExprTree
or_tree place first [] = first
or_tree place first (second ∷ others) = Or_of place (exprs_of (first ∷ second ∷ others))

abbrev pub and_tree : Place → ExprTree → List ExprTree → ExprTree
and_tree place first [] = first
and_tree place first (second ∷ others) = And_of place (exprs_of (first ∷ second ∷ others))

abbrev pub sum_tree : Place → ExprTree → List TailTree → ExprTree
sum_tree place first [] = first
sum_tree place first (second ∷ others) = Sum_of place first (tails_of (second ∷ others))

abbrev pub product_tree : Place → ExprTree → List TailTree → ExprTree
product_tree place first [] = first
product_tree place first (second ∷ others) = Prod_of place first (tails_of (second ∷ others))

abbrev pub post_tree : Place → ExprTree → List PostTree → ExprTree
post_tree place first [] = first
post_tree place first (second ∷ others) = Post_of place first (posts_of (second ∷ others))

abbrev pub round_tree : Place → ExprTree → List ExprTree → ExprTree
round_tree place first [] = Bracket_of place first
round_tree place first (second ∷ others) = Tuple_of place (exprs_of (first ∷ second ∷ others))

abbrev pub compare_tree : Place → ExprTree → Option (CompareOp × ExprTree) → ExprTree
compare_tree place first None = first
compare_tree place first (Some right) = Compare_of place first right.0 right.1

-- what stands inside brackets

abbrev pub more_expr_at : (List Token → Reading ExprTree) → ℕ → List Token → Reading ExprTree
more_expr_at expr room tokens = one_at is_comma tokens >>= λ comma. room_at expr room comma.1

abbrev pub more_exprs_at : (List Token → Reading ExprTree) → ℕ → List Token → Reading (List ExprTree)
more_exprs_at expr room tokens = all_at (more_expr_at expr) (λ room. is_comma) less_room room tokens

abbrev pub args_at : (List Token → Reading ExprTree) → List Token → Reading (List ExprTree)
args_at expr tokens = row_at (joined_at is_comma expr) is_comma tokens

unfoldable pub call_at : ℕ → Readers → Place → Func → List Token → Reading ExprTree
call_at left inside place func tokens = do
  opened ← open_at is_open left tokens
  first ← inside.expr opened.1
  all ← with_front (first.0 ∷ []) (args_at inside.expr first.1)
  behind ← one_at is_close all.1
  Ok (Call_of place func (exprs_of all.0), behind.1)

unfoldable pub bind_at : ℕ → Readers → Place → Binder → List Token → Reading ExprTree
bind_at left inside place binder tokens = do
  opened ← open_at is_open left tokens
  given ← name_at opened.1
  comma ← one_at is_comma given.1
  list ← inside.expr comma.1
  second ← one_at is_comma list.1
  body ← inside.expr second.1
  behind ← one_at is_close body.1
  Ok (Bind_of place binder given.0 list.0 body.0, behind.1)

unfoldable pub round_at : Readers → Place → List Token → Reading ExprTree
round_at inside place tokens = do
  first ← inside.expr tokens
  others ← more_exprs_at inside.expr 7 first.1
  behind ← one_at is_close others.1
  Ok (round_tree place first.0 others.0, behind.1)

unfoldable pub square_at : Readers → Place → List Token → Reading ExprTree
square_at inside place tokens = do
  first ← inside.expr tokens
  all ← with_front (first.0 ∷ []) (more_exprs_at inside.expr 63 first.1)
  behind ← one_at is_close_square all.1
  Ok (List_of place (exprs_of all.0), behind.1)

-- what is one token

unfoldable pub number_at : List Token → Reading ExprTree
number_at tokens = token_at number_seen tokens >>= λ x. Ok (Num x.0.0 x.0.1, x.1)

unfoldable pub text_at : List Token → Reading ExprTree
text_at tokens = token_at text_seen tokens >>= λ x. Ok (Text_of x.0.0 x.0.1, x.1)

unfoldable pub bytes_at : List Token → Reading ExprTree
bytes_at tokens = token_at bytes_seen tokens >>= λ x. Ok (Bytes_of x.0.0 x.0.1, x.1)

unfoldable pub var_at : List Token → Reading ExprTree
var_at tokens = name_at tokens >>= λ x. Ok (Var x.0.at x.0.name, x.1)

-- what stands by itself, where its first token is of this kind
unfoldable pub atom_on : ℕ → Readers → Place → List Token → List Token → Kind → Reading ExprTree
atom_on left inside place tokens rest (kind.Number n) = number_at tokens
atom_on left inside place tokens rest (kind.Text chars) = text_at tokens
atom_on left inside place tokens rest kind.LongText = text_at tokens
atom_on left inside place tokens rest (kind.Bytes bytes) = bytes_at tokens
atom_on left inside place tokens rest kind.LongBytes = bytes_at tokens
atom_on left inside place tokens rest (kind.Name name) = var_at tokens
atom_on left inside place tokens rest kind.LongName = var_at tokens
atom_on left inside place tokens rest (kind.Word word.True) = Ok (Flag place true, rest)
atom_on left inside place tokens rest (kind.Word word.False) = Ok (Flag place false, rest)
atom_on left inside place tokens rest (kind.Word (word.Func func)) = call_at left inside place func rest
atom_on left inside place tokens rest (kind.Word (word.Binder binder)) = bind_at left inside place binder rest
atom_on left inside place tokens rest (kind.Mark mark.OpenParen) = deeper left tokens (round_at inside place rest)
atom_on left inside place tokens rest (kind.Mark mark.OpenBracket) = deeper left tokens (square_at inside place rest)
atom_on left inside place tokens rest other = Err (at sort.Syntax tokens)

abbrev pub atom_at : ℕ → Readers → List Token → Reading ExprTree
atom_at left inside [] = Err (at sort.Syntax [])
atom_at left inside (token ∷ rest) = atom_on left inside token.at (token ∷ rest) rest token.kind

-- indexes and parts

unfoldable pub index_at : Readers → Place → List Token → Reading PostTree
index_at inside place tokens = do
  one ← inside.expr tokens
  behind ← one_at is_close_square one.1
  Ok (index_of place one.0, behind.1)

abbrev pub begins_post : Kind → Bool
begins_post (kind.Mark mark.OpenBracket) = true
begins_post (kind.Mark mark.Dot) = true
begins_post other = false

unfoldable pub post_on : ℕ → Readers → Place → List Token → List Token → Kind → Reading PostTree
post_on left inside place tokens rest (kind.Mark mark.OpenBracket) = deeper left tokens (index_at inside place rest)
post_on left inside place tokens rest (kind.Mark mark.Dot) = token_at number_seen rest >>= λ number. Ok (part_of number.0.0 number.0.1, number.1)
post_on left inside place tokens rest other = Err (at sort.Syntax tokens)

abbrev pub post_part_at : ℕ → Readers → List Token → Reading PostTree
post_part_at left inside [] = Err (at sort.Syntax [])
post_part_at left inside (token ∷ rest) = post_on left inside token.at (token ∷ rest) rest token.kind

-- the levels

unfoldable pub post_at : ℕ → Readers → List Token → Reading ExprTree
post_at left inside = chain_at (atom_at left inside) (post_part_at left inside) begins_post post_tree

unfoldable pub unary_on : ℕ → Readers → Place → List Token → List Token → Kind → Reading ExprTree
unary_on left inside place tokens rest (kind.Minus true) = token_at magnitude_seen rest >>= λ number. Ok (Num place number.0, number.1)
unary_on left inside place tokens rest (kind.Minus false) = deeper left tokens (inside.unary rest >>= λ one. Ok (Neg_of place one.0, one.1))
unary_on left inside place tokens rest other = post_at left inside tokens

abbrev pub unary_at : ℕ → Readers → List Token → Reading ExprTree
unary_at left inside [] = Err (at sort.Syntax [])
unary_at left inside (token ∷ rest) = unary_on left inside token.at (token ∷ rest) rest token.kind

abbrev pub is_product : Kind → Bool
is_product which = is_some (product_of which)

abbrev pub is_sum : Kind → Bool
is_sum which = is_some (sum_of which)

abbrev pub is_compare : Kind → Bool
is_compare which = is_some (compare_of which)

unfoldable pub product_at : ℕ → Readers → List Token → Reading ExprTree
product_at left inside = chain_at (unary_at left inside) (tail_at product_of (unary_at left inside)) is_product product_tree

unfoldable pub sum_at : ℕ → Readers → List Token → Reading ExprTree
sum_at left inside = chain_at (product_at left inside) (tail_at sum_of (product_at left inside)) is_sum sum_tree

-- a comparison and its right side
abbrev pub right_at : (List Token → Reading ExprTree) → List Token → Reading (CompareOp × ExprTree)
right_at operand tokens = do
  which ← operator_at compare_of tokens
  right ← operand which.1
  Ok ((which.0.1, right.0), right.1)

unfoldable pub compare_at : ℕ → Readers → List Token → Reading ExprTree
compare_at left inside tokens = do
  first ← sum_at left inside tokens
  second ← maybe_at (right_at (sum_at left inside)) is_compare first.1
  Ok (compare_tree (place_at tokens) first.0 second.0, second.1)

unfoldable pub nots_on : ℕ → Readers → Place → List Token → List Token → Kind → Reading ExprTree
nots_on left inside place tokens rest (kind.Word word.Not) = deeper left tokens (inside.nots rest >>= λ one. Ok (Not_of place one.0, one.1))
nots_on left inside place tokens rest other = compare_at left inside tokens

abbrev pub nots_at : ℕ → Readers → List Token → Reading ExprTree
nots_at left inside [] = Err (at sort.Syntax [])
nots_at left inside (token ∷ rest) = nots_on left inside token.at (token ∷ rest) rest token.kind

unfoldable pub and_at : ℕ → Readers → List Token → Reading ExprTree
and_at left inside = chain_at (nots_at left inside) (joined_at is_and (nots_at left inside)) is_and and_tree

unfoldable pub or_at : ℕ → Readers → List Token → Reading ExprTree
or_at left inside = chain_at (and_at left inside) (joined_at is_or (and_at left inside)) is_or or_tree

unfoldable pub if_at : Readers → Place → List Token → Reading ExprTree
if_at inside place tokens = do
  test ← inside.expr tokens
  then_word ← one_at is_then test.1
  first ← inside.expr then_word.1
  else_word ← one_at is_else first.1
  other ← inside.expr else_word.1
  Ok (If_of place test.0 first.0 other.0, other.1)

unfoldable pub expr_on : ℕ → Readers → Place → List Token → List Token → Kind → Reading ExprTree
expr_on left inside place tokens rest (kind.Word word.If) = deeper left tokens (if_at inside place rest)
expr_on left inside place tokens rest other = or_at left inside tokens

abbrev pub expr_step : ℕ → Readers → List Token → Reading ExprTree
expr_step left inside [] = Err (at sort.Syntax [])
expr_step left inside (token ∷ rest) = expr_on left inside token.at (token ∷ rest) rest token.kind

unfoldable pub inner : ℕ → Readers
inner zero = record {
  expr = λ tokens. Err (at sort.Syntax tokens);
  nots = λ tokens. Err (at sort.Syntax tokens);
  unary =
      λ tokens. Err (at sort.Syntax tokens);
}
inner (suc left) = record { expr = expr_step left (inner left); nots = nots_at left (inner left); unary = unary_at left (inner left) }

abbrev pub expr_at : ℕ → List Token → Reading ExprTree
expr_at left = expr_step left (inner left)
