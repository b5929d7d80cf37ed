-- Reading strategies, whose nodes are numbered from a number on.
use Rattle.std.specs.Prelude.{ℕ, zero, suc, ◌+◌, ◌-◌, ◌==◌, length, if◌then◌else◌, List, [], ◌∷◌, Result, Ok, Err}
use Rattle.pt_val.specs.declared.place.Place.{Place}
use Rattle.pt_ast.specs.declared.ident.Ident.{Ident}
use Rattle.pt_ast.specs.declared.strat.Alphabet.{Alphabet}
use Rattle.pt_ast.specs.Trees.{ExprTree, StratTree, Ints_of, Bools_of, Texts_of, Blobs_of, Sampled_of, Lists_of, Tuples_of, OneOf_of, Map_of, Filter_of, FlatMap_of, Recursive_of, Self_of, strats_of}
use Rattle.pt_token.specs.declared.token.Token.{Token}
use Rattle.pt_token.specs.declared.token.Kind.{Kind}
use Rattle.pt_token.specs.declared.token.Kind.TheVariants as kind
use Rattle.pt_token.specs.declared.token.Word.TheVariants as word
use Rattle.pt_grammar.specs.declared.sort.Sort.{Sort}
use Rattle.pt_grammar.specs.declared.sort.Sort.TheVariants as sort
use Rattle.pt_grammar.specs.StratGrammar.{nodes}
use Rattle.pt_grammar.specs.Reading.{Fault, at, Reading, ◌>>=◌, token_at, one_at, open_at, name_at, limited_at, is_open, is_close, is_comma, all_at, with_front, room_at}
use Rattle.pt_grammar.specs.ExprReading.{inner}

abbrev pub alphabet_seen : Place → Kind → Result Alphabet Sort
alphabet_seen place (kind.Text chars) = if length chars == 0 then Err sort.OutOfRange else Ok (record { at = place; chars = chars })
alphabet_seen place kind.LongText = Err sort.OutOfRange
alphabet_seen place other = Err sort.Syntax

abbrev pub alphabet_at : List Token → Reading Alphabet
alphabet_at = token_at alphabet_seen

-- a strategy behind a comma, with the room that is left and the number of its first node

abbrev pub next_node : ℕ × ℕ → StratTree → ℕ × ℕ
next_node given strat = (given.0 - 1, given.1 + nodes strat)

abbrev pub more_strat_at : (ℕ → List Token → Reading StratTree) → ℕ × ℕ → List Token → Reading StratTree
more_strat_at item given tokens = one_at is_comma tokens >>= λ comma. room_at (item given.1) given.0 comma.1

abbrev pub more_strats_at : (ℕ → List Token → Reading StratTree) → ℕ → ℕ → List Token → Reading (List StratTree)
more_strats_at item room from tokens = all_at (more_strat_at item) (λ given. is_comma) next_node (room, from) tokens

-- two expressions to the end of the brackets
unfoldable pub bounds_at : (List Token → Reading ExprTree) → List Token → Reading (ExprTree × ExprTree)
bounds_at expr tokens = do
  lo ← expr tokens
  comma ← one_at is_comma lo.1
  hi ← expr comma.1
  behind ← one_at is_close hi.1
  Ok ((lo.0, hi.0), behind.1)

module _ (left : ℕ) (item : ℕ → List Token → Reading StratTree) (expr : List Token → Reading ExprTree) (place : Place) (from : ℕ) where
  unfoldable pub texts_at : List Token → Reading StratTree
  texts_at tokens = do
    opened ← open_at is_open left tokens
    alphabet ← alphabet_at opened.1
    comma ← one_at is_comma alphabet.1
    bounds ← bounds_at expr comma.1
    Ok (Texts_of place from alphabet.0 bounds.0.0 bounds.0.1, bounds.1)

  unfoldable pub lists_at : List Token → Reading StratTree
  lists_at tokens = do
    opened ← open_at is_open left tokens
    element ← item (from + 1) opened.1
    comma ← one_at is_comma element.1
    bounds ← bounds_at expr comma.1
    Ok (Lists_of place from element.0 bounds.0.0 bounds.0.1, bounds.1)

  unfoldable pub tuples_at : List Token → Reading StratTree
  tuples_at tokens = do
    opened ← open_at is_open left tokens
    first ← item (from + 1) opened.1
    comma ← one_at is_comma first.1
    second ← item (from + 1 + nodes first.0) comma.1
    all ← with_front (first.0 ∷ second.0 ∷ []) (more_strats_at item 6 (from + 1 + nodes first.0 + nodes second.0) second.1)
    behind ← one_at is_close all.1
    Ok (Tuples_of place from (strats_of all.0), behind.1)

  unfoldable pub one_of_at : List Token → Reading StratTree
  one_of_at tokens = do
    opened ← open_at is_open left tokens
    first ← item (from + 1) opened.1
    all ← with_front (first.0 ∷ []) (more_strats_at item 15 (from + 1 + nodes first.0) first.1)
    behind ← one_at is_close all.1
    Ok (OneOf_of place from (strats_of all.0), behind.1)

  unfoldable pub flat_map_at : List Token → Reading StratTree
  flat_map_at tokens = do
    opened ← open_at is_open left tokens
    given ← name_at opened.1
    comma ← one_at is_comma given.1
    first ← item (from + 1) comma.1
    between ← one_at is_comma first.1
    second ← item (from + 1 + nodes first.0) between.1
    behind ← one_at is_close second.1
    Ok (FlatMap_of place from given.0 first.0 second.0, behind.1)

  unfoldable pub recursive_at : List Token → Reading StratTree
  recursive_at tokens = do
    opened ← open_at is_open left tokens
    depth ← limited_at 1 8 opened.1
    comma ← one_at is_comma depth.1
    first ← item (from + 1) comma.1
    between ← one_at is_comma first.1
    second ← item (from + 1 + nodes first.0) between.1
    behind ← one_at is_close second.1
    Ok (Recursive_of place from depth.0 first.0 second.0, behind.1)

  -- a name, a strategy and an expression
  unfoldable pub applied_at : (Ident → StratTree → ExprTree → StratTree) → List Token → Reading StratTree
  applied_at tree tokens = do
    opened ← open_at is_open left tokens
    given ← name_at opened.1
    comma ← one_at is_comma given.1
    strat ← item (from + 1) comma.1
    between ← one_at is_comma strat.1
    body ← expr between.1
    behind ← one_at is_close body.1
    Ok (tree given.0 strat.0 body.0, behind.1)

  -- two bounds alone
  unfoldable pub bounded_at : (ExprTree → ExprTree → StratTree) → List Token → Reading StratTree
  bounded_at tree tokens = do
    opened ← open_at is_open left tokens
    bounds ← bounds_at expr opened.1
    Ok (tree bounds.0.0 bounds.0.1, bounds.1)

  unfoldable pub bools_at : List Token → Reading StratTree
  bools_at tokens = do
    opened ← open_at is_open left tokens
    behind ← one_at is_close opened.1
    Ok (Bools_of place from, behind.1)

  unfoldable pub sampled_at : List Token → Reading StratTree
  sampled_at tokens = do
    opened ← open_at is_open left tokens
    list ← expr opened.1
    behind ← one_at is_close list.1
    Ok (Sampled_of place from list.0, behind.1)

  unfoldable pub strat_on : List Token → List Token → Kind → Reading StratTree
  strat_on tokens rest (kind.Word word.Ints) = bounded_at (Ints_of place from) rest
  strat_on tokens rest (kind.Word word.Bools) = bools_at rest
  strat_on tokens rest (kind.Word word.Texts) = texts_at rest
  strat_on tokens rest (kind.Word word.Blobs) = bounded_at (Blobs_of place from) rest
  strat_on tokens rest (kind.Word word.SampledFrom) = sampled_at rest
  strat_on tokens rest (kind.Word word.Lists) = lists_at rest
  strat_on tokens rest (kind.Word word.Tuples) = tuples_at rest
  strat_on tokens rest (kind.Word word.OneOf) = one_of_at rest
  strat_on tokens rest (kind.Word word.Map) = applied_at (Map_of place from) rest
  strat_on tokens rest (kind.Word word.Filter) = applied_at (Filter_of place from) rest
  strat_on tokens rest (kind.Word word.FlatMap) = flat_map_at rest
  strat_on tokens rest (kind.Word word.Recursive) = recursive_at rest
  strat_on tokens rest (kind.Word word.Again) = Ok (Self_of place 0, rest)
  strat_on tokens rest other = Err (at sort.Syntax tokens)

abbrev pub strat_step : ℕ → (ℕ → List Token → Reading StratTree) → ℕ → List Token → Reading StratTree
strat_step left item from [] = Err (at sort.Syntax [])
strat_step left item from (token ∷ rest) = strat_on left item (inner left).expr token.at from (token ∷ rest) rest token.kind

-- a strategy inside brackets
unfoldable pub strat_below : ℕ → ℕ → List Token → Reading StratTree
strat_below zero = λ from tokens. Err (at sort.Syntax tokens)
strat_below (suc left) = strat_step left (strat_below left)

abbrev pub strat_at : ℕ → ℕ → List Token → Reading StratTree
strat_at left = strat_step left (strat_below left)
