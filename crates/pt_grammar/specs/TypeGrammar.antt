-- The grammar of types: which tokens spell a tree.
use Rattle.std.specs.Prelude.{◌≡◌, ℕ, ◌-◌, List, []}
use Rattle.pt_ast.specs.Types.{TypeTree, Int_type, Bool_type, Text_type, Bytes_type, Tree_type, List_type, Tuple_type, TypeTrees, no_type, more_type}
use Rattle.pt_token.specs.declared.token.Token.{Token}
use Rattle.pt_token.specs.declared.token.Kind.TheVariants as kind
use Rattle.pt_token.specs.declared.token.Word.TheVariants as word
use Rattle.pt_grammar.specs.declared.sort.Sort.{Sort}
use Rattle.pt_grammar.specs.Tokens.{opening, close, comma}
use Rattle.pt_grammar.specs.Forms.{◌⨾◌, One, Opens, Part}

abbrev mutual
  -- a type, where this many levels are left
  pub IsType : Sort → ℕ → TypeTree → List Token → Type 0
  IsType upto left Int_type tokens = One (kind.Word word.Int) tokens
  IsType upto left Bool_type tokens = One (kind.Word word.Bool) tokens
  IsType upto left Text_type tokens = One (kind.Word word.Text) tokens
  IsType upto left Bytes_type tokens = One (kind.Word word.Bytes) tokens
  IsType upto left Tree_type tokens = One (kind.Word word.Tree) tokens
  IsType upto left (List_type member) tokens = (One (kind.Word word.List) ⨾ Opens upto left opening ⨾ IsType upto (left - 1) member
      ⨾ One close) tokens
  IsType upto left (Tuple_type (more_type first (more_type second others))) tokens =
      (One (kind.Word word.Tuple) ⨾ Opens upto left opening ⨾ IsType upto (left - 1) first ⨾ One comma ⨾ IsType upto (left - 1) second
      ⨾ MoreTypes upto (left - 1) 6 others ⨾ One close) tokens
  IsType upto left (Tuple_type other) tokens = ⊥

  -- types, each behind a comma, where there is room for this many
  pub MoreTypes : Sort → ℕ → ℕ → TypeTrees → List Token → Type 0
  MoreTypes upto left room no_type tokens = tokens ≡ []
  MoreTypes upto left room (more_type first others) tokens = ((One comma ⨾ Part upto room (IsType upto left first))
      ⨾ MoreTypes upto left (room - 1) others) tokens
