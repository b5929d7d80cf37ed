-- The grammar of strategies: which tokens spell a tree.
use Rattle.std.specs.Prelude.{◌≡◌, ◌⊎◌, ℕ, ◌+◌, ◌-◌, ◌<◌, length, List, [], ◌∷◌}
use Rattle.pt_ast.specs.declared.strat.Alphabet.{Alphabet}
use Rattle.pt_ast.specs.Trees.{StratTree, Ints_of, Bools_of, Texts_of, Blobs_of, Sampled_of, Lists_of, Tuples_of, OneOf_of, Map_of, Filter_of, FlatMap_of, Recursive_of, Self_of, StratTrees, no_strat, more_strat}
use Rattle.pt_ast.specs.Numbers.{strat_numbers}
use Rattle.pt_token.specs.declared.token.Token.{Token}
use Rattle.pt_token.specs.declared.token.Kind.TheVariants as kind
use Rattle.pt_token.specs.declared.token.Word.TheVariants as word
use Rattle.pt_grammar.specs.declared.sort.Sort.{Sort}
use Rattle.pt_grammar.specs.Tokens.{IsReal, opening, close, comma}
use Rattle.pt_grammar.specs.Forms.{◌⨾◌, One, OneAt, Opens, MindsAll, IsName, Limited, Part}
use Rattle.pt_grammar.specs.ExprGrammar.{IsExpr}

-- the characters of texts, of which there are 1 to 256
abbrev pub IsAlphabet : Sort → Alphabet → List Token → Type 0
IsAlphabet upto alphabet tokens =
    (token : Token)
    × (((token.kind ≡ kind.Text alphabet.chars) × (MindsAll upto → IsReal token → 0 < length alphabet.chars))
    ⊎ ((token.kind ≡ kind.LongText) × (MindsAll upto → IsReal token → ⊥)))
    × (token.at ≡ alphabet.at) × (tokens ≡ token ∷ [])

-- how many nodes of a strategy are numbered
abbrev pub nodes : StratTree → ℕ
nodes tree = length (strat_numbers tree)

abbrev mutual
  -- a strategy whose nodes are numbered from there on, where this many levels are left
  pub IsStrat : Sort → ℕ → ℕ → StratTree → List Token → Type 0
  IsStrat upto left from (Ints_of at num lo hi) tokens =
      (num ≡ from) × (OneAt (kind.Word word.Ints) at ⨾ Opens upto left opening ⨾ IsExpr upto (left - 1) 0 lo ⨾ One comma
      ⨾ IsExpr upto (left - 1) 0 hi ⨾ One close) tokens
  IsStrat upto left from (Bools_of at num) tokens = (num ≡ from) × (OneAt (kind.Word word.Bools) at ⨾ Opens upto left opening ⨾ One close) tokens
  IsStrat upto left from (Texts_of at num alphabet lo hi) tokens =
      (num ≡ from) × (OneAt (kind.Word word.Texts) at ⨾ Opens upto left opening ⨾ IsAlphabet upto alphabet ⨾ One comma
      ⨾ IsExpr upto (left - 1) 0 lo ⨾ One comma
      ⨾ IsExpr upto (left - 1) 0 hi ⨾ One close) tokens
  IsStrat upto left from (Blobs_of at num lo hi) tokens =
      (num ≡ from) × (OneAt (kind.Word word.Blobs) at ⨾ Opens upto left opening ⨾ IsExpr upto (left - 1) 0 lo ⨾ One comma
      ⨾ IsExpr upto (left - 1) 0 hi ⨾ One close) tokens
  IsStrat upto left from (Sampled_of at num list) tokens =
      (num ≡ from) × (OneAt (kind.Word word.SampledFrom) at ⨾ Opens upto left opening ⨾ IsExpr upto (left - 1) 0 list ⨾ One close) tokens
  IsStrat upto left from (Lists_of at num element lo hi) tokens =
      (num ≡ from) × (OneAt (kind.Word word.Lists) at ⨾ Opens upto left opening ⨾ IsStrat upto (left - 1) (from + 1) element ⨾ One comma
      ⨾ IsExpr upto (left - 1) 0 lo ⨾ One comma ⨾ IsExpr upto (left - 1) 0 hi ⨾ One close) tokens
  IsStrat upto left from (Tuples_of at num (more_strat first (more_strat second others))) tokens =
      (num ≡ from) × (OneAt (kind.Word word.Tuples) at ⨾ Opens upto left opening ⨾ IsStrat upto (left - 1) (from + 1) first ⨾ One comma
      ⨾ IsStrat upto (left - 1) (from + 1 + nodes first) second ⨾ MoreStrats upto (left - 1) 6 (from + 1 + nodes first + nodes second) others
      ⨾ One close) tokens
  IsStrat upto left from (Tuples_of at num other) tokens = ⊥
  IsStrat upto left from (OneOf_of at num (more_strat first others)) tokens =
      (num ≡ from) × (OneAt (kind.Word word.OneOf) at ⨾ Opens upto left opening ⨾ IsStrat upto (left - 1) (from + 1) first
      ⨾ MoreStrats upto (left - 1) 15 (from + 1 + nodes first) others ⨾ One close) tokens
  IsStrat upto left from (OneOf_of at num no_strat) tokens = ⊥
  IsStrat upto left from (Map_of at num given inner body) tokens =
      (num ≡ from) × (OneAt (kind.Word word.Map) at ⨾ Opens upto left opening ⨾ IsName upto given ⨾ One comma
      ⨾ IsStrat upto (left - 1) (from + 1) inner ⨾ One comma
      ⨾ IsExpr upto (left - 1) 0 body ⨾ One close) tokens
  IsStrat upto left from (Filter_of at num given inner cond) tokens =
      (num ≡ from) × (OneAt (kind.Word word.Filter) at ⨾ Opens upto left opening ⨾ IsName upto given ⨾ One comma
      ⨾ IsStrat upto (left - 1) (from + 1) inner ⨾ One comma
      ⨾ IsExpr upto (left - 1) 0 cond ⨾ One close) tokens
  IsStrat upto left from (FlatMap_of at num given inner second) tokens =
      (num ≡ from) × (OneAt (kind.Word word.FlatMap) at ⨾ Opens upto left opening ⨾ IsName upto given ⨾ One comma
      ⨾ IsStrat upto (left - 1) (from + 1) inner ⨾ One comma
      ⨾ IsStrat upto (left - 1) (from + 1 + nodes inner) second ⨾ One close) tokens
  IsStrat upto left from (Recursive_of at num depth first second) tokens =
      (num ≡ from) × (OneAt (kind.Word word.Recursive) at ⨾ Opens upto left opening ⨾ Limited upto 1 8 depth ⨾ One comma
      ⨾ IsStrat upto (left - 1) (from + 1) first ⨾ One comma
      ⨾ IsStrat upto (left - 1) (from + 1 + nodes first) second ⨾ One close) tokens
  IsStrat upto left from (Self_of at num) tokens = (num ≡ 0) × OneAt (kind.Word word.Again) at tokens

  -- strategies, each behind a comma, where there is room for this many
  pub MoreStrats : Sort → ℕ → ℕ → ℕ → StratTrees → List Token → Type 0
  MoreStrats upto left room from no_strat tokens = tokens ≡ []
  MoreStrats upto left room from (more_strat first others) tokens =
      ((One comma ⨾ Part upto room (IsStrat upto left from first)) ⨾ MoreStrats upto left (room - 1) (from + nodes first) others) tokens
