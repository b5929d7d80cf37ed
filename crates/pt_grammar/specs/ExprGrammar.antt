-- The grammar of expressions: which tokens spell a tree.
--
-- The level says how tightly an expression must hold together: 0 is any, 1 is from `or` on, 2 from `and`, 3 from `not`, 4 from
-- comparisons, 5 from sums, 6 from products, 7 from minus signs, 8 from indexes and parts, and 9 what stands by itself.
use Rattle.std.specs.Prelude.{◌≡◌, ◌⊎◌, ℕ, ◌-◌, ◌≤◌, ℤ, Bool, true, false, Option, Some, List, [], ◌∷◌}
use Rattle.pt_val.specs.declared.place.Place.{Place}
use Rattle.pt_ast.specs.declared.expr.CompareOp.{CompareOp}
use Rattle.pt_ast.specs.declared.expr.Op.{Op}
use Rattle.pt_ast.specs.Trees.{ExprTree, Num, Text_of, Bytes_of, Flag, Var, If_of, Or_of, And_of, Not_of, Compare_of, Sum_of, Prod_of, Neg_of, Post_of, Call_of, Bind_of, Bracket_of, Tuple_of, List_of, ExprTrees, no_expr, more_expr, TailTree, tail_of, TailTrees, no_tail, more_tail, PostTree, index_of, part_of, PostTrees, no_post, more_post}
use Rattle.pt_token.specs.declared.token.Token.{Token}
use Rattle.pt_token.specs.declared.token.Kind.{Kind}
use Rattle.pt_token.specs.declared.token.Kind.TheVariants as kind
use Rattle.pt_token.specs.declared.token.Word.TheVariants as word
use Rattle.pt_grammar.specs.declared.sort.Sort.{Sort}
use Rattle.pt_grammar.specs.Tokens.{opening, close, open_square, close_square, comma, dot, compare_of, sum_of, product_of}
use Rattle.pt_grammar.specs.Forms.{◌⨾◌, One, OneAt, Opens, NestsAt, Fitting, IsName, Number, Magnitude, StartsAt, Part}

-- an operator that stands there, by what a token of its kind stands for
abbrev pub Operator : {A : Type 0} → (Kind → Option A) → Place → A → List Token → Type 0
Operator operator at which tokens = (token : Token) × (operator token.kind ≡ Some which) × (token.at ≡ at) × (tokens ≡ token ∷ [])

abbrev pub Compares : CompareOp → List Token → Type 0
Compares which tokens = (at : Place) × Operator compare_of at which tokens

-- a truth value's word
abbrev pub flag_kind : Bool → Kind
flag_kind true = kind.Word word.True
flag_kind false = kind.Word word.False

abbrev mutual
  -- an expression of this level or a tighter one, where this many levels of nesting are left
  pub IsExpr : Sort → ℕ → ℕ → ExprTree → List Token → Type 0
  IsExpr upto left level (Num at number) tokens =
      Number upto at number tokens ⊎ ((level ≤ 7) × (OneAt (kind.Minus true) at ⨾ Magnitude upto number) tokens)
  IsExpr upto left level (Text_of at chars) tokens = Fitting upto (kind.Text chars) kind.LongText at tokens
  IsExpr upto left level (Bytes_of at bytes) tokens = Fitting upto (kind.Bytes bytes) kind.LongBytes at tokens
  IsExpr upto left level (Flag at truth) tokens = OneAt (flag_kind truth) at tokens
  IsExpr upto left level (Var at name) tokens = Fitting upto (kind.Name name) kind.LongName at tokens
  IsExpr upto left level (If_of at test first other) tokens =
      (level ≤ 0) × (NestsAt upto left (kind.Word word.If) at ⨾ IsExpr upto (left - 1) 0 test ⨾ One (kind.Word word.Then)
      ⨾ IsExpr upto (left - 1) 0 first ⨾ One (kind.Word word.Else) ⨾ IsExpr upto (left - 1) 0 other) tokens
  IsExpr upto left level (Or_of at (more_expr first (more_expr second others))) tokens =
      (level ≤ 1) × StartsAt at tokens × (IsExpr upto left 2 first ⨾ Joined upto left (kind.Word word.Or) 2 (more_expr second others)) tokens
  IsExpr upto left level (Or_of at other) tokens = ⊥
  IsExpr upto left level (And_of at (more_expr first (more_expr second others))) tokens =
      (level ≤ 2) × StartsAt at tokens × (IsExpr upto left 3 first ⨾ Joined upto left (kind.Word word.And) 3 (more_expr second others)) tokens
  IsExpr upto left level (And_of at other) tokens = ⊥
  IsExpr upto left level (Not_of at part) tokens = (level ≤ 3) × (NestsAt upto left (kind.Word word.Not) at ⨾ IsExpr upto (left - 1) 3 part) tokens
  IsExpr upto left level (Compare_of at first which second) tokens =
      (level ≤ 4) × StartsAt at tokens × (IsExpr upto left 5 first ⨾ Compares which ⨾ IsExpr upto left 5 second) tokens
  IsExpr upto left level (Sum_of at first (more_tail tail others)) tokens =
      (level ≤ 5) × StartsAt at tokens × (IsExpr upto left 6 first ⨾ AreTails upto left sum_of 6 (more_tail tail others)) tokens
  IsExpr upto left level (Sum_of at first no_tail) tokens = ⊥
  IsExpr upto left level (Prod_of at first (more_tail tail others)) tokens =
      (level ≤ 6) × StartsAt at tokens × (IsExpr upto left 7 first ⨾ AreTails upto left product_of 7 (more_tail tail others)) tokens
  IsExpr upto left level (Prod_of at first no_tail) tokens = ⊥
  IsExpr upto left level (Neg_of at part) tokens = (level ≤ 7) × (NestsAt upto left (kind.Minus false) at ⨾ IsExpr upto (left - 1) 7 part) tokens
  IsExpr upto left level (Post_of at base (more_post post others)) tokens =
      (level ≤ 8) × StartsAt at tokens × (IsExpr upto left 9 base ⨾ ArePosts upto left (more_post post others)) tokens
  IsExpr upto left level (Post_of at base no_post) tokens = ⊥
  IsExpr upto left level (Call_of at func (more_expr first others)) tokens =
      (OneAt (kind.Word (word.Func func)) at ⨾ Opens upto left opening ⨾ IsExpr upto (left - 1) 0 first ⨾ Joined upto (left - 1) comma 0 others
      ⨾ One close) tokens
  IsExpr upto left level (Call_of at func no_expr) tokens = ⊥
  IsExpr upto left level (Bind_of at binder given list body) tokens =
      (OneAt (kind.Word (word.Binder binder)) at ⨾ Opens upto left opening ⨾ IsName upto given ⨾ One comma ⨾ IsExpr upto (left - 1) 0 list ⨾ One comma
      ⨾ IsExpr upto (left - 1) 0 body ⨾ One close) tokens
  IsExpr upto left level (Bracket_of at part) tokens = (NestsAt upto left opening at ⨾ IsExpr upto (left - 1) 0 part ⨾ One close) tokens
  IsExpr upto left level (Tuple_of at (more_expr first (more_expr second others))) tokens =
      (NestsAt upto left opening at ⨾ IsExpr upto (left - 1) 0 first ⨾ MoreExprs upto (left - 1) 7 (more_expr second others) ⨾ One close) tokens
  IsExpr upto left level (Tuple_of at other) tokens = ⊥
  IsExpr upto left level (List_of at (more_expr first others)) tokens =
      (NestsAt upto left open_square at ⨾ IsExpr upto (left - 1) 0 first ⨾ MoreExprs upto (left - 1) 63 others ⨾ One close_square) tokens
  IsExpr upto left level (List_of at no_expr) tokens = ⊥

  -- operands, each behind a token of this kind
  pub Joined : Sort → ℕ → Kind → ℕ → ExprTrees → List Token → Type 0
  Joined upto left which level no_expr tokens = tokens ≡ []
  Joined upto left which level (more_expr first others) tokens =
      ((One which ⨾ IsExpr upto left level first) ⨾ Joined upto left which level others) tokens

  -- expressions, each behind a comma, where there is room for this many
  pub MoreExprs : Sort → ℕ → ℕ → ExprTrees → List Token → Type 0
  MoreExprs upto left room no_expr tokens = tokens ≡ []
  MoreExprs upto left room (more_expr first others) tokens =
      ((One comma ⨾ Part upto room (IsExpr upto left 0 first)) ⨾ MoreExprs upto left (room - 1) others) tokens

  -- operators of a chain, each with what stands on its right
  pub AreTails : Sort → ℕ → (Kind → Option Op) → ℕ → TailTrees → List Token → Type 0
  AreTails upto left operator level no_tail tokens = tokens ≡ []
  AreTails upto left operator level (more_tail (tail_of at which right) others) tokens =
      ((Operator operator at which ⨾ IsExpr upto left level right) ⨾ AreTails upto left operator level others) tokens

  -- indexes and parts
  pub ArePosts : Sort → ℕ → PostTrees → List Token → Type 0
  ArePosts upto left no_post tokens = tokens ≡ []
  ArePosts upto left (more_post first others) tokens = (IsPost upto left first ⨾ ArePosts upto left others) tokens

  pub IsPost : Sort → ℕ → PostTree → List Token → Type 0
  IsPost upto left (index_of at index) tokens = (NestsAt upto left open_square at ⨾ IsExpr upto (left - 1) 0 index ⨾ One close_square) tokens
  IsPost upto left (part_of at part) tokens = (One dot ⨾ Number upto at part) tokens
