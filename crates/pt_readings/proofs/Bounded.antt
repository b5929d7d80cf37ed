-- The suite that was read keeps the counts and bounds.
use Rattle.std.proofs.Common.{◌≡◌, ℕ, zero, suc, ◌+◌, ◌-◌, ◌<◌, ◌≤◌, max, ℤ, pos, ◌≤ℤ◌, Bool, true, false, List, [], ◌∷◌, ◌++◌, length, Option, Some, None, ◌⊎◌, inl, inr, refl, sym, ap, subst, ◌∙◌, arith}
use Rattle.std.specs.List.{AllByRecursion}
use Rattle.std.proofs.lemmas.Int.{ints}
use Rattle.std.proofs.Math.Nat.{max-le, le-max_left, le-max_right}
use Rattle.std.specs.Option.{option_to_list}
use Rattle.pt_val.specs.declared.place.Place.{Place}
use Rattle.pt_ast.specs.declared.expr.Op.{Op}
use Rattle.pt_ast.specs.declared.ident.Ident.{Ident}
use Rattle.pt_ast.specs.declared.strat.Alphabet.{Alphabet}
use Rattle.pt_ast.specs.declared.suite.Settings.{Settings}
use Rattle.pt_ast.specs.Types.{TypeTree, Int_type, Bool_type, Text_type, Bytes_type, Tree_type, List_type, Tuple_type, TypeTrees, no_type, more_type, types_in}
use Rattle.pt_ast.specs.Trees.{ExprTree, Num, Text_of, Bytes_of, Flag, Var, If_of, Or_of, And_of, Not_of, Compare_of, Sum_of, Prod_of, Neg_of, Post_of, Call_of, Bind_of, Bracket_of, Tuple_of, List_of, ExprTrees, no_expr, more_expr, exprs_in, TailTree, tail_of, TailTrees, no_tail, more_tail, tails_in, PostTree, index_of, part_of, PostTrees, no_post, more_post, posts_in, StratTree, Ints_of, Bools_of, Texts_of, Blobs_of, Sampled_of, Lists_of, Tuples_of, OneOf_of, Map_of, Filter_of, FlatMap_of, Recursive_of, Self_of, StratTrees, no_strat, more_strat, strats_in, StmtTree, Draw_of, Let_of, Assume_of, Assert_of, Pick_of, Set_of, Give_of, StateTree, BundleTree, InvariantTree, RuleTree, MachineTree, BodyTree, Check_of, Property_of, Machine_of, ItemTree, SuiteTree}
use Rattle.pt_ast.specs.Bounds.{IsBetween, IsBoundedType, AreBoundedTypes, IsBoundedExpr, AreBoundedExprs, AreBoundedTails, AreBoundedPosts, IsBoundedStrat, AreBoundedStrats, IsBoundedStmt, IsPlainStmt, gives, GivesLast, IsBoundedRule, IsBoundedMachine, IsBoundedBody, IsBounded, IsBoundedItem}
use Rattle.pt_ast.specs.Bounds.{AreSettings as Kept}
use Rattle.pt_ast.specs.Levels.{type_levels, types_levels, expr_levels, exprs_levels, tails_levels, posts_levels, strat_levels, strats_levels, stmt_levels, most_levels, rule_levels, machine_levels, body_levels, suite_levels}
use Rattle.pt_ast.specs.Numbers.{stmt_numbers, stmts_numbers, body_numbers}
use Rattle.pt_token.specs.declared.token.Token.{Token}
use Rattle.pt_token.specs.declared.token.Kind.{Kind}
use Rattle.pt_token.specs.declared.token.Kind.TheVariants as kind
use Rattle.pt_token.specs.declared.token.Word.TheVariants as word
use Rattle.pt_grammar.specs.declared.sort.Sort.TheVariants as sort
use Rattle.pt_grammar.specs.Tokens.{IsReal, IsText, opening, close, comma, open_brace, close_brace, sum_of, product_of, ending}
use Rattle.pt_grammar.specs.Forms.{◌⨾◌, One, OneAt, Opens, NestsAt, Fitting, IsName, Number, Limited, Part, Series, StandsInText}
use Rattle.pt_grammar.specs.TypeGrammar.{IsType, MoreTypes}
use Rattle.pt_grammar.specs.ExprGrammar.{IsExpr, Joined, MoreExprs, AreTails, ArePosts, IsPost, Operator}
use Rattle.pt_grammar.specs.StratGrammar.{IsStrat, MoreStrats, IsAlphabet, nodes}
use Rattle.pt_grammar.specs.SuiteGrammar.{IsStmt, AreStmts, IsGive, AreRuleStmts, IsState, IsBundle, IsInvariant, IsWhen, IsInto, IsRule, Declared, AreRules, IsMachine, Setting, Runs_of, Shrink_of, Steps_of, Allowed, all_settings, without, IsSetting, with_setting, settled, defaults, AreSettings, ItemOf, IsItem, AreItems, SuiteText}
use Rattle.pt_readings.specs.Laws.{FitsKind, KeepsBounds}
use Rattle.pt_readings.proofs.Types.{type_some}
use Rattle.pt_readings.proofs.ExprShapes.{expr_some}
use Rattle.pt_readings.proofs.Strats.{strat_some}
use Rattle.pt_readings.proofs.Forms.{at_some}
use Rattle.pt_readings.proofs.Suites.{item_some}

abbrev Good_token : Token → Type 0
Good_token token = IsReal token × FitsKind token.kind

abbrev AllGood : List Token → Type 0
AllGood = AllByRecursion Good_token

-- tokens of a text that are of this form
abbrev Good : (List Token → Type 0) → Type 0
Good A = (ts : List Token) × AllGood ts × A ts

good_front : (x y : List Token) → AllGood (x ++ y) → AllGood x
good_front [] y h = tt
good_front (t ∷ ts) y h = (h.0, good_front ts y h.1)

good_back : (x y : List Token) → AllGood (x ++ y) → AllGood y
good_back [] y h = h
good_back (t ∷ ts) y h = good_back ts y h.1

split : (A B : List Token → Type 0) (ts : List Token) → AllGood ts → (A ⨾ B) ts → Good A × Good B
split A B ts good (x, y, p, q, e) = let all : AllGood (x ++ y) = subst AllGood e good in ((x, good_front x y all, p), (y, good_back x y all, q))

opened : (left : ℕ) (k : Kind) → Good (Opens sort.OutOfRange left k) → 0 < left
opened left k (ts, good, (t, same, only, room)) = room tt (let all : AllGood (t ∷ []) = subst AllGood only good in all.0.0)

nested : (left : ℕ) (k : Kind) (at : Place) → Good (NestsAt sort.OutOfRange left k at) → 0 < left
nested left k at (ts, good, (t, same, stands, only, room)) = room tt (let all : AllGood (t ∷ []) = subst AllGood only good in all.0.0)

stands : (ts : List Token) → (ts ≡ [] → ⊥) → AllGood ts → StandsInText ts
stands [] some good = some refl
stands (t ∷ ts) some good = good.0.0

-- one level more
deeper : {n left : ℕ} → 0 < left → n ≤ left - 1 → 1 + n ≤ left
deeper {n} {left} lt le = omega (arith, lt, le)

-- ---- types

abbrev Bounded_type : ℕ → TypeTree → Type 0
Bounded_type left tree = IsBoundedType tree × (type_levels tree ≤ left)

mutual
  type_bounded : (left : ℕ) (tree : TypeTree) (ts : List Token) → AllGood ts → IsType sort.OutOfRange left tree ts → Bounded_type left tree
  type_bounded left Int_type ts good h = (tt, omega arith)
  type_bounded left Bool_type ts good h = (tt, omega arith)
  type_bounded left Text_type ts good h = (tt, omega arith)
  type_bounded left Bytes_type ts good h = (tt, omega arith)
  type_bounded left Tree_type ts good h = (tt, omega arith)
  type_bounded left (List_type member) ts good h =
      let a = split _ _ ts good h in
      let b = split _ _ a.1.0 a.1.1 a.1.2 in
      let c = split _ _ b.1.0 b.1.1 b.1.2 in
      let lt = opened left opening b.0 in
      let one = type_bounded (left - 1) member c.0.0 c.0.1 c.0.2 in (one.0, deeper lt one.1)
  type_bounded left (Tuple_type (more_type first (more_type second others))) ts good h =
      let a = split _ _ ts good h in
      let b = split _ _ a.1.0 a.1.1 a.1.2 in
      let c = split _ _ b.1.0 b.1.1 b.1.2 in
      let d = split _ _ c.1.0 c.1.1 c.1.2 in
      let e = split _ _ d.1.0 d.1.1 d.1.2 in
      let f = split _ _ e.1.0 e.1.1 e.1.2 in
      let lt = opened left opening b.0 in
      let one = type_bounded (left - 1) first c.0.0 c.0.1 c.0.2 in
      let two = type_bounded (left - 1) second e.0.0 e.0.1 e.0.2 in
      let more = types_bounded (left - 1) 6 others f.0.0 f.0.1 f.0.2 in
      (((omega arith, omega (arith, more.0)), (one.0, (two.0, more.1))), deeper lt (max-le one.1 (max-le two.1 more.2)))
  type_bounded left (Tuple_type other) ts good h = absurd h

  types_bounded : (left room : ℕ) (trees : TypeTrees) (ts : List Token) → AllGood ts → MoreTypes sort.OutOfRange left room trees ts → (length (types_in trees) ≤ room) × AreBoundedTypes trees × (types_levels trees ≤ left)
  types_bounded left room no_type ts good h = (omega arith, tt, omega arith)
  types_bounded left room (more_type first others) ts good h =
      let a = split _ _ ts good h in
      let b = split _ _ a.0.0 a.0.1 a.0.2 in
      let lt = b.1.2.1 tt (stands b.1.0 (λ nil. type_some sort.OutOfRange left first (subst (IsType sort.OutOfRange left first) nil b.1.2.0)) b.1.1) in
      let one = type_bounded left first b.1.0 b.1.1 b.1.2.0 in
      let more = types_bounded left (room - 1) others a.1.0 a.1.1 a.1.2 in
      (omega (arith, lt, more.0), (one.0, more.1), max-le one.1 more.2)

-- ---- expressions

abbrev Bounded : ℕ → ExprTree → Type 0
Bounded left tree = IsBoundedExpr tree × (expr_levels tree ≤ left)

fit_text : (chars : List ℕ) (at : Place) (ts : List Token) → AllGood ts → Fitting sort.OutOfRange (kind.Text chars) kind.LongText at ts → length chars ≤ 256
fit_text chars at ts good (t, inl k, stands, only) = let all : AllGood (t ∷ []) = subst AllGood only good in subst FitsKind k all.0.1
fit_text chars at ts good (t, inr k, stands, only) = let all : AllGood (t ∷ []) = subst AllGood only good in absurd (k.1 tt all.0.0)

fit_bytes : (bytes : List ℕ) (at : Place) (ts : List Token) → AllGood ts → Fitting sort.OutOfRange (kind.Bytes bytes) kind.LongBytes at ts → length bytes ≤ 64
fit_bytes bytes at ts good (t, inl k, stands, only) = let all : AllGood (t ∷ []) = subst AllGood only good in subst FitsKind k all.0.1
fit_bytes bytes at ts good (t, inr k, stands, only) = let all : AllGood (t ∷ []) = subst AllGood only good in absurd (k.1 tt all.0.0)

number_positive : (at : Place) (value : ℤ) (ts : List Token) → Number sort.OutOfRange at value ts → pos 0 ≤ℤ value
number_positive at value ts (t, n, k, stands, only, same, room) = subst (λ v. pos 0 ≤ℤ v) (sym same) (positive n) where
  positive : (n : ℕ) → pos 0 ≤ℤ pos n
  positive n = omega (arith, ints)

mutual
  expr_bounded : (left level : ℕ) (tree : ExprTree) (ts : List Token) → AllGood ts → IsExpr sort.OutOfRange left level tree ts → Bounded left tree
  expr_bounded left level (Num at number) ts good h = (tt, omega arith)
  expr_bounded left level (Text_of at chars) ts good h = (fit_text chars at ts good h, omega arith)
  expr_bounded left level (Bytes_of at bytes) ts good h = (fit_bytes bytes at ts good h, omega arith)
  expr_bounded left level (Flag at truth) ts good h = (tt, omega arith)
  expr_bounded left level (Var at name) ts good h = (tt, omega arith)
  expr_bounded left level (If_of at test first other) ts good h =
      let a = split _ _ ts good h.1 in
      let b = split _ _ a.1.0 a.1.1 a.1.2 in
      let c = split _ _ b.1.0 b.1.1 b.1.2 in
      let d = split _ _ c.1.0 c.1.1 c.1.2 in
      let e = split _ _ d.1.0 d.1.1 d.1.2 in
      let lt = nested left (kind.Word word.If) at a.0 in
      let one = expr_bounded (left - 1) 0 test b.0.0 b.0.1 b.0.2 in
      let two = expr_bounded (left - 1) 0 first d.0.0 d.0.1 d.0.2 in
      let three = expr_bounded (left - 1) 0 other e.1.0 e.1.1 e.1.2 in
      ((one.0, two.0, three.0), deeper lt (max-le one.1 (max-le two.1 three.1)))
  expr_bounded left level (Or_of at (more_expr first (more_expr second others))) ts good h =
      let a = split _ _ ts good h.2 in
      let one = expr_bounded left 2 first a.0.0 a.0.1 a.0.2 in
      let more = joined_bounded left (kind.Word word.Or) 2 (more_expr second others) a.1.0 a.1.1 a.1.2 in
      ((omega arith, (one.0, more.0)), max-le one.1 more.1)
  expr_bounded left level (Or_of at other) ts good h = absurd h
  expr_bounded left level (And_of at (more_expr first (more_expr second others))) ts good h =
      let a = split _ _ ts good h.2 in
      let one = expr_bounded left 3 first a.0.0 a.0.1 a.0.2 in
      let more = joined_bounded left (kind.Word word.And) 3 (more_expr second others) a.1.0 a.1.1 a.1.2 in
      ((omega arith, (one.0, more.0)), max-le one.1 more.1)
  expr_bounded left level (And_of at other) ts good h = absurd h
  expr_bounded left level (Not_of at part) ts good h =
      let a = split _ _ ts good h.1 in
      let lt = nested left (kind.Word word.Not) at a.0 in
      let one = expr_bounded (left - 1) 3 part a.1.0 a.1.1 a.1.2 in (one.0, deeper lt one.1)
  expr_bounded left level (Compare_of at first which second) ts good h =
      let a = split _ _ ts good h.2 in
      let b = split _ _ a.1.0 a.1.1 a.1.2 in
      let one = expr_bounded left 5 first a.0.0 a.0.1 a.0.2 in
      let two = expr_bounded left 5 second b.1.0 b.1.1 b.1.2 in
      ((one.0, two.0), max-le one.1 two.1)
  expr_bounded left level (Sum_of at first (more_tail tail others)) ts good h =
      let a = split _ _ ts good h.2 in
      let one = expr_bounded left 6 first a.0.0 a.0.1 a.0.2 in
      let more = tails_bounded left sum_of 6 (more_tail tail others) a.1.0 a.1.1 a.1.2 in
      ((omega arith, one.0, more.0), max-le one.1 more.1)
  expr_bounded left level (Sum_of at first no_tail) ts good h = absurd h
  expr_bounded left level (Prod_of at first (more_tail tail others)) ts good h =
      let a = split _ _ ts good h.2 in
      let one = expr_bounded left 7 first a.0.0 a.0.1 a.0.2 in
      let more = tails_bounded left product_of 7 (more_tail tail others) a.1.0 a.1.1 a.1.2 in
      ((omega arith, one.0, more.0), max-le one.1 more.1)
  expr_bounded left level (Prod_of at first no_tail) ts good h = absurd h
  expr_bounded left level (Neg_of at part) ts good h =
      let a = split _ _ ts good h.1 in
      let lt = nested left (kind.Minus false) at a.0 in
      let one = expr_bounded (left - 1) 7 part a.1.0 a.1.1 a.1.2 in (one.0, deeper lt one.1)
  expr_bounded left level (Post_of at base (more_post post others)) ts good h =
      let a = split _ _ ts good h.2 in
      let one = expr_bounded left 9 base a.0.0 a.0.1 a.0.2 in
      let more = posts_bounded left (more_post post others) a.1.0 a.1.1 a.1.2 in
      ((omega arith, one.0, more.0), max-le one.1 more.1)
  expr_bounded left level (Post_of at base no_post) ts good h = absurd h
  expr_bounded left level (Call_of at func (more_expr first others)) ts good h =
      let a = split _ _ ts good h in
      let b = split _ _ a.1.0 a.1.1 a.1.2 in
      let c = split _ _ b.1.0 b.1.1 b.1.2 in
      let d = split _ _ c.1.0 c.1.1 c.1.2 in
      let lt = opened left opening b.0 in
      let one = expr_bounded (left - 1) 0 first c.0.0 c.0.1 c.0.2 in
      let more = joined_bounded (left - 1) comma 0 others d.0.0 d.0.1 d.0.2 in
      ((omega arith, (one.0, more.0)), deeper lt (max-le one.1 more.1))
  expr_bounded left level (Call_of at func no_expr) ts good h = absurd h
  expr_bounded left level (Bind_of at binder given list body) ts good h =
      let a = split _ _ ts good h in
      let b = split _ _ a.1.0 a.1.1 a.1.2 in
      let c = split _ _ b.1.0 b.1.1 b.1.2 in
      let d = split _ _ c.1.0 c.1.1 c.1.2 in
      let e = split _ _ d.1.0 d.1.1 d.1.2 in
      let f = split _ _ e.1.0 e.1.1 e.1.2 in
      let i = split _ _ f.1.0 f.1.1 f.1.2 in
      let lt = opened left opening b.0 in
      let one = expr_bounded (left - 1) 0 list e.0.0 e.0.1 e.0.2 in
      let two = expr_bounded (left - 1) 0 body i.0.0 i.0.1 i.0.2 in
      ((one.0, two.0), deeper lt (max-le one.1 two.1))
  expr_bounded left level (Bracket_of at part) ts good h =
      let a = split _ _ ts good h in
      let b = split _ _ a.1.0 a.1.1 a.1.2 in
      let lt = nested left opening at a.0 in
      let one = expr_bounded (left - 1) 0 part b.0.0 b.0.1 b.0.2 in (one.0, deeper lt one.1)
  expr_bounded left level (Tuple_of at (more_expr first (more_expr second others))) ts good h =
      let a = split _ _ ts good h in
      let b = split _ _ a.1.0 a.1.1 a.1.2 in
      let c = split _ _ b.1.0 b.1.1 b.1.2 in
      let lt = nested left opening at a.0 in
      let one = expr_bounded (left - 1) 0 first b.0.0 b.0.1 b.0.2 in
      let more = parts_bounded (left - 1) 7 (more_expr second others) c.0.0 c.0.1 c.0.2 in
      (((omega arith, omega (arith, more.0)), (one.0, more.1)), deeper lt (max-le one.1 more.2))
  expr_bounded left level (Tuple_of at other) ts good h = absurd h
  expr_bounded left level (List_of at (more_expr first others)) ts good h =
      let a = split _ _ ts good h in
      let b = split _ _ a.1.0 a.1.1 a.1.2 in
      let c = split _ _ b.1.0 b.1.1 b.1.2 in
      let lt = nested left _ at a.0 in
      let one = expr_bounded (left - 1) 0 first b.0.0 b.0.1 b.0.2 in
      let more = parts_bounded (left - 1) 63 others c.0.0 c.0.1 c.0.2 in
      (((omega arith, omega (arith, more.0)), (one.0, more.1)), deeper lt (max-le one.1 more.2))
  expr_bounded left level (List_of at no_expr) ts good h = absurd h

  joined_bounded : (left : ℕ) (which : Kind) (level : ℕ) (trees : ExprTrees) (ts : List Token) → AllGood ts → Joined sort.OutOfRange left which level trees ts → AreBoundedExprs trees × (exprs_levels trees ≤ left)
  joined_bounded left which level no_expr ts good h = (tt, omega arith)
  joined_bounded left which level (more_expr first others) ts good h =
      let a = split _ _ ts good h in
      let b = split _ _ a.0.0 a.0.1 a.0.2 in
      let one = expr_bounded left level first b.1.0 b.1.1 b.1.2 in
      let more = joined_bounded left which level others a.1.0 a.1.1 a.1.2 in
      ((one.0, more.0), max-le one.1 more.1)

  parts_bounded : (left room : ℕ) (trees : ExprTrees) (ts : List Token) → AllGood ts → MoreExprs sort.OutOfRange left room trees ts → (length (exprs_in trees) ≤ room) × AreBoundedExprs trees × (exprs_levels trees ≤ left)
  parts_bounded left room no_expr ts good h = (omega arith, tt, omega arith)
  parts_bounded left room (more_expr first others) ts good h =
      let a = split _ _ ts good h in
      let b = split _ _ a.0.0 a.0.1 a.0.2 in
      let lt = b.1.2.1 tt (stands b.1.0 (λ nil. expr_some sort.OutOfRange left 0 first (subst (IsExpr sort.OutOfRange left 0 first) nil b.1.2.0)) b.1.1) in
      let one = expr_bounded left 0 first b.1.0 b.1.1 b.1.2.0 in
      let more = parts_bounded left (room - 1) others a.1.0 a.1.1 a.1.2 in
      (omega (arith, lt, more.0), (one.0, more.1), max-le one.1 more.2)

  tails_bounded : (left : ℕ) (operator : Kind → Option Op) (level : ℕ) (trees : TailTrees) (ts : List Token) → AllGood ts → AreTails sort.OutOfRange left operator level trees ts → AreBoundedTails trees × (tails_levels trees ≤ left)
  tails_bounded left operator level no_tail ts good h = (tt, omega arith)
  tails_bounded left operator level (more_tail (tail_of at which right) others) ts good h =
      let a = split _ _ ts good h in
      let b = split _ _ a.0.0 a.0.1 a.0.2 in
      let one = expr_bounded left level right b.1.0 b.1.1 b.1.2 in
      let more = tails_bounded left operator level others a.1.0 a.1.1 a.1.2 in
      ((one.0, more.0), max-le one.1 more.1)

  posts_bounded : (left : ℕ) (trees : PostTrees) (ts : List Token) → AllGood ts → ArePosts sort.OutOfRange left trees ts → AreBoundedPosts trees × (posts_levels trees ≤ left)
  posts_bounded left no_post ts good h = (tt, omega arith)
  posts_bounded left (more_post (index_of at index) others) ts good h =
      let a = split _ _ ts good h in
      let b = split _ _ a.0.0 a.0.1 a.0.2 in
      let c = split _ _ b.1.0 b.1.1 b.1.2 in
      let lt = nested left _ at b.0 in
      let one = expr_bounded (left - 1) 0 index c.0.0 c.0.1 c.0.2 in
      let more = posts_bounded left others a.1.0 a.1.1 a.1.2 in
      ((one.0, more.0), max-le (deeper lt one.1) more.1)
  posts_bounded left (more_post (part_of at part) others) ts good h =
      let a = split _ _ ts good h in
      let b = split _ _ a.0.0 a.0.1 a.0.2 in
      let more = posts_bounded left others a.1.0 a.1.1 a.1.2 in
      ((number_positive at part b.1.0 b.1.2, more.0), more.1)

-- ---- strategies

abbrev Bounded_strat : ℕ → StratTree → Type 0
Bounded_strat left tree = IsBoundedStrat tree × (strat_levels tree ≤ left)

alphabet_kept : (alphabet : Alphabet) → Good (IsAlphabet sort.OutOfRange alphabet) → IsBetween 1 256 (length alphabet.chars)
alphabet_kept alphabet (ts, good, (t, inl (k, some), stands, only)) = let all : AllGood (t ∷ []) = subst AllGood only good in (some tt all.0.0, subst FitsKind k all.0.1)
alphabet_kept alphabet (ts, good, (t, inr (k, minds), stands, only)) = let all : AllGood (t ∷ []) = subst AllGood only good in absurd (minds tt all.0.0)

limited_kept : (least most n : ℕ) → Good (Limited sort.OutOfRange least most n) → IsBetween least most n
limited_kept least most n (ts, good, (t, k, only, room)) = room tt (let all : AllGood (t ∷ []) = subst AllGood only good in all.0.0)

mutual
  strat_bounded : (left from : ℕ) (tree : StratTree) (ts : List Token) → AllGood ts → IsStrat sort.OutOfRange left from tree ts → Bounded_strat left tree
  strat_bounded left from (Ints_of at num lo hi) ts good h =
      let a = split _ _ ts good h.1 in
      let b = split _ _ a.1.0 a.1.1 a.1.2 in
      let c = split _ _ b.1.0 b.1.1 b.1.2 in
      let d = split _ _ c.1.0 c.1.1 c.1.2 in
      let e = split _ _ d.1.0 d.1.1 d.1.2 in
      let lt = opened left opening b.0 in
      let one = expr_bounded (left - 1) 0 lo c.0.0 c.0.1 c.0.2 in
      let two = expr_bounded (left - 1) 0 hi e.0.0 e.0.1 e.0.2 in
      ((one.0, two.0), deeper lt (max-le one.1 two.1))
  strat_bounded left from (Bools_of at num) ts good h =
      let a = split _ _ ts good h.1 in
      let b = split _ _ a.1.0 a.1.1 a.1.2 in
      let lt = opened left opening b.0 in (tt, omega (arith, lt))
  strat_bounded left from (Texts_of at num alphabet lo hi) ts good h =
      let a = split _ _ ts good h.1 in
      let b = split _ _ a.1.0 a.1.1 a.1.2 in
      let c = split _ _ b.1.0 b.1.1 b.1.2 in
      let d = split _ _ c.1.0 c.1.1 c.1.2 in
      let e = split _ _ d.1.0 d.1.1 d.1.2 in
      let f = split _ _ e.1.0 e.1.1 e.1.2 in
      let i = split _ _ f.1.0 f.1.1 f.1.2 in
      let lt = opened left opening b.0 in
      let one = expr_bounded (left - 1) 0 lo e.0.0 e.0.1 e.0.2 in
      let two = expr_bounded (left - 1) 0 hi i.0.0 i.0.1 i.0.2 in
      ((alphabet_kept alphabet c.0, one.0, two.0), deeper lt (max-le one.1 two.1))
  strat_bounded left from (Blobs_of at num lo hi) ts good h =
      let a = split _ _ ts good h.1 in
      let b = split _ _ a.1.0 a.1.1 a.1.2 in
      let c = split _ _ b.1.0 b.1.1 b.1.2 in
      let d = split _ _ c.1.0 c.1.1 c.1.2 in
      let e = split _ _ d.1.0 d.1.1 d.1.2 in
      let lt = opened left opening b.0 in
      let one = expr_bounded (left - 1) 0 lo c.0.0 c.0.1 c.0.2 in
      let two = expr_bounded (left - 1) 0 hi e.0.0 e.0.1 e.0.2 in
      ((one.0, two.0), deeper lt (max-le one.1 two.1))
  strat_bounded left from (Sampled_of at num list) ts good h =
      let a = split _ _ ts good h.1 in
      let b = split _ _ a.1.0 a.1.1 a.1.2 in
      let c = split _ _ b.1.0 b.1.1 b.1.2 in
      let lt = opened left opening b.0 in
      let one = expr_bounded (left - 1) 0 list c.0.0 c.0.1 c.0.2 in (one.0, deeper lt one.1)
  strat_bounded left from (Lists_of at num element lo hi) ts good h =
      let a = split _ _ ts good h.1 in
      let b = split _ _ a.1.0 a.1.1 a.1.2 in
      let c = split _ _ b.1.0 b.1.1 b.1.2 in
      let d = split _ _ c.1.0 c.1.1 c.1.2 in
      let e = split _ _ d.1.0 d.1.1 d.1.2 in
      let f = split _ _ e.1.0 e.1.1 e.1.2 in
      let i = split _ _ f.1.0 f.1.1 f.1.2 in
      let lt = opened left opening b.0 in
      let zero = strat_bounded (left - 1) (from + 1) element c.0.0 c.0.1 c.0.2 in
      let one = expr_bounded (left - 1) 0 lo e.0.0 e.0.1 e.0.2 in
      let two = expr_bounded (left - 1) 0 hi i.0.0 i.0.1 i.0.2 in
      ((zero.0, one.0, two.0), deeper lt (max-le zero.1 (max-le one.1 two.1)))
  strat_bounded left from (Tuples_of at num (more_strat first (more_strat second others))) ts good h =
      let a = split _ _ ts good h.1 in
      let b = split _ _ a.1.0 a.1.1 a.1.2 in
      let c = split _ _ b.1.0 b.1.1 b.1.2 in
      let d = split _ _ c.1.0 c.1.1 c.1.2 in
      let e = split _ _ d.1.0 d.1.1 d.1.2 in
      let f = split _ _ e.1.0 e.1.1 e.1.2 in
      let lt = opened left opening b.0 in
      let one = strat_bounded (left - 1) _ first c.0.0 c.0.1 c.0.2 in
      let two = strat_bounded (left - 1) _ second e.0.0 e.0.1 e.0.2 in
      let more = strats_bounded (left - 1) 6 _ others f.0.0 f.0.1 f.0.2 in
      (((omega arith, omega (arith, more.0)), (one.0, (two.0, more.1))), deeper lt (max-le one.1 (max-le two.1 more.2)))
  strat_bounded left from (Tuples_of at num other) ts good h = absurd h
  strat_bounded left from (OneOf_of at num (more_strat first others)) ts good h =
      let a = split _ _ ts good h.1 in
      let b = split _ _ a.1.0 a.1.1 a.1.2 in
      let c = split _ _ b.1.0 b.1.1 b.1.2 in
      let d = split _ _ c.1.0 c.1.1 c.1.2 in
      let lt = opened left opening b.0 in
      let one = strat_bounded (left - 1) _ first c.0.0 c.0.1 c.0.2 in
      let more = strats_bounded (left - 1) 15 _ others d.0.0 d.0.1 d.0.2 in
      (((omega arith, omega (arith, more.0)), (one.0, more.1)), deeper lt (max-le one.1 more.2))
  strat_bounded left from (OneOf_of at num no_strat) ts good h = absurd h
  strat_bounded left from (Map_of at num given inner body) ts good h =
      let a = split _ _ ts good h.1 in
      let b = split _ _ a.1.0 a.1.1 a.1.2 in
      let c = split _ _ b.1.0 b.1.1 b.1.2 in
      let d = split _ _ c.1.0 c.1.1 c.1.2 in
      let e = split _ _ d.1.0 d.1.1 d.1.2 in
      let f = split _ _ e.1.0 e.1.1 e.1.2 in
      let i = split _ _ f.1.0 f.1.1 f.1.2 in
      let lt = opened left opening b.0 in
      let one = strat_bounded (left - 1) _ inner e.0.0 e.0.1 e.0.2 in
      let two = expr_bounded (left - 1) 0 body i.0.0 i.0.1 i.0.2 in
      ((one.0, two.0), deeper lt (max-le one.1 two.1))
  strat_bounded left from (Filter_of at num given inner cond) ts good h =
      let a = split _ _ ts good h.1 in
      let b = split _ _ a.1.0 a.1.1 a.1.2 in
      let c = split _ _ b.1.0 b.1.1 b.1.2 in
      let d = split _ _ c.1.0 c.1.1 c.1.2 in
      let e = split _ _ d.1.0 d.1.1 d.1.2 in
      let f = split _ _ e.1.0 e.1.1 e.1.2 in
      let i = split _ _ f.1.0 f.1.1 f.1.2 in
      let lt = opened left opening b.0 in
      let one = strat_bounded (left - 1) _ inner e.0.0 e.0.1 e.0.2 in
      let two = expr_bounded (left - 1) 0 cond i.0.0 i.0.1 i.0.2 in
      ((one.0, two.0), deeper lt (max-le one.1 two.1))
  strat_bounded left from (FlatMap_of at num given inner second) ts good h =
      let a = split _ _ ts good h.1 in
      let b = split _ _ a.1.0 a.1.1 a.1.2 in
      let c = split _ _ b.1.0 b.1.1 b.1.2 in
      let d = split _ _ c.1.0 c.1.1 c.1.2 in
      let e = split _ _ d.1.0 d.1.1 d.1.2 in
      let f = split _ _ e.1.0 e.1.1 e.1.2 in
      let i = split _ _ f.1.0 f.1.1 f.1.2 in
      let lt = opened left opening b.0 in
      let one = strat_bounded (left - 1) _ inner e.0.0 e.0.1 e.0.2 in
      let two = strat_bounded (left - 1) _ second i.0.0 i.0.1 i.0.2 in
      ((one.0, two.0), deeper lt (max-le one.1 two.1))
  strat_bounded left from (Recursive_of at num depth first second) ts good h =
      let a = split _ _ ts good h.1 in
      let b = split _ _ a.1.0 a.1.1 a.1.2 in
      let c = split _ _ b.1.0 b.1.1 b.1.2 in
      let d = split _ _ c.1.0 c.1.1 c.1.2 in
      let e = split _ _ d.1.0 d.1.1 d.1.2 in
      let f = split _ _ e.1.0 e.1.1 e.1.2 in
      let i = split _ _ f.1.0 f.1.1 f.1.2 in
      let lt = opened left opening b.0 in
      let one = strat_bounded (left - 1) _ first e.0.0 e.0.1 e.0.2 in
      let two = strat_bounded (left - 1) _ second i.0.0 i.0.1 i.0.2 in
      ((limited_kept 1 8 depth c.0, one.0, two.0), deeper lt (max-le one.1 two.1))
  strat_bounded left from (Self_of at num) ts good h = (h.0, omega arith)

  strats_bounded : (left room from : ℕ) (trees : StratTrees) (ts : List Token) → AllGood ts → MoreStrats sort.OutOfRange left room from trees ts → (length (strats_in trees) ≤ room) × AreBoundedStrats trees × (strats_levels trees ≤ left)
  strats_bounded left room from no_strat ts good h = (omega arith, tt, omega arith)
  strats_bounded left room from (more_strat first others) ts good h =
      let a = split _ _ ts good h in
      let b = split _ _ a.0.0 a.0.1 a.0.2 in
      let lt = b.1.2.1 tt (stands b.1.0 (λ nil. strat_some sort.OutOfRange left from first (subst (IsStrat sort.OutOfRange left from first) nil b.1.2.0)) b.1.1) in
      let one = strat_bounded left from first b.1.0 b.1.1 b.1.2.0 in
      let more = strats_bounded left (room - 1) (from + nodes first) others a.1.0 a.1.1 a.1.2 in
      (omega (arith, lt, more.0), (one.0, more.1), max-le one.1 more.2)

-- ---- statements

abbrev Bounded_stmt : ℕ → StmtTree → Type 0
Bounded_stmt left tree = IsBoundedStmt tree × (stmt_levels tree ≤ left)

stmt_bounded : (left : ℕ) (in_rule : Bool) (from : ℕ) (tree : StmtTree) (ts : List Token) → AllGood ts → IsStmt sort.OutOfRange left in_rule from tree ts → Bounded_stmt left tree
stmt_bounded left in_rule from (Draw_of at given strat) ts good h =
    let a = split _ _ ts good h in
    let b = split _ _ a.1.0 a.1.1 a.1.2 in
    let c = split _ _ b.1.0 b.1.1 b.1.2 in
    let d = split _ _ c.1.0 c.1.1 c.1.2 in strat_bounded left from strat d.0.0 d.0.1 d.0.2
stmt_bounded left in_rule from (Let_of at given value) ts good h =
    let a = split _ _ ts good h in
    let b = split _ _ a.1.0 a.1.1 a.1.2 in
    let c = split _ _ b.1.0 b.1.1 b.1.2 in
    let d = split _ _ c.1.0 c.1.1 c.1.2 in expr_bounded left 0 value d.0.0 d.0.1 d.0.2
stmt_bounded left in_rule from (Assume_of at cond) ts good h =
    let a = split _ _ ts good h in
    let b = split _ _ a.1.0 a.1.1 a.1.2 in expr_bounded left 0 cond b.0.0 b.0.1 b.0.2
stmt_bounded left in_rule from (Assert_of at cond) ts good h =
    let a = split _ _ ts good h in
    let b = split _ _ a.1.0 a.1.1 a.1.2 in expr_bounded left 0 cond b.0.0 b.0.1 b.0.2
stmt_bounded left in_rule from (Pick_of at num given bundle) ts good h = (tt, omega arith)
stmt_bounded left in_rule from (Set_of at state value) ts good h =
    let a = split _ _ ts good h.1 in
    let b = split _ _ a.1.0 a.1.1 a.1.2 in
    let c = split _ _ b.1.0 b.1.1 b.1.2 in
    let d = split _ _ c.1.0 c.1.1 c.1.2 in expr_bounded left 0 value d.0.0 d.0.1 d.0.2
stmt_bounded left in_rule from (Give_of at value) ts good h = absurd h

stmts_bounded : (left : ℕ) (in_rule : Bool) (from : ℕ) (stmts : List StmtTree) (ts : List Token) → AllGood ts → AreStmts sort.OutOfRange left in_rule from stmts ts → AllByRecursion IsBoundedStmt stmts × (most_levels stmt_levels stmts ≤ left)
stmts_bounded left in_rule from [] ts good h = (tt, omega arith)
stmts_bounded left in_rule from (first ∷ others) ts good h =
    let a = split _ _ ts good h in
    let one = stmt_bounded left in_rule from first a.0.0 a.0.1 a.0.2 in
    let more = stmts_bounded left in_rule (from + length (stmt_numbers first)) others a.1.0 a.1.1 a.1.2 in
    ((one.0, more.0), max-le one.1 more.1)

-- a property has plain statements alone
stmt_plain : (left from : ℕ) (tree : StmtTree) (ts : List Token) → IsStmt sort.OutOfRange left false from tree ts → IsPlainStmt tree
stmt_plain left from (Draw_of at given strat) ts h = tt
stmt_plain left from (Let_of at given value) ts h = tt
stmt_plain left from (Assume_of at cond) ts h = tt
stmt_plain left from (Assert_of at cond) ts h = tt
stmt_plain left from (Pick_of at num given bundle) ts h = let clash : false ≡ true = h.0 in cc
stmt_plain left from (Set_of at state value) ts h = let clash : false ≡ true = h.0 in cc
stmt_plain left from (Give_of at value) ts h = h

stmts_plain : (left from : ℕ) (stmts : List StmtTree) (ts : List Token) → AreStmts sort.OutOfRange left false from stmts ts → AllByRecursion IsPlainStmt stmts
stmts_plain left from [] ts h = tt
stmts_plain left from (first ∷ others) ts (x, y, p, q, e) = (stmt_plain left from first x p, stmts_plain left (from + length (stmt_numbers first)) others y q)

-- ---- rules

no_give : (left : ℕ) (in_rule : Bool) (from : ℕ) (tree : StmtTree) (ts : List Token) → IsStmt sort.OutOfRange left in_rule from tree ts → gives tree ≡ false
no_give left in_rule from (Draw_of at given strat) ts h = refl
no_give left in_rule from (Let_of at given value) ts h = refl
no_give left in_rule from (Assume_of at cond) ts h = refl
no_give left in_rule from (Assert_of at cond) ts h = refl
no_give left in_rule from (Pick_of at num given bundle) ts h = refl
no_give left in_rule from (Set_of at state value) ts h = refl
no_give left in_rule from (Give_of at value) ts h = absurd h

give_two : (left : ℕ) (a b : StmtTree) (others : List StmtTree) (ts : List Token) → IsGive sort.OutOfRange left (a ∷ b ∷ others) ts → ⊥
give_two left (Give_of at value) b others ts h = h
give_two left (Draw_of at given strat) b others ts h = h
give_two left (Let_of at given value) b others ts h = h
give_two left (Assume_of at cond) b others ts h = h
give_two left (Assert_of at cond) b others ts h = h
give_two left (Pick_of at num given bundle) b others ts h = h
give_two left (Set_of at state value) b others ts h = h

gives_last : (left from : ℕ) (own given : List StmtTree) (ts us : List Token) → AreStmts sort.OutOfRange left true from own ts → IsGive sort.OutOfRange left given us → GivesLast (own ++ given)
gives_last left from [] [] ts us h k = tt
gives_last left from [] (a ∷ []) ts us h k = tt
gives_last left from [] (a ∷ b ∷ others) ts us h k = absurd (give_two left a b others us k)
gives_last left from (a ∷ []) [] ts us h k = tt
gives_last left from (a ∷ []) (b ∷ []) ts us (x, y, p, q, e) k = (no_give left true from a x p, tt)
gives_last left from (a ∷ []) (b ∷ c ∷ others) ts us h k = absurd (give_two left b c others us k)
gives_last left from (a ∷ b ∷ own) given ts us (x, y, p, q, e) k = (no_give left true from a x p, gives_last left (from + length (stmt_numbers a)) (b ∷ own) given y us q k)

give_bounded : (left : ℕ) (given : List StmtTree) (ts : List Token) → AllGood ts → IsGive sort.OutOfRange left given ts → AllByRecursion IsBoundedStmt given × (most_levels stmt_levels given ≤ left)
give_bounded left [] ts good h = (tt, omega arith)
give_bounded left (Give_of at value ∷ []) ts good h =
    let a = split _ _ ts good h in
    let b = split _ _ a.1.0 a.1.1 a.1.2 in
    let one = expr_bounded left 0 value b.0.0 b.0.1 b.0.2 in ((one.0, tt), max-le one.1 (omega arith))
give_bounded left (Draw_of at given strat ∷ []) ts good h = absurd h
give_bounded left (Let_of at given value ∷ []) ts good h = absurd h
give_bounded left (Assume_of at cond ∷ []) ts good h = absurd h
give_bounded left (Assert_of at cond ∷ []) ts good h = absurd h
give_bounded left (Pick_of at num given bundle ∷ []) ts good h = absurd h
give_bounded left (Set_of at state value ∷ []) ts good h = absurd h
give_bounded left (a ∷ b ∷ others) ts good h = absurd (give_two left a b others ts h)

both_bounded : (left : ℕ) (own given : List StmtTree) → AllByRecursion IsBoundedStmt own × (most_levels stmt_levels own ≤ left) → AllByRecursion IsBoundedStmt given × (most_levels stmt_levels given ≤ left)
    → AllByRecursion IsBoundedStmt (own ++ given) × (most_levels stmt_levels (own ++ given) ≤ left)
both_bounded left [] given h k = k
both_bounded left (a ∷ own) given h k =
    let more = both_bounded left own given (h.0.1, omega (arith, h.1, le-max_right (stmt_levels a) (most_levels stmt_levels own))) k in
    ((h.0.0, more.0), max-le (omega (arith, h.1, le-max_left (stmt_levels a) (most_levels stmt_levels own))) more.1)

rule_stmts_bounded : (left from : ℕ) (stmts : List StmtTree) (ts : List Token) → AllGood ts → AreRuleStmts sort.OutOfRange left from stmts ts → AllByRecursion IsBoundedStmt stmts × (most_levels stmt_levels stmts ≤ left) × GivesLast stmts
rule_stmts_bounded left from stmts ts good (own, given, same, h) =
    let a = split _ _ ts good h in
    let all = both_bounded left own given (stmts_bounded left true from own a.0.0 a.0.1 a.0.2) (give_bounded left given a.1.0 a.1.1 a.1.2) in
    subst (λ w. AllByRecursion IsBoundedStmt w × (most_levels stmt_levels w ≤ left) × GivesLast w) (sym same) (all.0, all.1, gives_last left from own given a.0.0 a.1.0 a.0.2 a.1.2)

when_bounded : (left : ℕ) (cond : Option ExprTree) (ts : List Token) → AllGood ts → IsWhen sort.OutOfRange left cond ts → AllByRecursion IsBoundedExpr (option_to_list cond) × (most_levels expr_levels (option_to_list cond) ≤ left)
when_bounded left None ts good h = (tt, omega arith)
when_bounded left (Some cond) ts good h = let a = split _ _ ts good h in let one = expr_bounded left 0 cond a.1.0 a.1.1 a.1.2 in ((one.0, tt), max-le one.1 (omega arith))

rule_bounded : (left from : ℕ) (rule : RuleTree) (ts : List Token) → AllGood ts → IsRule sort.OutOfRange left from rule ts → IsBoundedRule rule × (rule_levels rule ≤ left)
rule_bounded left from rule ts good h =
    let a = split _ _ ts good h in
    let b = split _ _ a.1.0 a.1.1 a.1.2 in
    let c = split _ _ b.1.0 b.1.1 b.1.2 in
    let d = split _ _ c.1.0 c.1.1 c.1.2 in
    let e = split _ _ d.1.0 d.1.1 d.1.2 in
    let f = split _ _ e.1.0 e.1.1 e.1.2 in
    let lt = opened left open_brace e.0 in
    let one = when_bounded left rule.when c.0.0 c.0.1 c.0.2 in
    let all = rule_stmts_bounded (left - 1) from rule.stmts f.0.0 f.0.1 f.0.2 in
    ((one.0, all.0, all.2), max-le one.1 (deeper lt all.1))

-- ---- machines

module _ {A : Type 0} (Spells : A → List Token → Type 0) (Kept : A → Type 0) (levels : A → ℕ) (left : ℕ) (some : (a : A) → Spells a [] → ⊥)
    (kept : (a : A) (ts : List Token) → AllGood ts → Spells a ts → Kept a × (levels a ≤ left)) where
  row_bounded : (room : ℕ) (parts : List A) (ts : List Token) → AllGood ts → Series (λ room (part : A). Part sort.OutOfRange room (Spells part)) (λ room part. room - 1) room parts ts
      → (length parts ≤ room) × AllByRecursion Kept parts × (most_levels levels parts ≤ left)
  row_bounded room [] ts good h = (omega arith, tt, omega arith)
  row_bounded room (first ∷ others) ts good h =
      let a = split _ _ ts good h in
      let lt = a.0.2.1 tt (stands a.0.0 (λ nil. some first (subst (Spells first) nil a.0.2.0)) a.0.1) in
      let one = kept first a.0.0 a.0.1 a.0.2.0 in
      let more = row_bounded (room - 1) others a.1.0 a.1.1 a.1.2 in
      (omega (arith, lt, more.0), (one.0, more.1), max-le one.1 more.2)

state_bounded : (left : ℕ) (state : StateTree) (ts : List Token) → AllGood ts → IsState sort.OutOfRange left state ts → IsBoundedExpr state.init × (expr_levels state.init ≤ left)
state_bounded left state ts good h =
    let a = split _ _ ts good h in
    let b = split _ _ a.1.0 a.1.1 a.1.2 in
    let c = split _ _ b.1.0 b.1.1 b.1.2 in
    let d = split _ _ c.1.0 c.1.1 c.1.2 in expr_bounded left 0 state.init d.0.0 d.0.1 d.0.2

bundle_bounded : (left : ℕ) (bundle : BundleTree) (ts : List Token) → AllGood ts → IsBundle sort.OutOfRange left bundle ts → IsBoundedType bundle.type × (type_levels bundle.type ≤ left)
bundle_bounded left bundle ts good h =
    let a = split _ _ ts good h in
    let b = split _ _ a.1.0 a.1.1 a.1.2 in
    let c = split _ _ b.1.0 b.1.1 b.1.2 in
    let d = split _ _ c.1.0 c.1.1 c.1.2 in type_bounded left bundle.type d.0.0 d.0.1 d.0.2

invariant_bounded : (left : ℕ) (invariant : InvariantTree) (ts : List Token) → AllGood ts → IsInvariant sort.OutOfRange left invariant ts → IsBoundedExpr invariant.cond × (expr_levels invariant.cond ≤ left)
invariant_bounded left invariant ts good h =
    let a = split _ _ ts good h in
    let b = split _ _ a.1.0 a.1.1 a.1.2 in expr_bounded left 0 invariant.cond b.0.0 b.0.1 b.0.2

rules_bounded : (left room from : ℕ) (rules : List RuleTree) (ts : List Token) → AllGood ts → AreRules sort.OutOfRange left room from rules ts
    → (length rules ≤ room) × AllByRecursion IsBoundedRule rules × (most_levels rule_levels rules ≤ left)
rules_bounded left room from [] ts good h = (omega arith, tt, omega arith)
rules_bounded left room from (first ∷ others) ts good h =
    let a = split _ _ ts good h in
    let lt = a.0.2.1 tt (stands a.0.0 (λ nil. at_some _ _ _ (subst (IsRule sort.OutOfRange left from first) nil a.0.2.0)) a.0.1) in
    let one = rule_bounded left from first a.0.0 a.0.1 a.0.2.0 in
    let more = rules_bounded left (room - 1) (from + length (stmts_numbers first.stmts)) others a.1.0 a.1.1 a.1.2 in
    (omega (arith, lt, more.0), (one.0, more.1), max-le one.1 more.2)

machine_bounded : (left from : ℕ) (machine : MachineTree) (ts : List Token) → AllGood ts → IsMachine sort.OutOfRange left from machine ts → IsBoundedMachine machine × (1 + machine_levels machine ≤ left)
machine_bounded left from machine ts good h =
    let a = split _ _ ts good h.1 in
    let b = split _ _ a.1.0 a.1.1 a.1.2 in
    let c = split _ _ b.1.0 b.1.1 b.1.2 in
    let d = split _ _ c.1.0 c.1.1 c.1.2 in
    let e = split _ _ d.1.0 d.1.1 d.1.2 in
    let lt = opened left open_brace a.0 in
    let one = row_bounded (IsState sort.OutOfRange (left - 1)) (λ state. IsBoundedExpr state.init) (λ state. expr_levels state.init) (left - 1) (λ x k. at_some _ _ _ k) (state_bounded (left - 1)) 64 machine.states b.0.0 b.0.1 b.0.2 in
    let two = row_bounded (IsBundle sort.OutOfRange (left - 1)) (λ bundle. IsBoundedType bundle.type) (λ bundle. type_levels bundle.type) (left - 1) (λ x k. at_some _ _ _ k) (bundle_bounded (left - 1)) 64 machine.bundles c.0.0 c.0.1 c.0.2 in
    let three = row_bounded (IsInvariant sort.OutOfRange (left - 1)) (λ invariant. IsBoundedExpr invariant.cond) (λ invariant. expr_levels invariant.cond) (left - 1) (λ x k. at_some _ _ _ k) (invariant_bounded (left - 1)) 64 machine.invariants d.0.0 d.0.1 d.0.2 in
    let four = rules_bounded (left - 1) 64 (from + 1) machine.rules e.0.0 e.0.1 e.0.2 in (
      record { few_states = one.0; few_bundles = two.0; few_invariants = three.0; few_rules = four.0; states = one.1; bundles = two.1; invariants = three.1; rules = four.1 },
      deeper lt (max-le (max-le one.2 two.2) (max-le three.2 four.2)),
    )

-- ---- settings, items and suites

setting_kept : (allowed : Allowed) (setting : Setting) (settings : Settings) (ts : List Token) → AllGood ts → IsSetting sort.OutOfRange allowed setting ts → Kept settings → Kept (with_setting settings setting)
setting_kept allowed (Runs_of n) settings ts good h k = let a = split _ _ ts good h.1 in (limited_kept 1 10000 n a.1, k.1, k.2)
setting_kept allowed (Shrink_of n) settings ts good h k = let a = split _ _ ts good h.1 in (k.0, (limited_kept 0 1000 n a.1).1, k.2)
setting_kept allowed (Steps_of n) settings ts good h k = let a = split _ _ ts good h.1 in (k.0, k.1, limited_kept 1 64 n a.1)

settled_kept : (allowed : Allowed) (list : List Setting) (settings : Settings) (ts : List Token) → AllGood ts → Series (IsSetting sort.OutOfRange) without allowed list ts → Kept settings → Kept (settled settings list)
settled_kept allowed [] settings ts good h k = k
settled_kept allowed (first ∷ others) settings ts good h k =
    let a = split _ _ ts good h in settled_kept (without allowed first) others (with_setting settings first) a.1.0 a.1.1 a.1.2 (setting_kept allowed first settings a.0.0 a.0.1 a.0.2 k)

settings_kept : (steps : Bool) (settings : Settings) → Good (AreSettings sort.OutOfRange steps settings) → Kept settings
settings_kept steps settings (ts, good, (list, same, h)) =
    subst Kept (sym same) (settled_kept (all_settings steps) list defaults ts good h ((omega arith, omega arith), omega arith, (omega arith, omega arith)))

body_bounded : (from : ℕ) (place : Place) (name : Ident) (settings : Settings) (body : BodyTree) (ts : List Token) → AllGood ts → ItemOf sort.OutOfRange from place name settings body ts
    → Kept settings × IsBoundedBody body × (body_levels body ≤ 64)
body_bounded from place name settings Check_of ts good h =
    let a = split _ _ ts good h in
    let b = split _ _ a.1.0 a.1.1 a.1.2 in (settings_kept false settings b.1, tt, omega arith)
body_bounded from place name settings (Property_of stmts) ts good h =
    let a = split _ _ ts good h in
    let b = split _ _ a.1.0 a.1.1 a.1.2 in
    let c = split _ _ b.1.0 b.1.1 b.1.2 in
    let d = split _ _ c.1.0 c.1.1 c.1.2 in
    let e = split _ _ d.1.0 d.1.1 d.1.2 in
    let all = stmts_bounded 63 false from stmts e.0.0 e.0.1 e.0.2 in
    (settings_kept false settings c.0, (all.0, stmts_plain 63 from stmts e.0.0 e.0.2), omega (arith, all.1))
body_bounded from place name settings (Machine_of machine) ts good h =
    let a = split _ _ ts good h in
    let b = split _ _ a.1.0 a.1.1 a.1.2 in
    let c = split _ _ b.1.0 b.1.1 b.1.2 in
    let all = machine_bounded 64 from machine c.1.0 c.1.1 c.1.2 in
    (settings_kept true settings c.0, all.0, all.1)

items_bounded : (room from : ℕ) (items : List ItemTree) (ts : List Token) → AllGood ts → AreItems sort.OutOfRange room from items ts
    → (length items ≤ room) × AllByRecursion IsBoundedItem items × (most_levels (λ item. body_levels item.body) items ≤ 64)
items_bounded room from [] ts good h = (omega arith, tt, omega arith)
items_bounded room from (first ∷ others) ts good h =
    let a = split _ _ ts good h in
    let lt = a.0.2.1 tt (stands a.0.0 (λ nil. item_some sort.OutOfRange from first (subst (IsItem sort.OutOfRange from first) nil a.0.2.0)) a.0.1) in
    let one = body_bounded from first.at first.name first.settings first.body a.0.0 a.0.1 a.0.2.0 in
    let more = items_bounded (room - 1) (from + length (body_numbers first.body)) others a.1.0 a.1.1 a.1.2 in
    (omega (arith, lt, more.0), ((one.0, one.1), more.1), max-le one.2 more.2)

all_good : (tokens : List Token) → AllByRecursion IsReal tokens → AllByRecursion (λ token. FitsKind token.kind) tokens → AllGood tokens
all_good [] real fit = tt
all_good (t ∷ ts) real fit = ((real.0, fit.0), all_good ts real.1 fit.1)

pub keeps_bounds : KeepsBounds
keeps_bounds tokens suite text fit h =
    let a = split _ _ tokens (all_good tokens text.real fit) h in
    let all = items_bounded 200 0 suite.items a.0.0 a.0.1 a.0.2 in
    record { few_items = all.0; not_deep = all.2; items = all.1 }
