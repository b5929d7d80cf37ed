-- What is known of an expression's tokens by its tree and its level.
use Rattle.std.proofs.Common.{◌≡◌, ℕ, zero, suc, ◌-◌, ◌<◌, ◌≤◌, ℤ, pos, Bool, true, false, List, [], ◌∷◌, ◌++◌, Option, Some, None, ◌⊎◌, inl, inr, refl, sym, ap, subst, ◌∙◌, arith}
use Rattle.pt_val.specs.declared.place.Place.{Place}
use Rattle.pt_ast.specs.declared.expr.Op.{Op}
use Rattle.pt_ast.specs.Trees.{ExprTree, Num, Text_of, Bytes_of, Flag, Var, If_of, Or_of, And_of, Not_of, Compare_of, Sum_of, Prod_of, Neg_of, Post_of, Call_of, Bind_of, Bracket_of, Tuple_of, List_of, ExprTrees, no_expr, more_expr, exprs_of, exprs_in, TailTree, tail_of, TailTrees, no_tail, more_tail, tails_of, tails_in, PostTree, index_of, part_of, PostTrees, no_post, more_post, posts_of, posts_in}
use Rattle.pt_token.specs.declared.token.Token.{Token}
use Rattle.pt_token.specs.declared.token.Kind.{Kind}
use Rattle.pt_token.specs.declared.token.Kind.TheVariants as kind
use Rattle.pt_token.specs.declared.token.Mark.TheVariants as mark
use Rattle.pt_token.specs.declared.token.Word.TheVariants as word
use Rattle.pt_grammar.specs.declared.sort.Sort.{Sort}
use Rattle.pt_grammar.specs.Tokens.{IsReal, comma, sum_of, product_of}
use Rattle.pt_grammar.specs.Forms.{◌⨾◌, One, OneAt, Opens, NestsAt, Fitting, Number, Magnitude, MindsAll, StartsAt, Part}
use Rattle.pt_grammar.specs.ExprGrammar.{IsExpr, Joined, MoreExprs, AreTails, ArePosts, IsPost, Operator, flag_kind}
use Rattle.pt_readings.specs.Faults.{Family}
use Rattle.pt_grammar.specs.Reading.{less_room}
use Rattle.pt_grammar.specs.ExprReading.{alone}
use Rattle.pt_readings.proofs.Outcomes.{Some_of}
use Rattle.pt_readings.proofs.Forms.{made, unreal, After, at_head, at_then, at_some, nests_then, nests_some}
use Rattle.pt_readings.proofs.Lists.{Roomy, Many}
use Rattle.pt_readings.proofs.Single.{fitting_one}

abbrev pub Level : ℕ → ℕ → Family ExprTree
Level left k s = IsExpr s left k

-- an expression has a first token
pub expr_some : (s : Sort) (left level : ℕ) (tree : ExprTree) → IsExpr s left level tree [] → ⊥
expr_some s left level (Num at number) (inl h) = let only = h.4 in cc
expr_some s left level (Num at number) (inr h) = at_some _ _ _ h.1
expr_some s left level (Text_of at chars) h = let only = h.3 in cc
expr_some s left level (Bytes_of at bytes) h = let only = h.3 in cc
expr_some s left level (Flag at truth) h = let only = h.3 in cc
expr_some s left level (Var at name) h = let only = h.3 in cc
expr_some s left level (If_of at test first other) h = nests_some _ _ _ _ _ h.1
expr_some s left level (Or_of at (more_expr first (more_expr second others))) h = h.1
expr_some s left level (Or_of at other) h = h
expr_some s left level (And_of at (more_expr first (more_expr second others))) h = h.1
expr_some s left level (And_of at other) h = h
expr_some s left level (Not_of at part) h = nests_some _ _ _ _ _ h.1
expr_some s left level (Compare_of at first which second) h = h.1
expr_some s left level (Sum_of at first (more_tail tail others)) h = h.1
expr_some s left level (Sum_of at first no_tail) h = h
expr_some s left level (Prod_of at first (more_tail tail others)) h = h.1
expr_some s left level (Prod_of at first no_tail) h = h
expr_some s left level (Neg_of at part) h = nests_some _ _ _ _ _ h.1
expr_some s left level (Post_of at base (more_post post others)) h = h.1
expr_some s left level (Post_of at base no_post) h = h
expr_some s left level (Call_of at func (more_expr first others)) h = at_some _ _ _ h
expr_some s left level (Call_of at func no_expr) h = h
expr_some s left level (Bind_of at binder given list body) h = at_some _ _ _ h
expr_some s left level (Bracket_of at part) h = nests_some _ _ _ _ _ h
expr_some s left level (Tuple_of at (more_expr first (more_expr second others))) h = nests_some _ _ _ _ _ h
expr_some s left level (Tuple_of at other) h = h
expr_some s left level (List_of at (more_expr first others)) h = nests_some _ _ _ _ _ h
expr_some s left level (List_of at no_expr) h = h

-- below which level an expression begins with such a token: 0 where none does
abbrev pub head_level : Kind → ℕ
head_level (kind.Word word.If) = 1
head_level (kind.Word word.Not) = 4
head_level (kind.Minus number) = 8
head_level (kind.Number n) = 10
head_level (kind.Text chars) = 10
head_level kind.LongText = 10
head_level (kind.Bytes bytes) = 10
head_level kind.LongBytes = 10
head_level (kind.Name name) = 10
head_level kind.LongName = 10
head_level (kind.Word word.True) = 10
head_level (kind.Word word.False) = 10
head_level (kind.Word (word.Func func)) = 10
head_level (kind.Word (word.Binder binder)) = 10
head_level (kind.Mark mark.OpenParen) = 10
head_level (kind.Mark mark.OpenBracket) = 10
head_level other = 0

first_of_two : (A B : List Token → Type 0) (t : Token) (x : List Token) → (A [] → ⊥) → (A ⨾ B) (t ∷ x) → (y : List Token) × A (t ∷ y)
first_of_two A B t x empty ([], z, p, q, e) = absurd (empty p)
first_of_two A B t x empty (u ∷ us, z, p, q, e) = let same : u ≡ t = cc in (us, subst (λ (c : Token). A (c ∷ us)) same p)

head_is : (level : ℕ) (t : Token) (k : Kind) → t.kind ≡ k → level < head_level k → level < head_level t.kind
head_is level t k same lt = subst (λ w. level < head_level w) (sym same) lt

fit_head : (s : Sort) (which long : Kind) (at : Place) (level : ℕ) (t : Token) (x : List Token) → level ≤ 9 → head_level which ≡ 10 → head_level long ≡ 10 → Fitting s which long at (t ∷ x) → level < head_level t.kind
fit_head s which long at level t x le one two h = cases (fitting_one s which long at t x h).0 where
  cases : (t.kind ≡ which) ⊎ ((t.kind ≡ long) × (MindsAll s → IsReal t → ⊥)) → level < head_level t.kind
  cases (inl k) = head_is level t which k (omega (arith, le, one))
  cases (inr k) = head_is level t long k.0 (omega (arith, le, two))

pub expr_head : (s : Sort) (left level : ℕ) → level ≤ 9 → (tree : ExprTree) (t : Token) (x : List Token) → IsExpr s left level tree (t ∷ x) → level < head_level t.kind
expr_head s left level le (Num at number) t x (inl (u, n, k, p, only, v, room)) = let same : u ≡ t = cc in head_is level t (kind.Number n) (subst (λ (c : Token). c.kind ≡ kind.Number n) same k) (omega (arith, le))
expr_head s left level le (Num at number) t x (inr h) = head_is level t (kind.Minus true) (at_then _ _ _ t x h.1).0 (omega (arith, h.0))
expr_head s left level le (Text_of at chars) t x h = fit_head s (kind.Text chars) kind.LongText at level t x le refl refl h
expr_head s left level le (Bytes_of at bytes) t x h = fit_head s (kind.Bytes bytes) kind.LongBytes at level t x le refl refl h
expr_head s left level le (Flag at true) t x h = head_is level t (kind.Word word.True) (at_head _ _ t x h).0 (omega (arith, le))
expr_head s left level le (Flag at false) t x h = head_is level t (kind.Word word.False) (at_head _ _ t x h).0 (omega (arith, le))
expr_head s left level le (Var at name) t x h = fit_head s (kind.Name name) kind.LongName at level t x le refl refl h
expr_head s left level le (If_of at test first other) t x h = head_is level t (kind.Word word.If) (nests_then _ _ _ _ _ t x h.1).0 (omega (arith, h.0))
expr_head s left level le (Or_of at (more_expr first (more_expr second others))) t x h =
    let one = first_of_two _ _ t x (λ p. expr_some s left 2 first p) h.2 in let deep = expr_head s left 2 (omega arith) first t one.0 one.1 in omega (arith, deep, h.0)
expr_head s left level le (Or_of at other) t x h = absurd h
expr_head s left level le (And_of at (more_expr first (more_expr second others))) t x h =
    let one = first_of_two _ _ t x (λ p. expr_some s left 3 first p) h.2 in let deep = expr_head s left 3 (omega arith) first t one.0 one.1 in omega (arith, deep, h.0)
expr_head s left level le (And_of at other) t x h = absurd h
expr_head s left level le (Not_of at part) t x h = head_is level t (kind.Word word.Not) (nests_then _ _ _ _ _ t x h.1).0 (omega (arith, h.0))
expr_head s left level le (Compare_of at first which second) t x h =
    let one = first_of_two _ _ t x (λ p. expr_some s left 5 first p) h.2 in let deep = expr_head s left 5 (omega arith) first t one.0 one.1 in omega (arith, deep, h.0)
expr_head s left level le (Sum_of at first (more_tail tail others)) t x h =
    let one = first_of_two _ _ t x (λ p. expr_some s left 6 first p) h.2 in let deep = expr_head s left 6 (omega arith) first t one.0 one.1 in omega (arith, deep, h.0)
expr_head s left level le (Sum_of at first no_tail) t x h = absurd h
expr_head s left level le (Prod_of at first (more_tail tail others)) t x h =
    let one = first_of_two _ _ t x (λ p. expr_some s left 7 first p) h.2 in let deep = expr_head s left 7 (omega arith) first t one.0 one.1 in omega (arith, deep, h.0)
expr_head s left level le (Prod_of at first no_tail) t x h = absurd h
expr_head s left level le (Neg_of at part) t x h = head_is level t (kind.Minus false) (nests_then _ _ _ _ _ t x h.1).0 (omega (arith, h.0))
expr_head s left level le (Post_of at base (more_post post others)) t x h =
    let one = first_of_two _ _ t x (λ p. expr_some s left 9 base p) h.2 in let deep = expr_head s left 9 (omega arith) base t one.0 one.1 in omega (arith, deep, h.0)
expr_head s left level le (Post_of at base no_post) t x h = absurd h
expr_head s left level le (Call_of at func (more_expr first others)) t x h = head_is level t (kind.Word (word.Func func)) (at_then _ _ _ t x h).0 (omega (arith, le))
expr_head s left level le (Call_of at func no_expr) t x h = absurd h
expr_head s left level le (Bind_of at binder given list body) t x h = head_is level t (kind.Word (word.Binder binder)) (at_then _ _ _ t x h).0 (omega (arith, le))
expr_head s left level le (Bracket_of at part) t x h = head_is level t (kind.Mark mark.OpenParen) (nests_then _ _ _ _ _ t x h).0 (omega (arith, le))
expr_head s left level le (Tuple_of at (more_expr first (more_expr second others))) t x h = head_is level t (kind.Mark mark.OpenParen) (nests_then _ _ _ _ _ t x h).0 (omega (arith, le))
expr_head s left level le (Tuple_of at other) t x h = absurd h
expr_head s left level le (List_of at (more_expr first others)) t x h = head_is level t (kind.Mark mark.OpenBracket) (nests_then _ _ _ _ _ t x h).0 (omega (arith, le))
expr_head s left level le (List_of at no_expr) t x h = absurd h

-- the level of a tree's own form; a number may be one with a minus sign
abbrev pub level_of : ExprTree → ℕ
level_of (If_of at test first other) = 0
level_of (Or_of at parts) = 1
level_of (And_of at parts) = 2
level_of (Not_of at part) = 3
level_of (Compare_of at first which second) = 4
level_of (Sum_of at first tails) = 5
level_of (Prod_of at first tails) = 6
level_of (Neg_of at part) = 7
level_of (Num at number) = 9
level_of (Post_of at base posts) = 8
level_of other = 9

-- an expression of a level is one of each looser level
pub looser : (s : Sort) (left j k : ℕ) → j ≤ k → (tree : ExprTree) (ts : List Token) → IsExpr s left k tree ts → IsExpr s left j tree ts
looser s left j k lt (Num at number) ts (inl h) = inl h
looser s left j k lt (Num at number) ts (inr h) = inr (omega (arith, lt, h.0), h.1)
looser s left j k lt (Text_of at chars) ts h = h
looser s left j k lt (Bytes_of at bytes) ts h = h
looser s left j k lt (Flag at truth) ts h = h
looser s left j k lt (Var at name) ts h = h
looser s left j k lt (If_of at test first other) ts h = (omega (arith, lt, h.0), h.1)
looser s left j k lt (Or_of at (more_expr first (more_expr second others))) ts h = (omega (arith, lt, h.0), h.1, h.2)
looser s left j k lt (Or_of at other) ts h = h
looser s left j k lt (And_of at (more_expr first (more_expr second others))) ts h = (omega (arith, lt, h.0), h.1, h.2)
looser s left j k lt (And_of at other) ts h = h
looser s left j k lt (Not_of at part) ts h = (omega (arith, lt, h.0), h.1)
looser s left j k lt (Compare_of at first which second) ts h = (omega (arith, lt, h.0), h.1, h.2)
looser s left j k lt (Sum_of at first (more_tail tail others)) ts h = (omega (arith, lt, h.0), h.1, h.2)
looser s left j k lt (Sum_of at first no_tail) ts h = h
looser s left j k lt (Prod_of at first (more_tail tail others)) ts h = (omega (arith, lt, h.0), h.1, h.2)
looser s left j k lt (Prod_of at first no_tail) ts h = h
looser s left j k lt (Neg_of at part) ts h = (omega (arith, lt, h.0), h.1)
looser s left j k lt (Post_of at base (more_post post others)) ts h = (omega (arith, lt, h.0), h.1, h.2)
looser s left j k lt (Post_of at base no_post) ts h = h
looser s left j k lt (Call_of at func (more_expr first others)) ts h = h
looser s left j k lt (Call_of at func no_expr) ts h = h
looser s left j k lt (Bind_of at binder given list body) ts h = h
looser s left j k lt (Bracket_of at part) ts h = h
looser s left j k lt (Tuple_of at (more_expr first (more_expr second others))) ts h = h
looser s left j k lt (Tuple_of at other) ts h = h
looser s left j k lt (List_of at (more_expr first others)) ts h = h
looser s left j k lt (List_of at no_expr) ts h = h

-- an expression of a level that is none of its own form is one of the next tighter level
pub tighter : (s : Sort) (left k : ℕ) (tree : ExprTree) → ((at : Place) (n : ℤ) → tree ≡ Num at n → (k < 7) ⊎ (7 < k)) → (ts : List Token) → k < level_of tree → IsExpr s left k tree ts → IsExpr s left (suc k) tree ts
tighter s left k (Num at number) plain ts lt (inl h) = inl h
tighter s left k (Num at number) plain ts lt (inr h) = elim (plain at number refl) [ inl few ↦ inr (omega (arith, few), h.1) | inr many ↦ absurd (omega (arith, many, h.0)) ]
tighter s left k (Text_of at chars) plain ts lt h = h
tighter s left k (Bytes_of at bytes) plain ts lt h = h
tighter s left k (Flag at truth) plain ts lt h = h
tighter s left k (Var at name) plain ts lt h = h
tighter s left k (If_of at test first next) plain ts lt h = (omega (arith, lt), h.1)
tighter s left k (Or_of at (more_expr first (more_expr second others))) plain ts lt h = (omega (arith, lt), h.1, h.2)
tighter s left k (Or_of at others) plain ts lt h = h
tighter s left k (And_of at (more_expr first (more_expr second others))) plain ts lt h = (omega (arith, lt), h.1, h.2)
tighter s left k (And_of at others) plain ts lt h = h
tighter s left k (Not_of at part) plain ts lt h = (omega (arith, lt), h.1)
tighter s left k (Compare_of at first which second) plain ts lt h = (omega (arith, lt), h.1, h.2)
tighter s left k (Sum_of at first (more_tail tail others)) plain ts lt h = (omega (arith, lt), h.1, h.2)
tighter s left k (Sum_of at first no_tail) plain ts lt h = h
tighter s left k (Prod_of at first (more_tail tail others)) plain ts lt h = (omega (arith, lt), h.1, h.2)
tighter s left k (Prod_of at first no_tail) plain ts lt h = h
tighter s left k (Neg_of at part) plain ts lt h = (omega (arith, lt), h.1)
tighter s left k (Post_of at base (more_post post others)) plain ts lt h = (omega (arith, lt), h.1, h.2)
tighter s left k (Post_of at base no_post) plain ts lt h = h
tighter s left k (Call_of at func (more_expr first others)) plain ts lt h = h
tighter s left k (Call_of at func no_expr) plain ts lt h = h
tighter s left k (Bind_of at binder given list body) plain ts lt h = h
tighter s left k (Bracket_of at part) plain ts lt h = h
tighter s left k (Tuple_of at (more_expr first (more_expr second others))) plain ts lt h = h
tighter s left k (Tuple_of at others) plain ts lt h = h
tighter s left k (List_of at (more_expr first others)) plain ts lt h = h
tighter s left k (List_of at no_expr) plain ts lt h = h

-- the level of a tree's form is no looser than that which it must have
pub reaches : (s : Sort) (left k : ℕ) → k ≤ 9 → (tree : ExprTree) (ts : List Token) → IsExpr s left k tree ts → k ≤ level_of tree
reaches s left k le (If_of at test first next) ts h = h.0
reaches s left k le (Or_of at (more_expr first (more_expr second others))) ts h = h.0
reaches s left k le (Or_of at others) ts h = absurd h
reaches s left k le (And_of at (more_expr first (more_expr second others))) ts h = h.0
reaches s left k le (And_of at others) ts h = absurd h
reaches s left k le (Not_of at part) ts h = h.0
reaches s left k le (Compare_of at first which second) ts h = h.0
reaches s left k le (Sum_of at first (more_tail tail others)) ts h = h.0
reaches s left k le (Sum_of at first no_tail) ts h = absurd h
reaches s left k le (Prod_of at first (more_tail tail others)) ts h = h.0
reaches s left k le (Prod_of at first no_tail) ts h = absurd h
reaches s left k le (Neg_of at part) ts h = h.0
reaches s left k le (Post_of at base (more_post post others)) ts h = h.0
reaches s left k le (Post_of at base no_post) ts h = absurd h
reaches s left k le other ts h = le

-- expressions, operators, indexes and parts, in a list

abbrev pub Operand : ℕ → ℕ → Kind → Family ExprTree
Operand left k which = After which (Level left k)

pub joined_to : (s : Sort) (left : ℕ) (which : Kind) (k : ℕ) (trees : ExprTrees) (ts : List Token) → Joined s left which k trees ts → Many {Given = Unit {0}} (λ u. Operand left k which) alone tt s (exprs_in trees) ts
joined_to s left which k no_expr ts h = h
joined_to s left which k (more_expr first others) ts (x, y, p, q, e) = (x, y, p, joined_to s left which k others y q, e)

pub joined_from : (s : Sort) (left : ℕ) (which : Kind) (k : ℕ) (list : List ExprTree) (ts : List Token) → Many {Given = Unit {0}} (λ u. Operand left k which) alone tt s list ts → Joined s left which k (exprs_of list) ts
joined_from s left which k [] ts h = h
joined_from s left which k (first ∷ others) ts (x, y, p, q, e) = (x, y, p, joined_from s left which k others y q, e)

abbrev pub Part_behind : ℕ → ℕ → Family ExprTree
Part_behind left room = After comma (Roomy room (Level left 0))

pub more_to : (s : Sort) (left room : ℕ) (trees : ExprTrees) (ts : List Token) → MoreExprs s left room trees ts → Many (Part_behind left) less_room room s (exprs_in trees) ts
more_to s left room no_expr ts h = h
more_to s left room (more_expr first others) ts (x, y, p, q, e) = (x, y, p, more_to s left (room - 1) others y q, e)

pub more_from : (s : Sort) (left room : ℕ) (list : List ExprTree) (ts : List Token) → Many (Part_behind left) less_room room s list ts → MoreExprs s left room (exprs_of list) ts
more_from s left room [] ts h = h
more_from s left room (first ∷ others) ts (x, y, p, q, e) = (x, y, p, more_from s left (room - 1) others y q, e)

pub exprs_again : (trees : ExprTrees) → trees ≡ exprs_of (exprs_in trees)
exprs_again no_expr = refl
exprs_again (more_expr first others) = ap (λ t. more_expr first t) (exprs_again others)

abbrev pub Tail_form : ℕ → (Kind → Option Op) → ℕ → Family TailTree
Tail_form left operator k s (tail_of at which right) ts = (Operator operator at which ⨾ IsExpr s left k right) ts

pub tails_to : (s : Sort) (left : ℕ) (operator : Kind → Option Op) (k : ℕ) (trees : TailTrees) (ts : List Token) → AreTails s left operator k trees ts → Many {Given = Unit {0}} (λ u. Tail_form left operator k) alone tt s (tails_in trees) ts
tails_to s left operator k no_tail ts h = h
tails_to s left operator k (more_tail (tail_of at which right) others) ts (x, y, p, q, e) = (x, y, p, tails_to s left operator k others y q, e)

pub tails_from : (s : Sort) (left : ℕ) (operator : Kind → Option Op) (k : ℕ) (list : List TailTree) (ts : List Token) → Many {Given = Unit {0}} (λ u. Tail_form left operator k) alone tt s list ts → AreTails s left operator k (tails_of list) ts
tails_from s left operator k [] ts h = h
tails_from s left operator k (tail_of at which right ∷ others) ts (x, y, p, q, e) = (x, y, p, tails_from s left operator k others y q, e)

pub tails_again : (trees : TailTrees) → trees ≡ tails_of (tails_in trees)
tails_again no_tail = refl
tails_again (more_tail first others) = ap (λ t. more_tail first t) (tails_again others)

abbrev pub Post_form : ℕ → Family PostTree
Post_form left s = IsPost s left

pub posts_to : (s : Sort) (left : ℕ) (trees : PostTrees) (ts : List Token) → ArePosts s left trees ts → Many {Given = Unit {0}} (λ u. Post_form left) alone tt s (posts_in trees) ts
posts_to s left no_post ts h = h
posts_to s left (more_post first others) ts (x, y, p, q, e) = (x, y, p, posts_to s left others y q, e)

pub posts_from : (s : Sort) (left : ℕ) (list : List PostTree) (ts : List Token) → Many {Given = Unit {0}} (λ u. Post_form left) alone tt s list ts → ArePosts s left (posts_of list) ts
posts_from s left [] ts h = h
posts_from s left (first ∷ others) ts (x, y, p, q, e) = (x, y, p, posts_from s left others y q, e)

pub posts_again : (trees : PostTrees) → trees ≡ posts_of (posts_in trees)
posts_again no_post = refl
posts_again (more_post first others) = ap (λ t. more_post first t) (posts_again others)

-- a number with which a text that was cut off is ended
abbrev pub made_zero : ExprTree
made_zero = Num (record { line = 0; column = 0 }) (pos 0)

pub some_expr : (left k : ℕ) → Some_of (Level left k)
some_expr left k = (made_zero, made (kind.Number 0) ∷ [], λ s. inl (made (kind.Number 0), 0, refl, refl, refl, refl, λ minds real. absurd (unreal (kind.Number 0) real)), λ real. unreal (kind.Number 0) real)
