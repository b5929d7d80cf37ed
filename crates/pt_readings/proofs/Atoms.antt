-- Expressions that stand by themselves, and indexes and parts.
use Rattle.std.proofs.Common.{◌≡◌, ℕ, zero, suc, ◌-◌, ◌<◌, ◌≤◌, ◌||◌, ℤ, Bool, true, false, List, [], ◌∷◌, ◌++◌, Result, Ok, Err, Option, Some, None, ◌⊎◌, inl, inr, refl, sym, ap, subst, ◌∙◌, arith}
use Rattle.std.proofs.lemmas.List.{append-nil}
use Rattle.pt_val.specs.declared.place.Place.{Place}
use Rattle.pt_ast.specs.declared.ident.Ident.{Ident}
use Rattle.pt_ast.specs.declared.expr.Binder.{Binder}
use Rattle.pt_ast.specs.declared.expr.Func.{Func}
use Rattle.pt_ast.specs.Trees.{ExprTree, Num, Text_of, Bytes_of, Flag, Var, If_of, Or_of, And_of, Not_of, Compare_of, Sum_of, Prod_of, Neg_of, Post_of, Call_of, Bind_of, Bracket_of, Tuple_of, List_of, ExprTrees, no_expr, more_expr, exprs_of, exprs_in, no_tail, more_tail, PostTree, index_of, part_of, no_post, more_post}
use Rattle.pt_token.specs.declared.token.Token.{Token}
use Rattle.pt_token.specs.declared.token.Kind.{Kind}
use Rattle.pt_token.specs.declared.token.Kind.TheVariants as kind
use Rattle.pt_token.specs.declared.token.Mark.TheVariants as mark
use Rattle.pt_token.specs.declared.token.Word.TheVariants as word
use Rattle.pt_token.specs.Ending.{is_last}
use Rattle.pt_grammar.specs.declared.sort.Sort.{Sort}
use Rattle.pt_grammar.specs.declared.sort.Sort.TheVariants as sort
use Rattle.pt_grammar.specs.Tokens.{IsReal, opening, close, open_square, close_square, comma, dot, compare_of, sum_of, product_of}
use Rattle.pt_grammar.specs.Forms.{◌⨾◌, One, OneAt, Opens, NestsAt, Fitting, IsName, Number, MindsNesting, MindsAll, Part}
use Rattle.pt_grammar.specs.ExprGrammar.{IsExpr, Joined, MoreExprs, IsPost, flag_kind}
use Rattle.pt_readings.specs.Faults.{Family}
use Rattle.pt_grammar.specs.Reading.{Fault, at, Reading, ◌>>=◌, one_at, token_at, open_at, deeper, name_at, text_seen, bytes_seen, number_seen, is_open, is_close, is_close_square, is_comma, is_dot, is_or, is_and, all_at, less_room}
use Rattle.pt_grammar.specs.ExprReading.{Readers, alone, joined_at, is_product, is_sum, is_compare, begins_post, round_tree, more_expr_at, more_exprs_at, args_at, call_at, bind_at, round_at, square_at, number_at, text_at, bytes_at, var_at, atom_on, atom_at, index_at, post_on, post_part_at}
use Rattle.pt_readings.proofs.Outcomes.{AllReal, never, Some_of, Outcome, Form, Seq}
use Rattle.pt_readings.proofs.Forms.{made, unreal, form_same, then_form, fronted, Made, made_form, Nothing, returned, behind, syntax_here, ended, Openings, within_form, deeper_outcome, known_first, After, after_form, marked_form, Closed, closed_form, one_then, one_first, then_some, at_head, at_then, at_first, nests_then, nests_first, nests_some}
use Rattle.pt_readings.proofs.Lists.{Roomy, room_form, Many}
use Rattle.pt_readings.proofs.Tested.{open_tests, close_tests, open_square_tests, close_square_tests, comma_tests, dot_tests}
use Rattle.pt_readings.proofs.Single.{fitting_one, Names, name_form, Texts, text_form, Byte_lists, bytes_form, Numbers, number_form}
use Rattle.pt_readings.proofs.ExprShapes.{Level, expr_some, expr_head, head_level, some_expr, Operand, joined_to, joined_from, Part_behind, more_to, more_from, exprs_again, Post_form, made_zero}
use Rattle.pt_readings.proofs.Chains.{or_false, not_both, ended_row, ended_row_by}

-- with which tokens a level goes on

abbrev pub on_product : Kind → Bool
on_product k = is_product k || begins_post k

abbrev pub on_sum : Kind → Bool
on_sum k = is_sum k || on_product k

abbrev pub on_compare : Kind → Bool
on_compare k = is_compare k || on_sum k

abbrev pub on_and : Kind → Bool
on_and k = is_and k || on_compare k

abbrev pub on_or : Kind → Bool
on_or k = is_or k || on_and k

abbrev pub on_row : Kind → Bool
on_row k = is_comma k || on_or k

comma_on : (k : Kind) → is_comma k ≡ true → on_or k ≡ false
comma_on k e = ap on_or (comma_tests.only k e)

row_or : (k : Kind) → on_row k ≡ false → on_or k ≡ false
row_or k e = (or_false (is_comma k) (on_or k) e).1

row_comma : (k : Kind) → is_comma k ≡ true → on_row k ≡ false → ⊥
row_comma k e stop = not_both (is_comma k) e (or_false (is_comma k) (on_or k) stop).0

-- ---- which form an expression that stands by itself has, by its first token

abbrev class : Kind → ℕ
class (kind.Number n) = 1
class (kind.Text chars) = 2
class kind.LongText = 2
class (kind.Bytes bytes) = 3
class kind.LongBytes = 3
class (kind.Name name) = 4
class kind.LongName = 4
class (kind.Word word.True) = 5
class (kind.Word word.False) = 5
class (kind.Word (word.Func func)) = 6
class (kind.Word (word.Binder binder)) = 7
class (kind.Mark mark.OpenParen) = 8
class (kind.Mark mark.OpenBracket) = 9
class other = 0

abbrev class_of : ExprTree → ℕ
class_of (Num at number) = 1
class_of (Text_of at chars) = 2
class_of (Bytes_of at bytes) = 3
class_of (Var at name) = 4
class_of (Flag at truth) = 5
class_of (Call_of at func parts) = 6
class_of (Bind_of at binder given list body) = 7
class_of (Bracket_of at part) = 8
class_of (Tuple_of at parts) = 8
class_of (List_of at parts) = 9
class_of other = 10

fit_class : (s : Sort) (which long : Kind) (at : Place) (n : ℕ) (t : Token) (x : List Token) → class which ≡ n → class long ≡ n → Fitting s which long at (t ∷ x) → class t.kind ≡ n
fit_class s which long at n t x one two h = cases (fitting_one s which long at t x h).0 where
  cases : (t.kind ≡ which) ⊎ ((t.kind ≡ long) × (MindsAll s → IsReal t → ⊥)) → class t.kind ≡ n
  cases (inl k) = ap class k ∙ one
  cases (inr k) = ap class k.0 ∙ two

atom_class : (s : Sort) (left : ℕ) (tree : ExprTree) (t : Token) (x : List Token) → IsExpr s left 9 tree (t ∷ x) → class t.kind ≡ class_of tree
atom_class s left (Num at number) t x (inl (u, n, k, p, only, v, room)) = let same : u ≡ t = cc in ap class (subst (λ (c : Token). c.kind ≡ kind.Number n) same k)
atom_class s left (Num at number) t x (inr h) = absurd (omega (arith, h.0))
atom_class s left (Text_of at chars) t x h = fit_class s (kind.Text chars) kind.LongText at 2 t x refl refl h
atom_class s left (Bytes_of at bytes) t x h = fit_class s (kind.Bytes bytes) kind.LongBytes at 3 t x refl refl h
atom_class s left (Flag at true) t x h = ap class (at_head _ _ t x h).0
atom_class s left (Flag at false) t x h = ap class (at_head _ _ t x h).0
atom_class s left (Var at name) t x h = fit_class s (kind.Name name) kind.LongName at 4 t x refl refl h
atom_class s left (If_of at test first next) t x h = absurd (omega (arith, h.0))
atom_class s left (Or_of at (more_expr first (more_expr second others))) t x h = absurd (omega (arith, h.0))
atom_class s left (Or_of at others) t x h = absurd h
atom_class s left (And_of at (more_expr first (more_expr second others))) t x h = absurd (omega (arith, h.0))
atom_class s left (And_of at others) t x h = absurd h
atom_class s left (Not_of at part) t x h = absurd (omega (arith, h.0))
atom_class s left (Compare_of at first which second) t x h = absurd (omega (arith, h.0))
atom_class s left (Sum_of at first (more_tail tail others)) t x h = absurd (omega (arith, h.0))
atom_class s left (Sum_of at first no_tail) t x h = absurd h
atom_class s left (Prod_of at first (more_tail tail others)) t x h = absurd (omega (arith, h.0))
atom_class s left (Prod_of at first no_tail) t x h = absurd h
atom_class s left (Neg_of at part) t x h = absurd (omega (arith, h.0))
atom_class s left (Post_of at base (more_post post others)) t x h = absurd (omega (arith, h.0))
atom_class s left (Post_of at base no_post) t x h = absurd h
atom_class s left (Call_of at func (more_expr first others)) t x h = ap class (at_then _ _ _ t x h).0
atom_class s left (Call_of at func no_expr) t x h = absurd h
atom_class s left (Bind_of at binder given list body) t x h = ap class (at_then _ _ _ t x h).0
atom_class s left (Bracket_of at part) t x h = ap class (nests_then _ _ _ _ _ t x h).0
atom_class s left (Tuple_of at (more_expr first (more_expr second others))) t x h = ap class (nests_then _ _ _ _ _ t x h).0
atom_class s left (Tuple_of at others) t x h = absurd h
atom_class s left (List_of at (more_expr first others)) t x h = ap class (nests_then _ _ _ _ _ t x h).0
atom_class s left (List_of at no_expr) t x h = absurd h

abbrev func_in : Kind → Func → Func
func_in (kind.Word (word.Func func)) given = func
func_in other given = given

abbrev binder_in : Kind → Binder → Binder
binder_in (kind.Word (word.Binder binder)) given = binder
binder_in other given = given

module _ (left : ℕ) (inside : Readers) (exprs : Form (0 < left) (Level (left - 1) 0) on_or inside.expr) where
  arg_form : Form (0 < left) (Operand (left - 1) 0 comma) on_or (joined_at is_comma inside.expr)
  arg_form = after_form (0 < left) is_comma comma comma_tests refl (Level (left - 1) 0) on_or inside.expr exprs

  arg_head : (s : Sort) (a : ExprTree) (t : Token) (ts : List Token) → Operand (left - 1) 0 comma s a (t ∷ ts) → is_comma t.kind ≡ true
  arg_head s a t ts h = ap is_comma (one_then comma _ t ts h).0

  -- calls

  abbrev Call_form : Place → Func → Family ExprTree
  Call_form place func =
      Seq (Openings left opening) (λ u. Seq (Level (left - 1) 0) (λ first. Closed close (λ others. Call_of place func (exprs_of (first ∷ others))) (Many {Given = Unit {0}} (λ u. Operand (left - 1) 0 comma) alone tt)))

  call_form : (place : Place) (func : Func) → Form (Unit {0}) (Call_form place func) never (call_at left inside place func)
  unfolding call_at
  call_form place func =
      within_form (Unit {0}) is_open opening open_tests refl left _ never _
      (ended_row_by {Given = Unit {0}} (0 < left) (Level (left - 1) 0) (λ u. Operand (left - 1) 0 comma) is_comma alone on_or on_row inside.expr (λ u. joined_at is_comma inside.expr) exprs (λ u. arg_form)
      (λ s u a t ts h. arg_head s a t ts h) (λ s u a h. then_some comma _ h) comma_on row_or row_comma is_close close close_tests refl refl (λ a. tt) (λ first others. Call_of place func (exprs_of (first ∷ others))) never
      _ (λ first tokens. fronted (first ∷ []) is_close (λ all. Call_of place func (exprs_of all)) (args_at inside.expr tokens)))

  -- binders

  abbrev Bind_form : Place → Binder → Family ExprTree
  Bind_form place binder =
      Seq (Openings left opening) (λ u. Seq Names (λ given. After comma (Seq (Level (left - 1) 0) (λ list. After comma (Closed close (λ body. Bind_of place binder given list body) (Level (left - 1) 0))))))

  bind_form : (place : Place) (binder : Binder) → Form (Unit {0}) (Bind_form place binder) never (bind_at left inside place binder)
  unfolding bind_at
  bind_form place binder =
      within_form (Unit {0}) is_open opening open_tests refl left _ never _
      (marked_form (0 < left) is_comma comma comma_tests refl Names (λ given. Seq (Level (left - 1) 0) (λ list. After comma (Closed close (λ body. Bind_of place binder given list body) (Level (left - 1) 0)))) never never name_at _ refl (name_form (0 < left) never)
      (λ given. marked_form (0 < left) is_comma comma comma_tests refl (Level (left - 1) 0) (λ list. Closed close (λ body. Bind_of place binder given list body) (Level (left - 1) 0)) on_or never inside.expr _ refl exprs
      (λ list. closed_form (0 < left) is_close close close_tests refl (Level (left - 1) 0) on_or never (λ body. Bind_of place binder given list body) inside.expr refl exprs)))

  -- brackets

  part_form : (room : ℕ) → Form (0 < left) (Part_behind (left - 1) room) on_or (more_expr_at inside.expr room)
  part_form room = after_form (0 < left) is_comma comma comma_tests refl (Roomy room (Level (left - 1) 0)) on_or _ (room_form (0 < left) (Level (left - 1) 0) on_or inside.expr exprs (λ s a h. expr_some s (left - 1) 0 a h) room)

  part_head : (s : Sort) (room : ℕ) (a : ExprTree) (t : Token) (ts : List Token) → Part_behind (left - 1) room s a (t ∷ ts) → is_comma t.kind ≡ true
  part_head s room a t ts h = ap is_comma (one_then comma _ t ts h).0

  abbrev Round_form : Place → Family ExprTree
  Round_form place = Seq (Level (left - 1) 0) (λ first. Closed close (round_tree place first) (Many (Part_behind (left - 1)) less_room 7))

  round_form : (place : Place) → Form (0 < left) (Round_form place) never (round_at inside place)
  unfolding round_at
  round_form place =
      ended_row (0 < left) (Level (left - 1) 0) (Part_behind (left - 1)) is_comma less_room on_or on_row inside.expr (more_expr_at inside.expr) exprs part_form
      part_head (λ s room a h. then_some comma _ h) comma_on row_or row_comma is_close close close_tests refl refl (λ a. 7) (λ first others. round_tree place first others) never

  abbrev Square_form : Place → Family ExprTree
  Square_form place = Seq (Level (left - 1) 0) (λ first. Closed close_square (λ others. List_of place (exprs_of (first ∷ others))) (Many (Part_behind (left - 1)) less_room 63))

  square_form : (place : Place) → Form (0 < left) (Square_form place) never (square_at inside place)
  unfolding square_at
  square_form place =
      ended_row_by (0 < left) (Level (left - 1) 0) (Part_behind (left - 1)) is_comma less_room on_or on_row inside.expr (more_expr_at inside.expr) exprs part_form
      part_head (λ s room a h. then_some comma _ h) comma_on row_or row_comma is_close_square close_square close_square_tests refl refl (λ a. 63) (λ first others. List_of place (exprs_of (first ∷ others))) never
      _ (λ first tokens. fronted (first ∷ []) is_close_square (λ all. List_of place (exprs_of all)) (more_exprs_at inside.expr 63 tokens))

  -- ---- a first token of each kind

  module _ (t : Token) (rest : List Token) (real : AllReal (t ∷ rest)) where
    -- what is one token, by its class
    one_token : {A : Type 0} (P : Family A) (make : A → ExprTree) (r : List Token → Reading A) → Form (Unit {0}) P never r
        → ((s : Sort) (v : ExprTree) (x : List Token) → Level left 9 s v (t ∷ x) → Made make P s v (t ∷ x)) → ((s : Sort) (a : A) (x : List Token) → P s a (t ∷ x) → Level left 9 s (make a) (t ∷ x))
        → ((s : Sort) (a : A) → P s a [] → ⊥) → Outcome (Level left 9) never (t ∷ rest) (r (t ∷ rest) >>= λ x. Ok (make x.0, x.1))
    one_token P make r f from to empty =
        known_first (Made make P) (Level left 9) never t (λ s v x h. subst (λ w. Level left 9 s w (t ∷ x)) (sym h.1) (to s h.0 x h.2)) from (λ s v h. empty s h.0 h.2) (λ s v h stop. expr_some s left 9 v h)
        (some_expr left 9) rest _ ((made_form (Unit {0}) P never make r f).meets tt (t ∷ rest) real)

    number_from : class t.kind ≡ 1 → (s : Sort) (v : ExprTree) (x : List Token) → Level left 9 s v (t ∷ x) → Made (λ (a : Place × ℤ). Num a.0 a.1) Numbers s v (t ∷ x)
    number_from e s (Num at value) x (inl h) = ((at, value), refl, h)
    number_from e s (Num at value) x (inr h) = absurd (omega (arith, h.0))
    number_from e s other x h = absurd (omega (arith, sym e ∙ atom_class s left other t x h))

    text_from : class t.kind ≡ 2 → (s : Sort) (v : ExprTree) (x : List Token) → Level left 9 s v (t ∷ x) → Made (λ (a : Place × List ℕ). Text_of a.0 a.1) Texts s v (t ∷ x)
    text_from e s (Text_of at chars) x h = ((at, chars), refl, h)
    text_from e s other x h = absurd (omega (arith, sym e ∙ atom_class s left other t x h))

    bytes_from : class t.kind ≡ 3 → (s : Sort) (v : ExprTree) (x : List Token) → Level left 9 s v (t ∷ x) → Made (λ (a : Place × List ℕ). Bytes_of a.0 a.1) Byte_lists s v (t ∷ x)
    bytes_from e s (Bytes_of at bytes) x h = ((at, bytes), refl, h)
    bytes_from e s other x h = absurd (omega (arith, sym e ∙ atom_class s left other t x h))

    var_from : class t.kind ≡ 4 → (s : Sort) (v : ExprTree) (x : List Token) → Level left 9 s v (t ∷ x) → Made (λ (a : Ident). Var a.at a.name) Names s v (t ∷ x)
    var_from e s (Var at name) x h = (record { at = at; name = name }, refl, h)
    var_from e s other x h = absurd (omega (arith, sym e ∙ atom_class s left other t x h))

    number_outcome : class t.kind ≡ 1 → Outcome (Level left 9) never (t ∷ rest) (number_at (t ∷ rest))
    unfolding number_at
    number_outcome e = one_token Numbers (λ a. Num a.0 a.1) (token_at number_seen) (number_form (Unit {0}) never) (number_from e) (λ s a x h. inl h) (λ s a h. let only = h.4 in cc)

    text_outcome : class t.kind ≡ 2 → Outcome (Level left 9) never (t ∷ rest) (text_at (t ∷ rest))
    unfolding text_at
    text_outcome e = one_token Texts (λ a. Text_of a.0 a.1) (token_at text_seen) (text_form (Unit {0}) never) (text_from e) (λ s a x h. h) (λ s a h. let only = h.3 in cc)

    bytes_outcome : class t.kind ≡ 3 → Outcome (Level left 9) never (t ∷ rest) (bytes_at (t ∷ rest))
    unfolding bytes_at
    bytes_outcome e = one_token Byte_lists (λ a. Bytes_of a.0 a.1) (token_at bytes_seen) (bytes_form (Unit {0}) never) (bytes_from e) (λ s a x h. h) (λ s a h. let only = h.3 in cc)

    var_outcome : class t.kind ≡ 4 → Outcome (Level left 9) never (t ∷ rest) (var_at (t ∷ rest))
    unfolding var_at
    var_outcome e = one_token Names (λ a. Var a.at a.name) name_at (name_form (Unit {0}) never) (var_from e) (λ s a x h. h) (λ s a h. let only = h.3 in cc)

    flag_from : (truth : Bool) → t.kind ≡ flag_kind truth → (s : Sort) (v : ExprTree) (x : List Token) → Level left 9 s v (t ∷ x) → Nothing (Flag t.at truth) s v x
    flag_from true e s (Flag at true) x h = let one = at_head _ _ t x h in (ap (λ p. Flag p true) (sym one.1), one.2)
    flag_from true e s (Flag at false) x h = let one = at_head _ _ t x h in absurd (let clash = sym e ∙ one.0 in cc)
    flag_from false e s (Flag at false) x h = let one = at_head _ _ t x h in (ap (λ p. Flag p false) (sym one.1), one.2)
    flag_from false e s (Flag at true) x h = let one = at_head _ _ t x h in absurd (let clash = sym e ∙ one.0 in cc)
    flag_from true e s other x h = absurd (omega (arith, sym (ap class e) ∙ atom_class s left other t x h))
    flag_from false e s other x h = absurd (omega (arith, sym (ap class e) ∙ atom_class s left other t x h))

    flag_outcome : (truth : Bool) → t.kind ≡ flag_kind truth → is_last t.kind ≡ false → Outcome (Level left 9) never (t ∷ rest) (Ok (Flag t.at truth, rest))
    flag_outcome truth e clean =
        behind (Nothing (Flag t.at truth)) (Level left 9) never t clean (flag_from truth e)
        (λ s v x h. subst (λ w. Level left 9 s w (t ∷ x)) (sym h.0) (t, e, refl, ap (λ ts. t ∷ ts) h.1)) (λ s v h. expr_some s left 9 v h) rest (Ok (Flag t.at truth, rest)) (returned never (Flag t.at truth) rest)

    call_from : (func : Func) → t.kind ≡ kind.Word (word.Func func) → (s : Sort) (v : ExprTree) (x : List Token) → Level left 9 s v (t ∷ x) → Call_form t.at func s v x
    call_from func e s (Call_of at which (more_expr first others)) x h = form (at_then _ _ _ t x h) where
      form : (t.kind ≡ kind.Word (word.Func which)) × (t.at ≡ at) × (Opens s left opening ⨾ IsExpr s (left - 1) 0 first ⨾ Joined s (left - 1) comma 0 others ⨾ One close) x → Call_form t.at func s (Call_of at which (more_expr first others)) x
      form (k, p, (a, b, o, (c, d, q, (f, g, more, last, e3), e2), e1)) = (
        tt,
        (
          a,
          b,
          o,
          (
            first,
            (
              c,
              d,
              q,
              (
                exprs_in others,
                ap (λ r. Call_of r which (more_expr first others)) (sym p) ∙ ap (λ w. Call_of t.at w (more_expr first others)) (ap (λ m. func_in m func) (sym k ∙ e)) ∙ ap (λ w. Call_of t.at func (more_expr first w)) (exprs_again others),
                (f, g, joined_to s (left - 1) comma 0 others f more, last, e3),
              ),
              e2,
            ),
          ),
          e1,
        ),
      )
    call_from func e s (Call_of at which no_expr) x h = absurd h
    call_from func e s other x h = absurd (omega (arith, sym (ap class e) ∙ atom_class s left other t x h))

    call_put : (func : Func) → t.kind ≡ kind.Word (word.Func func) → (s : Sort) (v : ExprTree) (x : List Token) → Call_form t.at func s v x → Level left 9 s v (t ∷ x)
    call_put func e s v x (u, (a, b, o, (first, (c, d, q, (others, same, (f, g, more, last, e3)), e2)), e1)) =
        subst (λ w. Level left 9 s w (t ∷ x)) (sym same) (at_first _ _ t x e (a, b, o, (c, d, q, (f, g, joined_from s (left - 1) comma 0 others f more, last, e3), e2), e1))

    bind_from : (binder : Binder) → t.kind ≡ kind.Word (word.Binder binder) → (s : Sort) (v : ExprTree) (x : List Token) → Level left 9 s v (t ∷ x) → Bind_form t.at binder s v x
    bind_from binder e s (Bind_of at which given list body) x h = form (at_then _ _ _ t x h) where
      form : (t.kind ≡ kind.Word (word.Binder which)) × (t.at ≡ at)
          × (Opens s left opening ⨾ IsName s given ⨾ One comma ⨾ IsExpr s (left - 1) 0 list ⨾ One comma ⨾ IsExpr s (left - 1) 0 body ⨾ One close) x → Bind_form t.at binder s (Bind_of at which given list body) x
      form (k, p, (a, b, o, (c, d, n, (f, g, m, (i, j, l, (a', b', m', last, e5), e4), e3), e2), e1)) = (
        tt,
        (
          a,
          b,
          o,
          (
            given,
            (
              c,
              d,
              n,
              (
                f,
                g,
                m,
                (
                  list,
                  (
                    i,
                    j,
                    l,
                    (
                      a',
                      b',
                      m',
                      (
                        body,
                        ap (λ r. Bind_of r which given list body) (sym p) ∙ ap (λ w. Bind_of t.at w given list body) (ap (λ m. binder_in m binder) (sym k ∙ e)),
                        last,
                      ),
                      e5,
                    ),
                    e4,
                  ),
                ),
                e3,
              ),
              e2,
            ),
          ),
          e1,
        ),
      )
    bind_from binder e s other x h = absurd (omega (arith, sym (ap class e) ∙ atom_class s left other t x h))

    bind_put : (binder : Binder) → t.kind ≡ kind.Word (word.Binder binder) → (s : Sort) (v : ExprTree) (x : List Token) → Bind_form t.at binder s v x → Level left 9 s v (t ∷ x)
    bind_put binder e s v x (u, (a, b, o, (given, (c, d, n, (f, g, m, (list, (i, j, l, (a', b', m', (body, same, last), e5), e4)), e3), e2)), e1)) =
        subst (λ w. Level left 9 s w (t ∷ x)) (sym same) (at_first _ _ t x e (a, b, o, (c, d, n, (f, g, m, (i, j, l, (a', b', m', last, e5), e4), e3), e2), e1))

    round_from : t.kind ≡ opening → (s : Sort) (v : ExprTree) (x : List Token) → Level left 9 s v (t ∷ x) → (MindsNesting s → IsReal t → 0 < left) × Round_form t.at s v x
    round_from e s (Bracket_of at part) x h = form (nests_then _ _ _ _ _ t x h) where
      form : (t.kind ≡ opening) × (t.at ≡ at) × (MindsNesting s → IsReal t → 0 < left) × (IsExpr s (left - 1) 0 part ⨾ One close) x → (MindsNesting s → IsReal t → 0 < left) × Round_form t.at s (Bracket_of at part) x
      form (k, p, room, (a, b, q, last, e1)) = (room, (part, (a, b, q, ([], ap (λ r. Bracket_of r part) (sym p), ([], b, refl, last, refl)), e1)))
    round_from e s (Tuple_of at (more_expr first (more_expr second others))) x h = form (nests_then _ _ _ _ _ t x h) where
      form : (t.kind ≡ opening) × (t.at ≡ at) × (MindsNesting s → IsReal t → 0 < left) × (IsExpr s (left - 1) 0 first ⨾ MoreExprs s (left - 1) 7 (more_expr second others) ⨾ One close) x
          → (MindsNesting s → IsReal t → 0 < left) × Round_form t.at s (Tuple_of at (more_expr first (more_expr second others))) x
      form (k, p, room, (a, b, q, (c, d, more, last, e2), e1)) = (
        room,
        (
          first,
          (
            a,
            b,
            q,
            (
              second ∷ exprs_in others,
              ap (λ r. Tuple_of r (more_expr first (more_expr second others))) (sym p) ∙ ap (λ w. Tuple_of t.at (more_expr first (more_expr second w))) (exprs_again others),
              (c, d, more_to s (left - 1) 7 (more_expr second others) c more, last, e2),
            ),
            e1,
          ),
        ),
      )
    round_from e s (Tuple_of at others) x h = absurd h
    round_from e s other x h = absurd (omega (arith, sym (ap class e) ∙ atom_class s left other t x h))

    round_put : t.kind ≡ opening → (s : Sort) (v : ExprTree) (x : List Token) → (MindsNesting s → IsReal t → 0 < left) → Round_form t.at s v x → Level left 9 s v (t ∷ x)
    round_put e s v x room (first, (a, b, q, ([], same, (c, d, nil, last, e2)), e1)) =
        subst (λ w. Level left 9 s w (t ∷ x)) (sym same) (nests_first _ _ _ _ t x e room (a, b, q, subst (One close) (sym (e2 ∙ ap (λ w. w ++ d) nil)) last, e1))
    round_put e s v x room (first, (a, b, q, (second ∷ others, same, (c, d, more, last, e2)), e1)) =
        subst (λ w. Level left 9 s w (t ∷ x)) (sym same) (nests_first _ _ _ _ t x e room (a, b, q, (c, d, more_from s (left - 1) 7 (second ∷ others) c more, last, e2), e1))

    square_from : t.kind ≡ open_square → (s : Sort) (v : ExprTree) (x : List Token) → Level left 9 s v (t ∷ x) → (MindsNesting s → IsReal t → 0 < left) × Square_form t.at s v x
    square_from e s (List_of at (more_expr first others)) x h = form (nests_then _ _ _ _ _ t x h) where
      form : (t.kind ≡ open_square) × (t.at ≡ at) × (MindsNesting s → IsReal t → 0 < left) × (IsExpr s (left - 1) 0 first ⨾ MoreExprs s (left - 1) 63 others ⨾ One close_square) x
          → (MindsNesting s → IsReal t → 0 < left) × Square_form t.at s (List_of at (more_expr first others)) x
      form (k, p, room, (a, b, q, (c, d, more, last, e2), e1)) = (
        room,
        (
          first,
          (
            a,
            b,
            q,
            (
              exprs_in others,
              ap (λ r. List_of r (more_expr first others)) (sym p) ∙ ap (λ w. List_of t.at (more_expr first w)) (exprs_again others),
              (c, d, more_to s (left - 1) 63 others c more, last, e2),
            ),
            e1,
          ),
        ),
      )
    square_from e s (List_of at no_expr) x h = absurd h
    square_from e s other x h = absurd (omega (arith, sym (ap class e) ∙ atom_class s left other t x h))

    square_put : t.kind ≡ open_square → (s : Sort) (v : ExprTree) (x : List Token) → (MindsNesting s → IsReal t → 0 < left) → Square_form t.at s v x → Level left 9 s v (t ∷ x)
    square_put e s v x room (first, (a, b, q, (others, same, (c, d, more, last, e2)), e1)) =
        subst (λ w. Level left 9 s w (t ∷ x)) (sym same) (nests_first _ _ _ _ t x e room (a, b, q, (c, d, more_from s (left - 1) 63 others c more, last, e2), e1))

    nothing : class t.kind ≡ 0 → Outcome (Level left 9) never (t ∷ rest) (Err (at sort.Syntax (t ∷ rest)))
    nothing e = syntax_here (Level left 9) never t rest (some_expr left 9) (λ s v h. expr_some s left 9 v h) (λ s v x h. none_of v (sym e ∙ atom_class s left v t x h)) where
      none_of : (v : ExprTree) → 0 ≡ class_of v → ⊥
      none_of (Num at number) h = omega (arith, h)
      none_of (Text_of at chars) h = omega (arith, h)
      none_of (Bytes_of at bytes) h = omega (arith, h)
      none_of (Var at name) h = omega (arith, h)
      none_of (Flag at truth) h = omega (arith, h)
      none_of (Call_of at func parts) h = omega (arith, h)
      none_of (Bind_of at binder given list body) h = omega (arith, h)
      none_of (Bracket_of at part) h = omega (arith, h)
      none_of (Tuple_of at parts) h = omega (arith, h)
      none_of (List_of at parts) h = omega (arith, h)
      none_of other h = omega (arith, h)

    atom_kind : (k : Kind) → t.kind ≡ k → Outcome (Level left 9) never (t ∷ rest) (atom_on left inside t.at (t ∷ rest) rest k)
    unfolding atom_on
    atom_kind (kind.Number n) e = number_outcome (ap class e)
    atom_kind (kind.Text chars) e = text_outcome (ap class e)
    atom_kind kind.LongText e = text_outcome (ap class e)
    atom_kind (kind.Bytes bytes) e = bytes_outcome (ap class e)
    atom_kind kind.LongBytes e = bytes_outcome (ap class e)
    atom_kind (kind.Name name) e = var_outcome (ap class e)
    atom_kind kind.LongName e = var_outcome (ap class e)
    atom_kind (kind.Word word.True) e = flag_outcome true e (ap is_last e)
    atom_kind (kind.Word word.False) e = flag_outcome false e (ap is_last e)
    atom_kind (kind.Word (word.Func func)) e = behind (Call_form t.at func) (Level left 9) never t (ap is_last e) (call_from func e) (call_put func e) (λ s v h. expr_some s left 9 v h) rest _ ((call_form t.at func).meets tt rest real.1)
    atom_kind (kind.Word (word.Binder binder)) e = behind (Bind_form t.at binder) (Level left 9) never t (ap is_last e) (bind_from binder e) (bind_put binder e) (λ s v h. expr_some s left 9 v h) rest _ ((bind_form t.at binder).meets tt rest real.1)
    atom_kind (kind.Mark mark.OpenParen) e =
        deeper_outcome (Round_form t.at) (Level left 9) never left t rest (round_at inside t.at) real (ap is_last e) (round_from e) (round_put e) (λ s v h. expr_some s left 9 v h) (some_expr left 9) (round_form t.at)
    atom_kind (kind.Mark mark.OpenBracket) e =
        deeper_outcome (Square_form t.at) (Level left 9) never left t rest (square_at inside t.at) real (ap is_last e) (square_from e) (square_put e) (λ s v h. expr_some s left 9 v h) (some_expr left 9) (square_form t.at)
    atom_kind other e = nothing (ap class e)

  pub atom_form : Form (Unit {0}) (Level left 9) never (atom_at left inside)
  atom_form = record { some = some_expr left 9; meets = λ u tokens real. cases tokens real } where
    cases : (tokens : List Token) → AllReal tokens → Outcome (Level left 9) never tokens (atom_at left inside tokens)
    cases [] real = ended (Level left 9) never (some_expr left 9)
    cases (t ∷ rest) real = atom_kind t rest real t.kind refl

  -- ---- indexes and parts

  pub post_some : (s : Sort) (v : PostTree) → IsPost s left v [] → ⊥
  post_some s (index_of at index) h = nests_some _ _ _ _ _ h
  post_some s (part_of at part) h = then_some _ _ h

  pub post_head : (s : Sort) (v : PostTree) (t : Token) (x : List Token) → IsPost s left v (t ∷ x) → begins_post t.kind ≡ true
  post_head s (index_of at index) t x h = ap begins_post (nests_then _ _ _ _ _ t x h).0
  post_head s (part_of at part) t x h = ap begins_post (one_then _ _ t x h).0

  some_post : Some_of (Post_form left)
  some_post = (
    part_of ((number_form (Unit {0}) never).some.0).0 ((number_form (Unit {0}) never).some.0).1,
    made dot ∷ (number_form (Unit {0}) never).some.1,
    λ s. (made dot ∷ [], (number_form (Unit {0}) never).some.1, (made dot, refl, refl), (number_form (Unit {0}) never).some.2 s, refl),
    λ real. unreal dot real,
  )

  abbrev Index_form : Place → Family PostTree
  Index_form place = Closed close_square (λ index. index_of place index) (Level (left - 1) 0)

  module _ (t : Token) (rest : List Token) (real : AllReal (t ∷ rest)) where
    index_from : t.kind ≡ open_square → (s : Sort) (v : PostTree) (x : List Token) → IsPost s left v (t ∷ x) → (MindsNesting s → IsReal t → 0 < left) × Index_form t.at s v x
    index_from e s (index_of at index) x h = let one = nests_then _ _ _ _ _ t x h in (one.2, (index, ap (λ p. index_of p index) (sym one.1), one.3))
    index_from e s (part_of at part) x h = absurd (let clash = sym e ∙ (one_then _ _ t x h).0 in cc)

    part_from : t.kind ≡ dot → (s : Sort) (v : PostTree) (x : List Token) → IsPost s left v (t ∷ x) → Made (λ (a : Place × ℤ). part_of a.0 a.1) Numbers s v x
    part_from e s (part_of at part) x h = ((at, part), refl, (one_then _ _ t x h).1)
    part_from e s (index_of at index) x h = absurd (let clash = sym e ∙ (nests_then _ _ _ _ _ t x h).0 in cc)

    post_kind : (k : Kind) → t.kind ≡ k → Outcome (Post_form left) never (t ∷ rest) (post_on left inside t.at (t ∷ rest) rest k)
    unfolding post_on index_at
    post_kind (kind.Mark mark.OpenBracket) e =
        deeper_outcome (Index_form t.at) (Post_form left) never left t rest (index_at inside t.at) real (ap is_last e) (index_from e)
        (λ s v x room h. subst (λ w. IsPost s left w (t ∷ x)) (sym h.1) (nests_first _ _ _ _ t x e room h.2)) post_some some_post
        (closed_form (0 < left) is_close_square close_square close_square_tests refl (Level (left - 1) 0) on_or never (λ index. index_of t.at index) inside.expr refl exprs)
    post_kind (kind.Mark mark.Dot) e =
        behind (Made (λ (a : Place × ℤ). part_of a.0 a.1) Numbers) (Post_form left) never t (ap is_last e) (part_from e)
        (λ s v x h. subst (λ w. IsPost s left w (t ∷ x)) (sym h.1) (one_first _ _ t x e h.2)) post_some rest _
        ((made_form (Unit {0}) Numbers never (λ a. part_of a.0 a.1) (token_at number_seen) (number_form (Unit {0}) never)).meets tt rest real.1)
    post_kind other e = syntax_here (Post_form left) never t rest some_post post_some (λ s v x h. not_both (begins_post t.kind) (post_head s v t x h) (ap begins_post e))

  pub post_part_form : Form (Unit {0}) (Post_form left) never (post_part_at left inside)
  post_part_form = record { some = some_post; meets = λ u tokens real. cases tokens real } where
    cases : (tokens : List Token) → AllReal tokens → Outcome (Post_form left) never tokens (post_part_at left inside tokens)
    cases [] real = ended (Post_form left) never some_post
    cases (t ∷ rest) real = post_kind t rest real t.kind refl
