-- Expressions of every level.
use Rattle.std.proofs.Common.{◌≡◌, ℕ, zero, suc, ◌-◌, ◌<◌, ◌≤◌, ◌||◌, ℤ, Bool, true, false, List, [], ◌∷◌, ◌++◌, Result, Ok, Err, Option, Some, None, ◌⊎◌, inl, inr, refl, sym, ap, subst, ◌∙◌, arith}
use Rattle.std.proofs.lemmas.List.{append-nil}
use Rattle.pt_val.specs.declared.place.Place.{Place}
use Rattle.pt_ast.specs.declared.expr.CompareOp.{CompareOp}
use Rattle.pt_ast.specs.declared.expr.CompareOp.TheVariants as compare
use Rattle.pt_ast.specs.declared.expr.Op.{Op}
use Rattle.pt_ast.specs.declared.expr.Op.TheVariants as op
use Rattle.pt_ast.specs.Trees.{ExprTree, Num, Text_of, Bytes_of, Flag, Var, If_of, Or_of, And_of, Not_of, Compare_of, Sum_of, Prod_of, Neg_of, Post_of, Call_of, Bind_of, Bracket_of, Tuple_of, List_of, ExprTrees, no_expr, more_expr, exprs_of, exprs_in, TailTree, tail_of, no_tail, more_tail, tails_of, tails_in, PostTree, no_post, more_post, posts_of, posts_in}
use Rattle.pt_token.specs.declared.token.Token.{Token}
use Rattle.pt_token.specs.declared.token.Kind.{Kind}
use Rattle.pt_token.specs.declared.token.Kind.TheVariants as kind
use Rattle.pt_token.specs.declared.token.Mark.TheVariants as mark
use Rattle.pt_token.specs.declared.token.Word.TheVariants as word
use Rattle.pt_token.specs.Ending.{is_last}
use Rattle.pt_grammar.specs.declared.sort.Sort.{Sort}
use Rattle.pt_grammar.specs.declared.sort.Sort.TheVariants as sort
use Rattle.pt_grammar.specs.Tokens.{IsReal, comma, compare_of, sum_of, product_of}
use Rattle.pt_grammar.specs.Forms.{◌⨾◌, One, MindsNesting, Magnitude}
use Rattle.pt_grammar.specs.ExprGrammar.{IsExpr, Operator, Compares}
use Rattle.pt_readings.specs.Faults.{Family}
use Rattle.pt_grammar.specs.Reading.{Fault, at, Reading, ◌>>=◌, place_at, one_at, token_at, deeper, magnitude_seen, is_or, is_and, is_then, is_else, maybe_at}
use Rattle.pt_grammar.specs.ExprReading.{Readers, alone, joined_at, tail_at, operator_at, is_product, is_sum, is_compare, begins_post, or_tree, and_tree, sum_tree, product_tree, post_tree, compare_tree, post_at, unary_on, unary_at, product_at, sum_at, right_at, compare_at, nots_on, nots_at, and_at, or_at, if_at, expr_on, expr_step, inner, expr_at}
use Rattle.pt_readings.proofs.Outcomes.{AllReal, Stops, never, stops_never, Outcome, Form, Seq, seq_form}
use Rattle.pt_readings.proofs.Forms.{then_form, form_same, Made, made_form, weaker_form, behind, ended, deeper_outcome, known_first, none_read, After, after_form, marked_form, one_then, then_some, at_then, at_first, nests_then, nests_first, lowered}
use Rattle.pt_readings.proofs.Lists.{Maybe, maybe_form}
use Rattle.pt_readings.proofs.Tested.{or_tests, and_tests, then_tests, else_tests}
use Rattle.pt_readings.proofs.Single.{Magnitudes, magnitude_form}
use Rattle.pt_readings.proofs.ExprShapes.{Level, expr_some, expr_head, head_level, level_of, looser, tighter, reaches, some_expr, Operand, joined_to, joined_from, exprs_again, Tail_form, tails_to, tails_from, tails_again, Post_form, posts_to, posts_from, posts_again}
use Rattle.pt_readings.proofs.Chains.{or_false, not_both, Operators, operator_form, Chain, just_one, alone_chain, chain_form}
use Rattle.pt_readings.proofs.Atoms.{on_product, on_sum, on_compare, on_and, on_or, atom_form, post_part_form, post_some, post_head}

-- ---- which tokens end what

product_on : (k : Kind) → is_product k ≡ true → begins_post k ≡ false
product_on (kind.Mark mark.Star) e = refl
product_on (kind.Mark mark.Slash) e = refl
product_on (kind.Mark mark.Percent) e = refl
product_on other e = absurd cc

sum_on : (k : Kind) → is_sum k ≡ true → on_product k ≡ false
sum_on (kind.Mark mark.Plus) e = refl
sum_on (kind.Minus number) e = refl
sum_on other e = absurd cc

compare_on : (k : Kind) → is_compare k ≡ true → on_sum k ≡ false
compare_on (kind.Mark (mark.Compare which)) e = refl
compare_on other e = absurd cc

and_on : (k : Kind) → is_and k ≡ true → on_compare k ≡ false
and_on k e = ap on_compare (and_tests.only k e)

or_on : (k : Kind) → is_or k ≡ true → on_and k ≡ false
or_on k e = ap on_and (or_tests.only k e)

product_ends : (k : Kind) → is_last k ≡ true → product_of k ≡ None
product_ends kind.End e = refl
product_ends kind.Malformed e = refl
product_ends other e = absurd cc

sum_ends : (k : Kind) → is_last k ≡ true → sum_of k ≡ None
sum_ends kind.End e = refl
sum_ends kind.Malformed e = refl
sum_ends other e = absurd cc

compare_ends : (k : Kind) → is_last k ≡ true → compare_of k ≡ None
compare_ends kind.End e = refl
compare_ends kind.Malformed e = refl
compare_ends other e = absurd cc

-- ---- operators with what stands on their right

tail_some : (left : ℕ) (operator : Kind → Option Op) (k : ℕ) (s : Sort) (a : TailTree) → Tail_form left operator k s a [] → ⊥
tail_some left operator k s (tail_of at which right) ([], y, o, q, e) = let only = o.3 in cc
tail_some left operator k s (tail_of at which right) (u ∷ us, y, o, q, e) = absurd cc

tail_head : (left : ℕ) (operator : Kind → Option Op) (is : Kind → Bool) → ((k : Kind) (a : Op) → operator k ≡ Some a → is k ≡ true) → (k : ℕ) (s : Sort) (a : TailTree) (t : Token) (ts : List Token)
    → Tail_form left operator k s a (t ∷ ts) → is t.kind ≡ true
tail_head left operator is passes k s (tail_of at which right) t ts (x, y, (u, o, stands, only), q, e) =
    let cells : t ∷ ts ≡ u ∷ y = e ∙ ap (λ w. w ++ y) only in
    let same : u ≡ t = cc in subst (λ (c : Token). is c.kind ≡ true) same (passes u.kind which o)

tail_form : (left : ℕ) (operator : Kind → Option Op) (k : ℕ) (on : Kind → Bool) (operand : List Token → Reading ExprTree) → Form (Unit {0}) (Operators operator) never (operator_at operator)
    → Form (Unit {0}) (Level left k) on operand → Form (Unit {0}) (Tail_form left operator k) on (tail_at operator operand)
tail_form left operator k on operand found f =
    form_same (Unit {0}) (Seq (Operators operator) (λ which. Made (λ right. tail_of which.0 which.1 right) (Level left k))) (Tail_form left operator k) on (tail_at operator operand) to from
    (then_form (Unit {0}) (Operators operator) (λ which. Made (λ right. tail_of which.0 which.1 right) (Level left k)) on (operator_at operator) _ found
    (λ which. made_form (Unit {0}) (Level left k) on (λ right. tail_of which.0 which.1 right) operand f)) where
      to : (s : Sort) (v : TailTree) (ts : List Token) → Seq (Operators operator) (λ which. Made (λ right. tail_of which.0 which.1 right) (Level left k)) s v ts → Tail_form left operator k s v ts
      to s v ts (which, (x, y, o, (right, same, q), e)) = subst (λ w. Tail_form left operator k s w ts) (sym same) (x, y, o, q, e)

      from : (s : Sort) (v : TailTree) (ts : List Token) → Tail_form left operator k s v ts → Seq (Operators operator) (λ which. Made (λ right. tail_of which.0 which.1 right) (Level left k)) s v ts
      from s (tail_of at which right) ts (x, y, o, q, e) = ((at, which), (x, y, o, (right, refl, q), e))

-- ---- the chains, from their forms and back

plain_at : (k : ℕ) → (k < 7) ⊎ (7 < k) → (tree : ExprTree) (at : Place) (n : ℤ) → tree ≡ Num at n → (k < 7) ⊎ (7 < k)
plain_at k other tree at n e = other

or_to : (left : ℕ) (t : Token) (s : Sort) (v : ExprTree) (x : List Token) → Chain left 2 (Operand left 2 (kind.Word word.Or)) or_tree t.at s v (t ∷ x) → IsExpr s left 1 v (t ∷ x)
or_to left t s v x (first, (y, z, p, ([], same, q), e)) = subst (λ w. IsExpr s left 1 w (t ∷ x)) (sym same) (just_one s left 1 2 (omega arith) first (t ∷ x) y z p q e)
or_to left t s v x (first, (y, z, p, (second ∷ others, same, q), e)) = subst (λ w. IsExpr s left 1 w (t ∷ x)) (sym same) (omega arith, refl, (y, z, p, joined_from s left (kind.Word word.Or) 2 (second ∷ others) z q, e))

or_from : (left : ℕ) (t : Token) (s : Sort) (v : ExprTree) (x : List Token) → IsExpr s left 1 v (t ∷ x) → Chain left 2 (Operand left 2 (kind.Word word.Or)) or_tree t.at s v (t ∷ x)
or_from left t s (Or_of place (more_expr first (more_expr second others))) x (le, starts, (y, z, p, q, e)) = (
  first,
  (
    y,
    z,
    p,
    (
      second ∷ exprs_in others,
      ap (λ w. Or_of place (more_expr first (more_expr second w))) (exprs_again others) ∙ ap (λ r. Or_of r (more_expr first (more_expr second (exprs_of (exprs_in others))))) (sym starts),
      joined_to s left (kind.Word word.Or) 2 (more_expr second others) z q,
    ),
    e,
  ),
)
or_from left t s (Or_of place others) x h = absurd h
or_from left t s other x h =
    alone_chain left 2 (Operand left 2 (kind.Word word.Or)) or_tree t.at (λ v. refl) s other (t ∷ x) (tighter s left 1 other (λ place n e. inl (omega arith)) (t ∷ x) (omega (arith, reaches s left 1 (omega arith) other (t ∷ x) h)) h)

and_to : (left : ℕ) (t : Token) (s : Sort) (v : ExprTree) (x : List Token) → Chain left 3 (Operand left 3 (kind.Word word.And)) and_tree t.at s v (t ∷ x) → IsExpr s left 2 v (t ∷ x)
and_to left t s v x (first, (y, z, p, ([], same, q), e)) = subst (λ w. IsExpr s left 2 w (t ∷ x)) (sym same) (just_one s left 2 3 (omega arith) first (t ∷ x) y z p q e)
and_to left t s v x (first, (y, z, p, (second ∷ others, same, q), e)) = subst (λ w. IsExpr s left 2 w (t ∷ x)) (sym same) (omega arith, refl, (y, z, p, joined_from s left (kind.Word word.And) 3 (second ∷ others) z q, e))

and_from : (left : ℕ) (t : Token) (s : Sort) (v : ExprTree) (x : List Token) → IsExpr s left 2 v (t ∷ x) → Chain left 3 (Operand left 3 (kind.Word word.And)) and_tree t.at s v (t ∷ x)
and_from left t s (And_of place (more_expr first (more_expr second others))) x (le, starts, (y, z, p, q, e)) = (
  first,
  (
    y,
    z,
    p,
    (
      second ∷ exprs_in others,
      ap (λ w. And_of place (more_expr first (more_expr second w))) (exprs_again others) ∙ ap (λ r. And_of r (more_expr first (more_expr second (exprs_of (exprs_in others))))) (sym starts),
      joined_to s left (kind.Word word.And) 3 (more_expr second others) z q,
    ),
    e,
  ),
)
and_from left t s (And_of place others) x h = absurd h
and_from left t s other x h =
    alone_chain left 3 (Operand left 3 (kind.Word word.And)) and_tree t.at (λ v. refl) s other (t ∷ x) (tighter s left 2 other (λ place n e. inl (omega arith)) (t ∷ x) (omega (arith, reaches s left 2 (omega arith) other (t ∷ x) h)) h)

sum_to : (left : ℕ) (t : Token) (s : Sort) (v : ExprTree) (x : List Token) → Chain left 6 (Tail_form left sum_of 6) sum_tree t.at s v (t ∷ x) → IsExpr s left 5 v (t ∷ x)
sum_to left t s v x (first, (y, z, p, ([], same, q), e)) = subst (λ w. IsExpr s left 5 w (t ∷ x)) (sym same) (just_one s left 5 6 (omega arith) first (t ∷ x) y z p q e)
sum_to left t s v x (first, (y, z, p, (second ∷ others, same, q), e)) = subst (λ w. IsExpr s left 5 w (t ∷ x)) (sym same) (omega arith, refl, (y, z, p, tails_from s left sum_of 6 (second ∷ others) z q, e))

sum_from : (left : ℕ) (t : Token) (s : Sort) (v : ExprTree) (x : List Token) → IsExpr s left 5 v (t ∷ x) → Chain left 6 (Tail_form left sum_of 6) sum_tree t.at s v (t ∷ x)
sum_from left t s (Sum_of place first (more_tail second others)) x (le, starts, (y, z, p, q, e)) = (
  first,
  (
    y,
    z,
    p,
    (
      second ∷ tails_in others,
      ap (λ w. Sum_of place first (more_tail second w)) (tails_again others) ∙ ap (λ r. Sum_of r first (more_tail second (tails_of (tails_in others)))) (sym starts),
      tails_to s left sum_of 6 (more_tail second others) z q,
    ),
    e,
  ),
)
sum_from left t s (Sum_of place first no_tail) x h = absurd h
sum_from left t s other x h =
    alone_chain left 6 (Tail_form left sum_of 6) sum_tree t.at (λ v. refl) s other (t ∷ x) (tighter s left 5 other (λ place n e. inl (omega arith)) (t ∷ x) (omega (arith, reaches s left 5 (omega arith) other (t ∷ x) h)) h)

product_to : (left : ℕ) (t : Token) (s : Sort) (v : ExprTree) (x : List Token) → Chain left 7 (Tail_form left product_of 7) product_tree t.at s v (t ∷ x) → IsExpr s left 6 v (t ∷ x)
product_to left t s v x (first, (y, z, p, ([], same, q), e)) = subst (λ w. IsExpr s left 6 w (t ∷ x)) (sym same) (just_one s left 6 7 (omega arith) first (t ∷ x) y z p q e)
product_to left t s v x (first, (y, z, p, (second ∷ others, same, q), e)) = subst (λ w. IsExpr s left 6 w (t ∷ x)) (sym same) (omega arith, refl, (y, z, p, tails_from s left product_of 7 (second ∷ others) z q, e))

product_from : (left : ℕ) (t : Token) (s : Sort) (v : ExprTree) (x : List Token) → IsExpr s left 6 v (t ∷ x) → Chain left 7 (Tail_form left product_of 7) product_tree t.at s v (t ∷ x)
product_from left t s (Prod_of place first (more_tail second others)) x (le, starts, (y, z, p, q, e)) = (
  first,
  (
    y,
    z,
    p,
    (
      second ∷ tails_in others,
      ap (λ w. Prod_of place first (more_tail second w)) (tails_again others) ∙ ap (λ r. Prod_of r first (more_tail second (tails_of (tails_in others)))) (sym starts),
      tails_to s left product_of 7 (more_tail second others) z q,
    ),
    e,
  ),
)
product_from left t s (Prod_of place first no_tail) x h = absurd h
product_from left t s other x h =
    alone_chain left 7 (Tail_form left product_of 7) product_tree t.at (λ v. refl) s other (t ∷ x) (tighter s left 6 other (λ place n e. inl (omega arith)) (t ∷ x) (omega (arith, reaches s left 6 (omega arith) other (t ∷ x) h)) h)

post_to : (left : ℕ) (t : Token) (s : Sort) (v : ExprTree) (x : List Token) → Chain left 9 (Post_form left) post_tree t.at s v (t ∷ x) → IsExpr s left 8 v (t ∷ x)
post_to left t s v x (first, (y, z, p, ([], same, q), e)) = subst (λ w. IsExpr s left 8 w (t ∷ x)) (sym same) (just_one s left 8 9 (omega arith) first (t ∷ x) y z p q e)
post_to left t s v x (first, (y, z, p, (second ∷ others, same, q), e)) = subst (λ w. IsExpr s left 8 w (t ∷ x)) (sym same) (omega arith, refl, (y, z, p, posts_from s left (second ∷ others) z q, e))

post_from : (left : ℕ) (t : Token) (s : Sort) (v : ExprTree) (x : List Token) → IsExpr s left 8 v (t ∷ x) → Chain left 9 (Post_form left) post_tree t.at s v (t ∷ x)
post_from left t s (Post_of place first (more_post second others)) x (le, starts, (y, z, p, q, e)) = (
  first,
  (
    y,
    z,
    p,
    (
      second ∷ posts_in others,
      ap (λ w. Post_of place first (more_post second w)) (posts_again others) ∙ ap (λ r. Post_of r first (more_post second (posts_of (posts_in others)))) (sym starts),
      posts_to s left (more_post second others) z q,
    ),
    e,
  ),
)
post_from left t s (Post_of place first no_post) x h = absurd h
post_from left t s other x h =
    alone_chain left 9 (Post_form left) post_tree t.at (λ v. refl) s other (t ∷ x) (tighter s left 8 other (λ place n e. inr (omega arith)) (t ∷ x) (omega (arith, reaches s left 8 (omega arith) other (t ∷ x) h)) h)

-- ---- comparisons

abbrev Right : ℕ → Family (CompareOp × ExprTree)
Right left s v ts = (Compares v.0 ⨾ IsExpr s left 5 v.1) ts

abbrev Compared : ℕ → Place → Family ExprTree
Compared left place = Seq (Level left 5) (λ first. Made (compare_tree place first) (Maybe (Right left)))

compare_to : (left : ℕ) (t : Token) (s : Sort) (v : ExprTree) (x : List Token) → Compared left t.at s v (t ∷ x) → IsExpr s left 4 v (t ∷ x)
compare_to left t s v x (first, (y, z, p, (None, same, q), e)) = subst (λ w. IsExpr s left 4 w (t ∷ x)) (sym same) (just_one s left 4 5 (omega arith) first (t ∷ x) y z p q e)
compare_to left t s v x (first, (y, z, p, (Some right, same, q), e)) = subst (λ w. IsExpr s left 4 w (t ∷ x)) (sym same) (omega arith, refl, (y, z, p, q, e))

compare_from : (left : ℕ) (t : Token) (s : Sort) (v : ExprTree) (x : List Token) → IsExpr s left 4 v (t ∷ x) → Compared left t.at s v (t ∷ x)
compare_from left t s (Compare_of place first which second) x (le, starts, (y, z, p, q, e)) = (first, (y, z, p, (Some (which, second), ap (λ r. Compare_of r first which second) (sym starts), q), e))
compare_from left t s other x h =
    (other, (t ∷ x, [], tighter s left 4 other (λ place n e. inl (omega arith)) (t ∷ x) (omega (arith, reaches s left 4 (omega arith) other (t ∷ x) h)) h, (None, refl, refl), sym (append-nil (t ∷ x))))

right_some : (left : ℕ) (s : Sort) (v : CompareOp × ExprTree) → Right left s v [] → ⊥
right_some left s v ([], y, o, q, e) = let only = o.1.3 in cc
right_some left s v (u ∷ us, y, o, q, e) = absurd cc

right_head : (left : ℕ) (s : Sort) (v : CompareOp × ExprTree) (t : Token) (ts : List Token) → Right left s v (t ∷ ts) → is_compare t.kind ≡ true
right_head left s v t ts (x, y, (place, (u, o, stands, only)), q, e) =
    let cells : t ∷ ts ≡ u ∷ y = e ∙ ap (λ w. w ++ y) only in
    let same : u ≡ t = cc in subst (λ (c : Token). is_compare c.kind ≡ true) same (compares u.kind v.0 o) where
      compares : (k : Kind) (a : CompareOp) → compare_of k ≡ Some a → is_compare k ≡ true
      compares (kind.Mark (mark.Compare which)) a h = refl
      compares other a h = absurd cc

sums : (k : Kind) (a : Op) → sum_of k ≡ Some a → is_sum k ≡ true
sums (kind.Mark mark.Plus) a h = refl
sums (kind.Minus number) a h = refl
sums other a h = absurd cc

products : (k : Kind) (a : Op) → product_of k ≡ Some a → is_product k ≡ true
products (kind.Mark mark.Star) a h = refl
products (kind.Mark mark.Slash) a h = refl
products (kind.Mark mark.Percent) a h = refl
products other a h = absurd cc

is_minus : Kind → Bool
is_minus (kind.Minus number) = true
is_minus other = false

is_not : Kind → Bool
is_not (kind.Word word.Not) = true
is_not other = false

is_if : Kind → Bool
is_if (kind.Word word.If) = true
is_if other = false

module _ (left : ℕ) (inside : Readers) (exprs : Form (0 < left) (Level (left - 1) 0) on_or inside.expr) (nots : Form (0 < left) (Level (left - 1) 3) on_compare inside.nots)
    (unaries : Form (0 < left) (Level (left - 1) 7) begins_post inside.unary) where
  post_form : Form (Unit {0}) (Level left 8) begins_post (post_at left inside)
  unfolding post_at
  post_form =
      chain_form left 8 9 (Post_form left) never begins_post _ _ begins_post post_tree (atom_form left inside exprs) (post_part_form left inside exprs) (λ s a t ts h. post_head left inside exprs s a t ts h) (λ s a h. post_some left inside exprs s a h)
      (λ k e. refl) (λ k e. refl) (λ k e stop. not_both (begins_post k) e stop) (post_to left) (post_from left)

  -- ---- minus signs

  abbrev Negative : Place → Family ExprTree
  Negative place = Made (λ number. Num place number) Magnitudes

  abbrev Negation : Place → Family ExprTree
  Negation place = Made (λ part. Neg_of place part) (Level (left - 1) 7)

  module _ (t : Token) (rest : List Token) (real : AllReal (t ∷ rest)) where
    no_minus : (number : Bool) → t.kind ≡ kind.Minus number → (s : Sort) (v : ExprTree) (x : List Token) → IsExpr s left 8 v (t ∷ x) → ⊥
    no_minus number e s v x h = omega (arith, expr_head s left 8 (omega arith) v t x h, ap head_level e)

    negative_from : t.kind ≡ kind.Minus true → (s : Sort) (v : ExprTree) (x : List Token) → IsExpr s left 7 v (t ∷ x) → Negative t.at s v x
    negative_from e s (Num place number) x (inl h) = absurd (no_minus true e s (Num place number) x (inl h))
    negative_from e s (Num place number) x (inr h) = let one = at_then _ _ _ t x h.1 in (number, ap (λ p. Num p number) (sym one.1), one.2)
    negative_from e s (Neg_of place part) x h = absurd (let clash = sym e ∙ (nests_then _ _ _ _ _ t x h.1).0 in cc)
    negative_from e s other x h = absurd (no_minus true e s other x (tighter s left 7 other (λ place n same. absurd cc) (t ∷ x) (omega (arith, reaches s left 7 (omega arith) other (t ∷ x) h)) h))

    negation_from : t.kind ≡ kind.Minus false → (s : Sort) (v : ExprTree) (x : List Token) → IsExpr s left 7 v (t ∷ x) → (MindsNesting s → IsReal t → 0 < left) × Negation t.at s v x
    negation_from e s (Neg_of place part) x h = let one = nests_then _ _ _ _ _ t x h.1 in (one.2, (part, ap (λ p. Neg_of p part) (sym one.1), one.3))
    negation_from e s (Num place number) x (inl h) = absurd (no_minus false e s (Num place number) x (inl h))
    negation_from e s (Num place number) x (inr h) = absurd (let clash = sym e ∙ (at_then _ _ _ t x h.1).0 in cc)
    negation_from e s other x h = absurd (no_minus false e s other x (tighter s left 7 other (λ place n same. absurd cc) (t ∷ x) (omega (arith, reaches s left 7 (omega arith) other (t ∷ x) h)) h))

    unary_from : is_minus t.kind ≡ false → (s : Sort) (v : ExprTree) (x : List Token) → IsExpr s left 7 v (t ∷ x) → IsExpr s left 8 v (t ∷ x)
    unfolding is_minus
    unary_from e s (Num place number) x (inl h) = inl h
    unary_from e s (Num place number) x (inr h) = absurd (not_both (is_minus t.kind) (ap is_minus (at_then _ _ _ t x h.1).0) e)
    unary_from e s (Neg_of place part) x h = absurd (not_both (is_minus t.kind) (ap is_minus (nests_then _ _ _ _ _ t x h.1).0) e)
    unary_from e s other x h = tighter s left 7 other (λ place n same. absurd cc) (t ∷ x) (omega (arith, reaches s left 7 (omega arith) other (t ∷ x) h)) h

    unary_plain : is_minus t.kind ≡ false → Outcome (Level left 7) begins_post (t ∷ rest) (post_at left inside (t ∷ rest))
    unary_plain e =
        known_first (Level left 8) (Level left 7) begins_post t (λ s v x h. looser s left 7 8 (omega arith) v (t ∷ x) h) (unary_from e) (λ s v h. expr_some s left 8 v h) (λ s v h stop. expr_some s left 7 v h)
        (some_expr left 7) rest _ (post_form.meets tt (t ∷ rest) real)

    unary_kind : (k : Kind) → t.kind ≡ k → Outcome (Level left 7) begins_post (t ∷ rest) (unary_on left inside t.at (t ∷ rest) rest k)
    unfolding unary_on is_minus
    unary_kind (kind.Minus true) e =
        behind (Negative t.at) (Level left 7) begins_post t (ap is_last e) (negative_from e)
        (λ s v x h. subst (λ w. IsExpr s left 7 w (t ∷ x)) (sym h.1) (inr (omega arith, at_first _ _ t x e h.2))) (λ s v h. expr_some s left 7 v h) rest _
        ((made_form (Unit {0}) Magnitudes begins_post (λ number. Num t.at number) (token_at magnitude_seen) (magnitude_form (Unit {0}) begins_post)).meets tt rest real.1)
    unary_kind (kind.Minus false) e =
        deeper_outcome (Negation t.at) (Level left 7) begins_post left t rest (λ tokens. inside.unary tokens >>= λ one. Ok (Neg_of t.at one.0, one.1)) real (ap is_last e) (negation_from e)
        (λ s v x room h. subst (λ w. IsExpr s left 7 w (t ∷ x)) (sym h.1) (omega arith, nests_first _ _ _ _ t x e room h.2)) (λ s v h. expr_some s left 7 v h) (some_expr left 7)
        (made_form (0 < left) (Level (left - 1) 7) begins_post (λ part. Neg_of t.at part) inside.unary unaries)
    unary_kind other e = unary_plain (ap is_minus e)

  unary_form : Form (Unit {0}) (Level left 7) begins_post (unary_at left inside)
  unary_form = record { some = some_expr left 7; meets = λ u tokens real. cases tokens real } where
    cases : (tokens : List Token) → AllReal tokens → Outcome (Level left 7) begins_post tokens (unary_at left inside tokens)
    cases [] real = ended (Level left 7) begins_post (some_expr left 7)
    cases (t ∷ rest) real = unary_kind t rest real t.kind refl

  -- ---- products, sums and comparisons

  product_form : Form (Unit {0}) (Level left 6) on_product (product_at left inside)
  unfolding product_at
  product_form =
      chain_form left 6 7 (Tail_form left product_of 7) begins_post on_product _ _ is_product product_tree unary_form
      (tail_form left product_of 7 begins_post (unary_at left inside) (operator_form (Unit {0}) product_of product_ends (kind.Mark mark.Star) op.Mul refl never) unary_form)
      (λ s a t ts h. tail_head left product_of is_product products 7 s a t ts h) (λ s a h. tail_some left product_of 7 s a h)
      product_on (λ k e. (or_false (is_product k) (begins_post k) e).1) (λ k e stop. not_both (is_product k) e (or_false (is_product k) (begins_post k) stop).0) (product_to left) (product_from left)

  sum_form : Form (Unit {0}) (Level left 5) on_sum (sum_at left inside)
  unfolding sum_at
  sum_form =
      chain_form left 5 6 (Tail_form left sum_of 6) on_product on_sum _ _ is_sum sum_tree product_form
      (tail_form left sum_of 6 on_product (product_at left inside) (operator_form (Unit {0}) sum_of sum_ends (kind.Mark mark.Plus) op.Add refl never) product_form)
      (λ s a t ts h. tail_head left sum_of is_sum sums 6 s a t ts h) (λ s a h. tail_some left sum_of 6 s a h)
      sum_on (λ k e. (or_false (is_sum k) (on_product k) e).1) (λ k e stop. not_both (is_sum k) e (or_false (is_sum k) (on_product k) stop).0) (sum_to left) (sum_from left)

  right_form : Form (Unit {0}) (Right left) on_sum (right_at (sum_at left inside))
  right_form =
      form_same (Unit {0}) (Seq (Operators compare_of) (λ which. Made (λ right. (which.1, right)) (Level left 5))) (Right left) on_sum (right_at (sum_at left inside)) to from
      (then_form (Unit {0}) (Operators compare_of) (λ which. Made (λ right. (which.1, right)) (Level left 5)) on_sum (operator_at compare_of) _
      (operator_form (Unit {0}) compare_of compare_ends (kind.Mark (mark.Compare compare.Eq)) compare.Eq refl never)
      (λ which. made_form (Unit {0}) (Level left 5) on_sum (λ right. (which.1, right)) (sum_at left inside) sum_form)) where
        to : (s : Sort) (v : CompareOp × ExprTree) (ts : List Token) → Seq (Operators compare_of) (λ which. Made (λ right. (which.1, right)) (Level left 5)) s v ts → Right left s v ts
        to s v ts (which, (x, y, o, (right, same, q), e)) = subst (λ w. Right left s w ts) (sym same) (x, y, (which.0, o), q, e)

        from : (s : Sort) (v : CompareOp × ExprTree) (ts : List Token) → Right left s v ts → Seq (Operators compare_of) (λ which. Made (λ right. (which.1, right)) (Level left 5)) s v ts
        from s v ts (x, y, (place, o), q, e) = ((place, v.0), (x, y, o, (v.1, refl, q), e))

  maybe_right : Form (Unit {0}) (Maybe (Right left)) on_compare (maybe_at (right_at (sum_at left inside)) is_compare)
  maybe_right = maybe_form (Unit {0}) (Right left) is_compare on_sum on_compare _ right_form (λ s a t ts h. right_head left s a t ts h) (λ s a h. right_some left s a h)
      (λ k e. (or_false (is_compare k) (on_sum k) e).1) (λ k e stop. not_both (is_compare k) e (or_false (is_compare k) (on_sum k) stop).0)

  compare_form : Form (Unit {0}) (Level left 4) on_compare (compare_at left inside)
  unfolding compare_at
  compare_form = record { some = some_expr left 4; meets = λ u tokens real. cases tokens real } where
    stops : (place : Place) (s : Sort) (a v : ExprTree) (ts z : List Token) → Made (compare_tree place a) (Maybe (Right left)) s v ts → Stops on_compare z → Stops on_sum (ts ++ z)
    stops place s a v ts [] (None, same, nil) stop = subst (λ w. Stops on_sum (w ++ [])) (sym nil) tt
    stops place s a v ts (u ∷ z) (None, same, nil) stop = subst (λ w. Stops on_sum (w ++ u ∷ z)) (sym nil) (or_false (is_compare u.kind) (on_sum u.kind) stop).1
    stops place s a v [] z (Some right, same, h) stop = absurd (right_some left s right h)
    stops place s a v (u ∷ ts) z (Some right, same, h) stop = compare_on u.kind (right_head left s right u ts h)

    none_of : (place : Place) (s : Sort) (v : ExprTree) → Compared left place s v [] → ⊥
    none_of place s v (a, ([], z, p, q, e)) = expr_some s left 5 a p
    none_of place s v (a, (u ∷ us, z, p, q, e)) = absurd cc

    whole : (place : Place) → Form (Unit {0}) (Compared left place) on_compare
        (λ tokens. sum_at left inside tokens >>= λ first. maybe_at (right_at (sum_at left inside)) is_compare first.1 >>= λ second. Ok (compare_tree place first.0 second.0, second.1))
    whole place =
        seq_form (Level left 5) (λ first. Made (compare_tree place first) (Maybe (Right left))) on_sum on_compare (stops place) (λ a. (a, [], λ s. (None, refl, refl), λ h. h)) (Unit {0}) (sum_at left inside) _ sum_form
        (λ first. made_form (Unit {0}) (Maybe (Right left)) on_compare (compare_tree place first) _ maybe_right)

    cases : (tokens : List Token) → AllReal tokens → Outcome (Level left 4) on_compare tokens (compare_at left inside tokens)
    cases [] real = none_read (Compared left (place_at [])) (Level left 4) on_compare (some_expr left 4) (none_of (place_at [])) _ ((whole (place_at [])).meets tt [] tt)
    cases (t ∷ rest) real =
        known_first (Compared left t.at) (Level left 4) on_compare t (λ s v x h. compare_to left t s v x h) (λ s v x h. compare_from left t s v x h) (λ s v h. none_of t.at s v h) (λ s v h stop. expr_some s left 4 v h)
        (some_expr left 4) rest _ ((whole t.at).meets tt (t ∷ rest) real)

  -- ---- `not`, and what is joined

  module _ (t : Token) (rest : List Token) (real : AllReal (t ∷ rest)) where
    abbrev Denial : Family ExprTree
    Denial = Made (λ part. Not_of t.at part) (Level (left - 1) 3)

    no_not : t.kind ≡ kind.Word word.Not → (s : Sort) (v : ExprTree) (x : List Token) → IsExpr s left 4 v (t ∷ x) → ⊥
    no_not e s v x h = omega (arith, expr_head s left 4 (omega arith) v t x h, ap head_level e)

    denial_from : t.kind ≡ kind.Word word.Not → (s : Sort) (v : ExprTree) (x : List Token) → IsExpr s left 3 v (t ∷ x) → (MindsNesting s → IsReal t → 0 < left) × Denial s v x
    denial_from e s (Not_of place part) x h = let one = nests_then _ _ _ _ _ t x h.1 in (one.2, (part, ap (λ p. Not_of p part) (sym one.1), one.3))
    denial_from e s other x h = absurd (no_not e s other x (tighter s left 3 other (λ place n same. inl (omega arith)) (t ∷ x) (omega (arith, reaches s left 3 (omega arith) other (t ∷ x) h)) h))

    nots_from : is_not t.kind ≡ false → (s : Sort) (v : ExprTree) (x : List Token) → IsExpr s left 3 v (t ∷ x) → IsExpr s left 4 v (t ∷ x)
    unfolding is_not
    nots_from e s (Not_of place part) x h = absurd (not_both (is_not t.kind) (ap is_not (nests_then _ _ _ _ _ t x h.1).0) e)
    nots_from e s other x h = tighter s left 3 other (λ place n same. inl (omega arith)) (t ∷ x) (omega (arith, reaches s left 3 (omega arith) other (t ∷ x) h)) h

    nots_plain : is_not t.kind ≡ false → Outcome (Level left 3) on_compare (t ∷ rest) (compare_at left inside (t ∷ rest))
    nots_plain e =
        known_first (Level left 4) (Level left 3) on_compare t (λ s v x h. looser s left 3 4 (omega arith) v (t ∷ x) h) (nots_from e) (λ s v h. expr_some s left 4 v h) (λ s v h stop. expr_some s left 3 v h)
        (some_expr left 3) rest _ (compare_form.meets tt (t ∷ rest) real)

    nots_kind : (k : Kind) → t.kind ≡ k → Outcome (Level left 3) on_compare (t ∷ rest) (nots_on left inside t.at (t ∷ rest) rest k)
    unfolding nots_on is_not
    nots_kind (kind.Word word.Not) e =
        deeper_outcome Denial (Level left 3) on_compare left t rest (λ tokens. inside.nots tokens >>= λ one. Ok (Not_of t.at one.0, one.1)) real (ap is_last e) (denial_from e)
        (λ s v x room h. subst (λ w. IsExpr s left 3 w (t ∷ x)) (sym h.1) (omega arith, nests_first _ _ _ _ t x e room h.2)) (λ s v h. expr_some s left 3 v h) (some_expr left 3)
        (made_form (0 < left) (Level (left - 1) 3) on_compare (λ part. Not_of t.at part) inside.nots nots)
    nots_kind other e = nots_plain (ap is_not e)

  nots_form : Form (Unit {0}) (Level left 3) on_compare (nots_at left inside)
  nots_form = record { some = some_expr left 3; meets = λ u tokens real. cases tokens real } where
    cases : (tokens : List Token) → AllReal tokens → Outcome (Level left 3) on_compare tokens (nots_at left inside tokens)
    cases [] real = ended (Level left 3) on_compare (some_expr left 3)
    cases (t ∷ rest) real = nots_kind t rest real t.kind refl

  and_form : Form (Unit {0}) (Level left 2) on_and (and_at left inside)
  unfolding and_at
  and_form =
      chain_form left 2 3 (Operand left 3 (kind.Word word.And)) on_compare on_and _ _ is_and and_tree nots_form
      (after_form (Unit {0}) is_and (kind.Word word.And) and_tests refl (Level left 3) on_compare (nots_at left inside) nots_form)
      (λ s a t ts h. ap is_and (one_then (kind.Word word.And) _ t ts h).0) (λ s a h. then_some (kind.Word word.And) _ h)
      and_on (λ k e. (or_false (is_and k) (on_compare k) e).1) (λ k e stop. not_both (is_and k) e (or_false (is_and k) (on_compare k) stop).0) (and_to left) (and_from left)

  or_form : Form (Unit {0}) (Level left 1) on_or (or_at left inside)
  unfolding or_at
  or_form =
      chain_form left 1 2 (Operand left 2 (kind.Word word.Or)) on_and on_or _ _ is_or or_tree and_form
      (after_form (Unit {0}) is_or (kind.Word word.Or) or_tests refl (Level left 2) on_and (and_at left inside) and_form)
      (λ s a t ts h. ap is_or (one_then (kind.Word word.Or) _ t ts h).0) (λ s a h. then_some (kind.Word word.Or) _ h)
      or_on (λ k e. (or_false (is_or k) (on_and k) e).1) (λ k e stop. not_both (is_or k) e (or_false (is_or k) (on_and k) stop).0) (or_to left) (or_from left)

  -- ---- `if`

  abbrev Choice : Place → Family ExprTree
  Choice place = Seq (Level (left - 1) 0) (λ test. After (kind.Word word.Then) (Seq (Level (left - 1) 0) (λ first. After (kind.Word word.Else) (Made (λ other. If_of place test first other) (Level (left - 1) 0)))))

  choice_form : (place : Place) → Form (0 < left) (Choice place) on_or (if_at inside place)
  unfolding if_at
  choice_form place =
      marked_form (0 < left) is_then (kind.Word word.Then) then_tests refl (Level (left - 1) 0) (λ test. Seq (Level (left - 1) 0) (λ first. After (kind.Word word.Else) (Made (λ other. If_of place test first other) (Level (left - 1) 0))))
      on_or on_or inside.expr _ refl exprs
      (λ test. marked_form (0 < left) is_else (kind.Word word.Else) else_tests refl (Level (left - 1) 0) (λ first. Made (λ other. If_of place test first other) (Level (left - 1) 0)) on_or on_or inside.expr _ refl exprs
      (λ first. made_form (0 < left) (Level (left - 1) 0) on_or (λ other. If_of place test first other) inside.expr exprs))

  module _ (t : Token) (rest : List Token) (real : AllReal (t ∷ rest)) where
    choice_from : t.kind ≡ kind.Word word.If → (s : Sort) (v : ExprTree) (x : List Token) → IsExpr s left 0 v (t ∷ x) → (MindsNesting s → IsReal t → 0 < left) × Choice t.at s v x
    choice_from e s (If_of place test first other) x h = form (nests_then _ _ _ _ _ t x h.1) where
      form : (t.kind ≡ kind.Word word.If) × (t.at ≡ place) × (MindsNesting s → IsReal t → 0 < left)
          × (IsExpr s (left - 1) 0 test ⨾ One (kind.Word word.Then) ⨾ IsExpr s (left - 1) 0 first ⨾ One (kind.Word word.Else) ⨾ IsExpr s (left - 1) 0 other) x
          → (MindsNesting s → IsReal t → 0 < left) × Choice t.at s (If_of place test first other) x
      form (k, p, room, (a, b, q, (c, d, m, (f, g, r, (i, j, n, o, e4), e3), e2), e1)) =
          (room, (test, (a, b, q, (c, d, m, (first, (f, g, r, (i, j, n, (other, ap (λ w. If_of w test first other) (sym p), o), e4), e3)), e2), e1)))
    choice_from e s other x h =
        absurd (omega (arith, expr_head s left 1 (omega arith) other t x (tighter s left 0 other (λ place n same. inl (omega arith)) (t ∷ x) (omega (arith, reaches s left 0 (omega arith) other (t ∷ x) h)) h), ap head_level e))

    choice_put : t.kind ≡ kind.Word word.If → (s : Sort) (v : ExprTree) (x : List Token) → (MindsNesting s → IsReal t → 0 < left) → Choice t.at s v x → IsExpr s left 0 v (t ∷ x)
    choice_put e s v x room (test, (a, b, q, (c, d, m, (first, (f, g, r, (i, j, n, (other, same, o), e4), e3)), e2), e1)) =
        subst (λ w. IsExpr s left 0 w (t ∷ x)) (sym same) (omega arith, nests_first _ _ _ _ t x e room (a, b, q, (c, d, m, (f, g, r, (i, j, n, o, e4), e3), e2), e1))

    expr_from : is_if t.kind ≡ false → (s : Sort) (v : ExprTree) (x : List Token) → IsExpr s left 0 v (t ∷ x) → IsExpr s left 1 v (t ∷ x)
    unfolding is_if
    expr_from e s (If_of place test first other) x h = absurd (not_both (is_if t.kind) (ap is_if (nests_then _ _ _ _ _ t x h.1).0) e)
    expr_from e s other x h = tighter s left 0 other (λ place n same. inl (omega arith)) (t ∷ x) (omega (arith, reaches s left 0 (omega arith) other (t ∷ x) h)) h

    expr_plain : is_if t.kind ≡ false → Outcome (Level left 0) on_or (t ∷ rest) (or_at left inside (t ∷ rest))
    expr_plain e =
        known_first (Level left 1) (Level left 0) on_or t (λ s v x h. looser s left 0 1 (omega arith) v (t ∷ x) h) (expr_from e) (λ s v h. expr_some s left 1 v h) (λ s v h stop. expr_some s left 0 v h)
        (some_expr left 0) rest _ (or_form.meets tt (t ∷ rest) real)

    expr_kind : (k : Kind) → t.kind ≡ k → Outcome (Level left 0) on_or (t ∷ rest) (expr_on left inside t.at (t ∷ rest) rest k)
    unfolding expr_on is_if
    expr_kind (kind.Word word.If) e =
        deeper_outcome (Choice t.at) (Level left 0) on_or left t rest (if_at inside t.at) real (ap is_last e) (choice_from e) (choice_put e) (λ s v h. expr_some s left 0 v h) (some_expr left 0) (choice_form t.at)
    expr_kind other e = expr_plain (ap is_if e)

  step_form : Form (Unit {0}) (Level left 0) on_or (expr_step left inside)
  step_form = record { some = some_expr left 0; meets = λ u tokens real. cases tokens real } where
    cases : (tokens : List Token) → AllReal tokens → Outcome (Level left 0) on_or tokens (expr_step left inside tokens)
    cases [] real = ended (Level left 0) on_or (some_expr left 0)
    cases (t ∷ rest) real = expr_kind t rest real t.kind refl

-- how expressions are read one level deeper
pub record Inner (left : ℕ) : Type 0 where
  pub exprs : Form (0 < left) (Level (left - 1) 0) on_or (inner left).expr
  pub nots : Form (0 < left) (Level (left - 1) 3) on_compare (inner left).nots
  pub unaries : Form (0 < left) (Level (left - 1) 7) begins_post (inner left).unary

pub inner_forms : (left : ℕ) → Inner left
unfolding inner
inner_forms zero = record {
  exprs = record { some = some_expr (zero - 1) 0; meets = λ lt. absurd (omega (arith, lt)) };
  nots = record { some = some_expr (zero - 1) 3; meets = λ lt. absurd (omega (arith, lt)) };
  unaries = record { some = some_expr (zero - 1) 7; meets = λ lt. absurd (omega (arith, lt)) };
}
inner_forms (suc left) = next (inner_forms left) where
  next : Inner left → Inner (suc left)
  next i = record {
    exprs = lowered (λ n. Level n 0) on_or _ left (step_form left (inner left) i.exprs i.nots i.unaries);
    nots = lowered (λ n. Level n 3) on_compare _ left (nots_form left (inner left) i.exprs i.nots i.unaries);
    unaries = lowered (λ n. Level n 7) begins_post _ left (unary_form left (inner left) i.exprs i.nots i.unaries);
  }

-- reading an expression comes to what the grammar says
pub expr_form : (left : ℕ) → Form (Unit {0}) (Level left 0) on_or (expr_at left)
expr_form left = let i = inner_forms left in step_form left (inner left) i.exprs i.nots i.unaries
