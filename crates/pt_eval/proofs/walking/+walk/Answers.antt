use Rattle.std.proofs.Common.{◌≡◌, ℕ, ◌+◌, ◌<◌, ◌≤◌, true, false, Result, List, [], ◌∷◌, ◌++◌, length, drop, refl, sym, subst, ◌∙◌, ap, ◌⊎◌, inl, inr, rules, arith}
use Rattle.std.specs.Prelude.{neg_ℤ, if◌then◌else◌}
use Rattle.std.proofs.Math.Bool.{beq}
use Rattle.std.proofs.Math.Seq.{take-length}
use Rattle.std.proofs.lemmas.List.{length_push}
use Rattle.std.proofs.lemmas.Iterator.Adapters.{YieldsList-from_vec}
use Rattle.std.proofs.lemmas.Iterator.Consumers.{YieldsList-turn}
use Rattle.pt_val.specs.declared.place.Place.{Place}
use Rattle.pt_val.specs.declared.val.Val.{Val}
use Rattle.pt_ast.specs.declared.binding.Binding.{Binding}
use Rattle.pt_ast.specs.declared.expr.Expr.{Expr}
use Rattle.pt_ast.specs.declared.expr.Func.{Func}
use Rattle.pt_ast.specs.Plain.{plain_expr, plain_exprs, plain_tail, plain_post}
use Rattle.pt_ast.specs.Trees.{ExprTree, TailTree, PostTree}
use Rattle.pt_ast.proofs.Shapes.{plain-if, plain-neg, plain-right, plain-index}
use Rattle.pt_eval.specs.declared.stop.WalkStop.{WalkStop}
use Rattle.pt_eval.specs.Env.{bound}
use Rattle.pt_eval.specs.Parts.{number_of, truth_of}
use Rattle.pt_eval.specs.Steps.{after, counted, in_range, applied, indexed}
use Rattle.pt_eval.specs.Calls.{call_value}
use Rattle.pt_eval.specs.Value.{value_of, values_of, tail_value, post_value, begun, cost_of, costs_of, tail_cost, post_cost}
use Rattle.pt_eval.specs.Evaluates.{Evaluates}
use Rattle.pt_eval.specs.Spends.{Spends}
use Rattle.pt_eval.specs.Seen.{seen, shown}
use Rattle.pt_eval.proofs.WalkLemmas.{tail-turn, post-turn, all-turn, sought-turn, begun-here, each-turn, seek-turn, inside-is, cut_back, after-none, only-one, only-two, spends-own, spends-inside, spends-branch, spends-one, spends-two, spends-other}
use Rattle.pt_eval.proofs.walking.+walk.Goals as goal
use Rattle.pt_eval.proofs.walking.+walk.Goals.{seek_part-then-is_right+in_ok-spend, seek_part-else-is_right, walk-then-truth+in_ok-val-in-If, walk-else-truth+in_ok-val-in-If-2, walk_call-in_default-via-then-parts-lt1, walk_call-in_default-via-else-parts-lt1+else-parts-lt2+else-parts-lt3}

pub walk_all-loop-part-preserved : goal.walk_all-loop-part-preserved
walk_all-loop-part-preserved t c =
    let so = c.loop-part.invariant in
    let env = c.args.env.now ++ c.args.locals.now in
    let here = rw so.2 at c.in_ok-value.ensures.spends in
    let turn = all-turn c.args.parts.now c.loop-part.part-index c.part-item.result env c.loop-part.values c.in_ok-value.value (omega arith) c.part-item.is here.0 in (
      so.0 + cost_of (plain_expr c.part-item.result) env,
      omega (arith, so.1, here.1),
      c.in_ok-value.ensures.locals ∙ so.2,
      rw c.in_ok-push.ensures.ok (so.3 ∙ turn.0),
      omega (arith, so.4, turn.1),
    )

pub walk_tails-loop-tail-preserved : goal.walk_tails-loop-tail-preserved
walk_tails-loop-tail-preserved t c =
    let so = c.loop-tail.invariant in
    let env = c.args.env.now ++ c.args.locals.now in
    let here = rw so.2 at c.in_ok-so_far.ensures.spends in
    let turn = tail-turn c.args.tails.now c.loop-tail.tail-index c.tail-item.result env c.loop-tail.so_far c.in_ok-so_far.so_far (omega arith) c.tail-item.is here.0 in (
      so.0 + tail_cost (plain_tail c.tail-item.result) env c.loop-tail.so_far,
      omega (arith, so.1, here.1),
      c.in_ok-so_far.ensures.locals ∙ so.2,
      so.3 ∙ turn.0,
      omega (arith, so.4, turn.1),
    )

pub see_posts-loop-post-preserved : goal.see_posts-loop-post-preserved
see_posts-loop-post-preserved t c =
    let so = c.loop-post.invariant in
    let env = c.args.env.now ++ c.args.locals.now in
    let here = rw so.2 at c.in_ok-so_far.ensures.spends in
    let turn = post-turn c.args.posts.now c.loop-post.post-index c.post-item.result env (seen c.loop-post.so_far) (seen c.in_ok-so_far.so_far) (omega arith) c.post-item.is here.0 in (
      so.0 + post_cost (plain_post c.post-item.result) env (seen c.loop-post.so_far),
      omega (arith, so.1, here.1),
      c.in_ok-so_far.ensures.locals ∙ so.2,
      so.3 ∙ turn.0,
      omega (arith, so.4, turn.1),
    )

pub seek_part-loop-part-preserved : goal.seek_part-loop-part-preserved
seek_part-loop-part-preserved t c =
    let so = c.loop-part.invariant in
    let env = c.args.env.now ++ c.args.locals.now in
    let parts = c.args.parts.now in
    let index = c.loop-part.part-index in
    let part = c.part-item.result in
    let two = if c.loop-part.is_right then begun (plain_exprs (drop index parts)) else 0 in
    let here_two = begun-here parts index part (omega arith) c.part-item.is in
    let paid : c.loop-part.left ≡ c.if-is_right.left + two = elim c.if-is_right.branch [
      | seek_part-then-is_right+in_ok-spend w ↦ rw (w.if-is_right.true, here_two) (omega (arith, w.left-is, w.in_ok-spend.ensures.1))
      | seek_part-else-is_right w ↦ rw w.if-is_right.false (omega (arith, w.left-is))
    ] in
    let here = rw so.2 at c.in_ok-walk.ensures.spends in
    let meets : beq (truth_of c.in_ok-walk.field-0) c.args.sought ≡ false = ap (λ b. beq b c.args.sought) (sym c.truth.ensures) ∙ c.if-truth-sought.false in
    let turn = sought-turn parts index part env c.args.sought false c.in_ok-walk.field-0 (omega arith) c.part-item.is here.0 meets in (
      so.0 + two + cost_of (plain_expr part) env,
      omega (arith, so.1, paid, here.1),
      c.in_ok-walk.ensures.locals ∙ so.2,
      so.3 ∙ turn.0,
      omega (arith, so.4, turn.1),
    )

pub seek_member-loop-member-init : goal.seek_member-loop-member-init
seek_member-loop-member-init t c = (0, omega arith, c.len-outer.ensures, rw c.len-outer.ensures (take-length c.args.locals.now), refl, omega arith)

pub seek_member-loop-member-preserved : goal.seek_member-loop-member-preserved
seek_member-loop-member-preserved t c =
    let so = c.loop-member.invariant in
    let env = c.args.env.now ++ c.args.locals.now in
    let inside = c.args.env.now ++ c.rebind.new.self in
    let members = c.args.members in
    let member = c.in-Some.member in
    let body = plain_expr c.args.body.now in
    let given = c.into_iter-member-iterator.ensures.into_iter_gives in
    let item = YieldsList-turn (YieldsList-from_vec members given.0 given.1) c.loop-member.yielded c.loop-member.member-iterator c.loop-member.yielded_by
    c.next.result c.next.new.self member c.in-Some.is c.next.ensures.steps in
    let bind : c.rebind.new.self ≡ c.args.locals.now ++ bound c.args.name.now member ∷ [] =
    c.in_ok-rebind.ensures.ok ∙ ap (λ bs. bs ++ bound c.args.name.now member ∷ []) so.3 in
    let here = c.in_ok-walk.ensures.spends in
    let meets : beq (truth_of c.in_ok-walk.field-0) c.args.sought ≡ false = ap (λ b. beq b c.args.sought) (sym c.truth.ensures) ∙ c.if-truth-sought.false in
    let turn = seek-turn body c.args.name.now env inside members (length c.loop-member.yielded) member c.args.sought false c.in_ok-walk.field-0 item.0 item.1
    (inside-is c.args.env.now c.args.locals.now c.rebind.new.self (bound c.args.name.now member) bind) here.0 meets in (
      so.0 + cost_of body inside,
      omega (arith, so.1, here.1),
      so.2,
      cut_back c.len-outer.result c.args.locals.now c.walk.new.locals (bound c.args.name.now member) so.2 (c.in_ok-walk.ensures.locals ∙ bind),
      rw length_push (so.4 ∙ turn.0),
      rw length_push (omega (arith, so.5, turn.1)),
    )

pub walk_each-loop-member-init : goal.walk_each-loop-member-init
walk_each-loop-member-init t c =
    (0, omega arith, c.len-outer.ensures, rw c.len-outer.ensures (take-length c.args.locals.now), after-none _ _ c.empty-values.ensures, omega arith)

pub walk_each-loop-member-preserved : goal.walk_each-loop-member-preserved
walk_each-loop-member-preserved t c =
    let so = c.loop-member.invariant in
    let env = c.args.env.now ++ c.args.locals.now in
    let inside = c.args.env.now ++ c.rebind.new.self in
    let members = c.args.members in
    let member = c.in-Some.member in
    let body = plain_expr c.args.body.now in
    let given = c.into_iter-member-iterator.ensures.into_iter_gives in
    let item = YieldsList-turn (YieldsList-from_vec members given.0 given.1) c.loop-member.yielded c.loop-member.member-iterator c.loop-member.yielded_by
    c.next.result c.next.new.self member c.in-Some.is c.next.ensures.steps in
    let bind : c.rebind.new.self ≡ c.args.locals.now ++ bound c.args.name.now member ∷ [] =
    c.in_ok-rebind.ensures.ok ∙ ap (λ bs. bs ++ bound c.args.name.now member ∷ []) so.3 in
    let here = c.in_ok-value.ensures.spends in
    let turn = each-turn body c.args.name.now env inside members (length c.loop-member.yielded) member c.loop-member.values c.in_ok-value.value item.0 item.1
    (inside-is c.args.env.now c.args.locals.now c.rebind.new.self (bound c.args.name.now member) bind) here.0 in (
      so.0 + cost_of body inside,
      omega (arith, so.1, here.1),
      so.2,
      cut_back c.len-outer.result c.args.locals.now c.walk.new.locals (bound c.args.name.now member) so.2 (c.in_ok-value.ensures.locals ∙ bind),
      rw (length_push, c.in_ok-push.ensures.ok) (so.4 ∙ turn.0),
      rw length_push (omega (arith, so.5, turn.1)),
    )

pub walk-returns-after-truth-clause-spends : goal.walk-returns-after-truth-clause-spends
walk-returns-after-truth-clause-spends t c =
    let env = c.args.env.now ++ c.args.locals.now in
    let test = plain_expr c.in-If.test.value in
    let first = plain_expr c.in-If.first.value in
    let other = plain_expr c.in-If.other.value in
    let given = c.in_ok-test-in-If.test in
    let here = rw c.deref.ensures at c.in_ok-test-in-If.ensures.spends in
    let same = c.in_ok-test-in-If.ensures.locals in
    let taken : Spends (if truth_of given then value_of first env else value_of other env)
    ((if truth_of given then cost_of first env else cost_of other env) + counted (if truth_of given then value_of first env else value_of other env))
    c.walk.new.left c.pay-in-If.new.left c.pay-in-If.result = elim c.if-truth.branch [
      | walk-then-truth+in_ok-val-in-If w ↦
          spends-branch (truth_of given) true (value_of first env) (value_of other env) (cost_of first env) (cost_of other env)
          c.walk.new.left w.walk-then-truth.new.left c.pay-in-If.new.left w.in_ok-val-in-If.val c.pay-in-If.result (sym c.truth.ensures ∙ w.if-truth.true)
          (rw (w.deref-then-truth.ensures, same) at w.in_ok-val-in-If.ensures.spends) (rw (w.val-is, w.left-is) at c.pay-in-If.ensures)
      | walk-else-truth+in_ok-val-in-If-2 w ↦
          spends-branch (truth_of given) false (value_of first env) (value_of other env) (cost_of first env) (cost_of other env)
          c.walk.new.left w.walk-else-truth.new.left c.pay-in-If.new.left w.in_ok-val-in-If-2.val c.pay-in-If.result (sym c.truth.ensures ∙ w.if-truth.false)
          (rw (w.deref-else-truth.ensures, same) at w.in_ok-val-in-If-2.ensures.spends) (rw (w.val-is, w.left-is) at c.pay-in-If.ensures)
    ] in
    let P : ExprTree → Type 0 = λ tree. Spends (value_of tree env) (cost_of tree env) c.args.left.now c.pay-in-If.new.left c.pay-in-If.result in
    subst P (sym (plain-if c.args.e.now c.in-If.test c.in-If.first c.in-If.other c.in-If.is))
    (spends-inside (value_of test env) (cost_of test env) (λ truth. if truth_of truth then value_of first env else value_of other env)
    (λ truth. if truth_of truth then cost_of first env else cost_of other env)
    c.args.left.now c.walk.new.left c.pay-in-If.new.left given c.pay-in-If.result here taken)

pub walk-returns-in_ok-val-in-Neg-clause-spends : goal.walk-returns-in_ok-val-in-Neg-clause-spends
walk-returns-in_ok-val-in-Neg-clause-spends t c =
    let env = c.args.env.now ++ c.args.locals.now in
    let part = plain_expr c.in-Neg.part.value in
    let given = c.in_ok-val-in-Neg.val in
    let at = c.args.e.now.at in
    let here = rw c.deref-in-Neg.ensures at c.in_ok-val-in-Neg.ensures.spends in
    let made : Evaluates (in_range at (neg_ℤ (number_of given))) c.negate.result = search rules in
    let P : ExprTree → Type 0 = λ tree. Spends (value_of tree env) (cost_of tree env) c.args.left.now c.pay_made.new.left c.pay_made.result in
    subst P (sym (plain-neg c.args.e.now c.in-Neg.part c.in-Neg.is))
    (spends-own (value_of part env) (cost_of part env) (λ x. in_range at (neg_ℤ (number_of x))) c.args.left.now c.walk-in-Neg.new.left c.pay_made.new.left given c.pay_made.result
    here (c.pay_made.ensures (in_range at (neg_ℤ (number_of given))) made))

pub walk_tail-returns-clause-spends : goal.walk_tail-returns-clause-spends
walk_tail-returns-clause-spends t c =
    let env = c.args.env.now ++ c.args.locals.now in
    let tail = c.args.tail.now in
    let right = plain_expr tail.right in
    let given = seen c.in_ok-right.right in
    let left = c.args.so_far.now in
    let made : Evaluates (applied tail.op tail.at (number_of left) (number_of given)) c.apply.result = search rules in
    let P : TailTree → Type 0 = λ tree. Spends (tail_value tree env left) (tail_cost tree env left) c.args.left.now c.pay_made.new.left c.pay_made.result in
    subst P (sym (plain-right tail))
    (spends-own (value_of right env) (cost_of right env) (λ y. applied tail.op tail.at (number_of left) (number_of y)) c.args.left.now c.see.new.left c.pay_made.new.left given c.pay_made.result
    c.in_ok-right.ensures.spends (c.pay_made.ensures (applied tail.op tail.at (number_of left) (number_of given)) made))

pub see_post-returns-in_ok-place-in-Index-clause-spends : goal.see_post-returns-in_ok-place-in-Index-clause-spends
see_post-returns-in_ok-place-in-Index-clause-spends t c =
    let env = c.args.env.now ++ c.args.locals.now in
    let index = plain_expr c.in-Index.place in
    let given = c.in_ok-place-in-Index.place in
    let base = seen c.args.so_far in
    let at = c.in-Index.at in
    let made : Evaluates (indexed at base (number_of given)) (shown c.index.result) = search rules in
    let P : PostTree → Type 0 = λ tree. Spends (post_value tree env base) (post_cost tree env base) c.args.left.now c.pay_found.new.left (shown c.pay_found.result) in
    subst P (sym (ap plain_post c.in-Index.is ∙ plain-index at c.in-Index.place))
    (spends-own (value_of index env) (cost_of index env) (λ place. indexed at base (number_of place)) c.args.left.now c.walk.new.left c.pay_found.new.left given (shown c.pay_found.result)
    c.in_ok-place-in-Index.ensures.spends (c.pay_found.ensures (indexed at base (number_of given)) made))

-- what a call says of its expressions
abbrev Called : Func → Place → List Expr → List Binding → ℕ → ℕ → Result Val WalkStop → Type 0
Called func at parts env old new result = Spends (after (values_of (plain_exprs parts) env) (call_value func at))
    (costs_of (plain_exprs parts) env + counted (after (values_of (plain_exprs parts) env) (call_value func at))) old new result

pub walk_call-returns-in_ok-given-in-len1-clause-spends : goal.walk_call-returns-in_ok-given-in-len1-clause-spends
walk_call-returns-in_ok-given-in-len1-clause-spends t c =
    let env = c.args.env.now ++ c.args.locals.now in
    let part = plain_expr c.given-item.result in
    let given = seen c.in_ok-given-in-len1.given in
    let call = λ (values : List Val). call_value c.args.func c.args.at values in
    let P : List Expr → Type 0 = λ parts. Called c.args.func c.args.at parts env c.args.left.now c.pay_made.new.left c.pay_made.result in
    subst P (sym (only-one c.args.parts.now c.given-item.result (omega arith) (omega arith) c.given-item.is))
    (spends-one (value_of part env) (cost_of part env) call c.args.left.now c.see.new.left c.pay_made.new.left given c.pay_made.result
    c.in_ok-given-in-len1.ensures.spends (c.pay_made.ensures (call (given ∷ [])) c.call_one.ensures))

pub walk_call-returns-in_ok-other-in-len2-clause-spends : goal.walk_call-returns-in_ok-other-in-len2-clause-spends
walk_call-returns-in_ok-other-in-len2-clause-spends t c =
    let env = c.args.env.now ++ c.args.locals.now in
    let first = plain_expr c.one-item.result in
    let second = plain_expr c.other-item.result in
    let given = seen c.in_ok-one-in-len2.one in
    let other = seen c.in_ok-other-in-len2.other in
    let call = λ (values : List Val). call_value c.args.func c.args.at values in
    let P : List Expr → Type 0 = λ parts. Called c.args.func c.args.at parts env c.args.left.now c.pay_made-in-len2.new.left c.pay_made-in-len2.result in
    subst P (sym (only-two c.args.parts.now c.one-item.result c.other-item.result (omega arith) (omega arith) c.one-item.is c.other-item.is))
    (spends-two (value_of first env) (value_of second env) (cost_of first env) (cost_of second env) call c.args.left.now c.see-in-len2.new.left c.see-in-len2-2.new.left
    c.pay_made-in-len2.new.left given other c.pay_made-in-len2.result
    c.in_ok-one-in-len2.ensures.spends (rw c.in_ok-one-in-len2.ensures.locals at c.in_ok-other-in-len2.ensures.spends)
    (c.pay_made-in-len2.ensures (call (given ∷ other ∷ [])) c.call_two.ensures))

pub walk_call-returns-in_ok-walk_all-in_default-clause-spends : goal.walk_call-returns-in_ok-walk_all-in_default-clause-spends
walk_call-returns-in_ok-walk_all-in_default-clause-spends t c =
    let env = c.args.env.now ++ c.args.locals.now in
    let count : (length c.args.parts.now ≡ 0) ⊎ (3 ≤ length c.args.parts.now) = elim c.in_default.branch [
      | walk_call-in_default-via-then-parts-lt1 w ↦ inl (let none : length c.args.parts.now < 1 = search rules in omega arith)
      | walk_call-in_default-via-else-parts-lt1+else-parts-lt2+else-parts-lt3 w ↦ inr (let many : 3 ≤ length c.args.parts.now = search rules in many)
    ] in
    spends-other c.args.func c.args.at c.args.parts.now env c.args.left.now c.walk_all.new.left c.pay.new.left c.in_ok-walk_all-in_default.field-0 c.pay.result count
    c.in_ok-walk_all-in_default.ensures.spends c.pay.ensures
