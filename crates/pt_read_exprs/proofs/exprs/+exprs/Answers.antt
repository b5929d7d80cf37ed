use Rattle.std.proofs.Common.{◌≡◌, ◌-◌, suc, length, map, ◌++◌, ◌∷◌, [], Ok, refl, sym, ap, subst, ◌∙◌, arith}
use Rattle.std.proofs.lemmas.Result.{err_from_is_err_and}
use Rattle.std.proofs.lemmas.List.{map_push}
use Rattle.pt_ast.specs.Plain.{plain_expr, plain_tail, plain_post}
use Rattle.pt_ast.specs.Trees.{Or_of, And_of, Tuple_of, exprs_of, tail_of}
use Rattle.pt_grammar.specs.Reading.{◌>>=◌, place_at, one_at, is_close, is_comma, is_or, is_and, less_room, room_at}
use Rattle.pt_grammar.specs.ExprReading.{inner, alone, or_at, and_at, nots_at, product_at, unary_at, joined_at, more_expr_at, or_tree, and_tree, round_at, round_tree, begins_post}
use Rattle.pt_taking.specs.Gives.{Gives, Fails}
use Rattle.pt_taking.proofs.Rows.{row_on, row_ends, row_fails, then_ok, then_fails, fails_then, with_front_none, no_more, some_left}
use Rattle.pt_taking.proofs.Fronts.{tree_of_all}
use Rattle.pt_read_exprs.proofs.exprs.+exprs.Goals as goal

pub inner_expr-returns-clause-gives : goal.inner_expr-returns-clause-gives
unfolding inner
inner_expr-returns-clause-gives t c =
    let k : c.args.left ≡ suc (c.args.left - 1) = omega arith in
    subst (λ n. Gives (λ x. (plain_expr x.0, x.1.now)) c.read_expr.result ((inner n).expr c.args.tokens.now)) (sym k) c.read_expr.ensures.gives

pub inner_not-returns-clause-gives : goal.inner_not-returns-clause-gives
unfolding inner
inner_not-returns-clause-gives t c =
    let k : c.args.left ≡ suc (c.args.left - 1) = omega arith in
    subst (λ n. Gives (λ x. (plain_expr x.0, x.1.now)) c.read_not.result ((inner n).nots c.args.tokens.now)) (sym k) c.read_not.ensures.gives

pub inner_unary-returns-clause-gives : goal.inner_unary-returns-clause-gives
unfolding inner
inner_unary-returns-clause-gives t c =
    let k : c.args.left ≡ suc (c.args.left - 1) = omega arith in
    subst (λ n. Gives (λ x. (plain_expr x.0, x.1.now)) c.read_unary.result ((inner n).unary c.args.tokens.now)) (sym k) c.read_unary.ensures.gives

pub read_ors-returns-in_err-part-clause-gives : goal.read_ors-returns-in_err-part-clause-gives
read_ors-returns-in_err-part-clause-gives t c =
    let p = err_from_is_err_and c.from_residual-in_err-part.result c.from_residual-in_err-part.ensures.1 in
    let s = c.in-Some.ensures.stands in
    rw (p.1, p.2) (row_fails c.loop-behind.invariant s.0 (omega (arith, c.in-Some.ensures.shorter)) c.in_err-part.field-0.0
    (then_fails (λ m. and_at c.args.left (inner c.args.left) m.1) c.in_err-part.field-0.0 s.1 c.in_err-part.ensures.gives))

pub read_ors-loop-behind-preserved : goal.read_ors-loop-behind-preserved
read_ors-loop-behind-preserved t c =
    let s = c.in-Some.ensures.stands in
    let e : map plain_expr c.push-in-Some.new.self ≡ map plain_expr c.loop-behind.parts ++ plain_expr c.in_ok-part.part ∷ [] =
    rw c.in_ok-push-2.ensures.ok (map_push _ c.loop-behind.parts c.in_ok-part.part) in
    rw e (row_on c.loop-behind.invariant s.0 (plain_expr c.in_ok-part.part) c.in_ok-part.more.now
    (then_ok (λ m. and_at c.args.left (inner c.args.left) m.1) s.1 c.in_ok-part.ensures.gives) (omega (arith, c.in-Some.ensures.shorter, c.in_ok-part.ensures.shorter)))

pub read_ors-returns-clause-gives : goal.read_ors-returns-clause-gives
read_ors-returns-clause-gives t c = row_ends c.loop-behind.invariant c.in_default.ensures.stands

pub read_ands-returns-in_err-part-clause-gives : goal.read_ands-returns-in_err-part-clause-gives
read_ands-returns-in_err-part-clause-gives t c =
    let p = err_from_is_err_and c.from_residual-in_err-part.result c.from_residual-in_err-part.ensures.1 in
    let s = c.in-Some.ensures.stands in
    rw (p.1, p.2) (row_fails c.loop-behind.invariant s.0 (omega (arith, c.in-Some.ensures.shorter)) c.in_err-part.field-0.0
    (then_fails (λ m. nots_at c.args.left (inner c.args.left) m.1) c.in_err-part.field-0.0 s.1 c.in_err-part.ensures.gives))

pub read_ands-loop-behind-preserved : goal.read_ands-loop-behind-preserved
read_ands-loop-behind-preserved t c =
    let s = c.in-Some.ensures.stands in
    let e : map plain_expr c.push-in-Some.new.self ≡ map plain_expr c.loop-behind.parts ++ plain_expr c.in_ok-part.part ∷ [] =
    rw c.in_ok-push-2.ensures.ok (map_push _ c.loop-behind.parts c.in_ok-part.part) in
    rw e (row_on c.loop-behind.invariant s.0 (plain_expr c.in_ok-part.part) c.in_ok-part.more.now
    (then_ok (λ m. nots_at c.args.left (inner c.args.left) m.1) s.1 c.in_ok-part.ensures.gives) (omega (arith, c.in-Some.ensures.shorter, c.in_ok-part.ensures.shorter)))

pub read_ands-returns-clause-gives : goal.read_ands-returns-clause-gives
read_ands-returns-clause-gives t c = row_ends c.loop-behind.invariant c.in_default.ensures.stands

pub read_args-returns-in_err-arg-clause-gives : goal.read_args-returns-in_err-arg-clause-gives
read_args-returns-in_err-arg-clause-gives t c =
    let p = err_from_is_err_and c.from_residual-in_err-arg.result c.from_residual-in_err-arg.ensures.1 in
    let s = c.in-Some.ensures.stands in
    rw (p.1, p.2) (row_fails c.loop-behind.invariant s.0 (omega (arith, c.in-Some.ensures.shorter)) c.in_err-arg.field-0.0
    (then_fails (λ m. (inner c.args.left).expr m.1) c.in_err-arg.field-0.0 s.1 c.in_err-arg.ensures.gives))

pub read_args-loop-behind-preserved : goal.read_args-loop-behind-preserved
read_args-loop-behind-preserved t c =
    let s = c.in-Some.ensures.stands in
    let e : map plain_expr c.push-in-Some.new.self ≡ map plain_expr c.loop-behind.args ++ plain_expr c.in_ok-arg.arg ∷ [] =
    rw c.in_ok-push-2.ensures.ok (map_push _ c.loop-behind.args c.in_ok-arg.arg) in
    rw e (row_on c.loop-behind.invariant s.0 (plain_expr c.in_ok-arg.arg) c.in_ok-arg.more.now
    (then_ok (λ m. (inner c.args.left).expr m.1) s.1 c.in_ok-arg.ensures.gives) (omega (arith, c.in-Some.ensures.shorter, c.in_ok-arg.ensures.shorter)))

pub read_args-returns-clause-gives : goal.read_args-returns-clause-gives
read_args-returns-clause-gives t c = row_ends c.loop-behind.invariant c.in_default.ensures.stands

pub read_members-returns-in_err-member-clause-gives : goal.read_members-returns-in_err-member-clause-gives
read_members-returns-in_err-member-clause-gives t c =
    let p = err_from_is_err_and c.from_residual-in_err-member.result c.from_residual-in_err-member.ensures.1 in
    let s = c.in-Some.ensures.stands in
    rw (p.1, p.2) (row_fails c.loop-behind.invariant s.0 (omega (arith, c.in-Some.ensures.shorter)) c.in_err-member.field-0.0
    (then_fails (λ m. room_at (inner c.args.left).expr c.loop-behind.room m.1) c.in_err-member.field-0.0 s.1 c.in_err-member.ensures.gives))

pub read_members-loop-behind-preserved : goal.read_members-loop-behind-preserved
read_members-loop-behind-preserved t c =
    let s = c.in-Some.ensures.stands in
    let e : map plain_expr c.push-in-Some.new.self ≡ map plain_expr c.loop-behind.members ++ plain_expr c.in_ok-member.member ∷ [] =
    rw c.in_ok-push-2.ensures.ok (map_push _ c.loop-behind.members c.in_ok-member.member) in
    rw (e, c.saturating_sub-room.ensures) (row_on c.loop-behind.invariant s.0 (plain_expr c.in_ok-member.member) c.in_ok-member.more.now
    (then_ok (λ m. room_at (inner c.args.left).expr c.loop-behind.room m.1) s.1 c.in_ok-member.ensures.gives)
    (omega (arith, c.in-Some.ensures.shorter, c.in_ok-member.ensures.shorter)))

pub read_members-returns-clause-gives : goal.read_members-returns-clause-gives
read_members-returns-clause-gives t c = row_ends c.loop-behind.invariant c.in_default.ensures.stands

pub read_sums-returns-in_err-right-clause-gives : goal.read_sums-returns-in_err-right-clause-gives
read_sums-returns-in_err-right-clause-gives t c =
    let p = err_from_is_err_and c.from_residual.result c.from_residual.ensures.1 in
    let s = c.in-Some.ensures.operator in
    rw (p.1, p.2) (subst (Fails c.in_err-right.field-0.0) (with_front_none _) (row_fails c.loop-at.invariant s.0 (omega (arith, c.in-Some.ensures.shorter)) c.in_err-right.field-0.0
    (then_fails (λ which. product_at c.args.left (inner c.args.left) which.1 >>= λ right. Ok (tail_of which.0.0 which.0.1 right.0, right.1)) c.in_err-right.field-0.0 s.1
    (fails_then (product_at c.args.left (inner c.args.left) c.in-Some.behind.now) (λ right. Ok (tail_of c.in-Some.at c.in-Some.op right.0, right.1)) c.in_err-right.field-0.0 c.in_err-right.ensures.gives))))

pub read_sums-loop-at-preserved : goal.read_sums-loop-at-preserved
read_sums-loop-at-preserved t c =
    let s = c.in-Some.ensures.operator in
    let e : map plain_tail c.push.new.self ≡ map plain_tail c.loop-at.tails ++ plain_tail c.of.result ∷ [] =
    rw c.in_ok-push.ensures.ok (map_push _ c.loop-at.tails c.of.result) in
    rw (e, c.of.ensures) (row_on c.loop-at.invariant s.0 (tail_of c.in-Some.at c.in-Some.op (plain_expr c.in_ok-right.right)) c.in_ok-right.more.now
    (then_ok (λ which. product_at c.args.left (inner c.args.left) which.1 >>= λ right. Ok (tail_of which.0.0 which.0.1 right.0, right.1)) s.1
    (then_ok (λ right. Ok (tail_of c.in-Some.at c.in-Some.op right.0, right.1)) c.in_ok-right.ensures.gives refl))
    (omega (arith, c.in-Some.ensures.shorter, c.in_ok-right.ensures.shorter)))

pub read_sums-returns-clause-gives : goal.read_sums-returns-clause-gives
read_sums-returns-clause-gives t c = sym (with_front_none _) ∙ row_ends c.loop-at.invariant c.in_default.ensures.operator

pub read_products-returns-in_err-right-clause-gives : goal.read_products-returns-in_err-right-clause-gives
read_products-returns-in_err-right-clause-gives t c =
    let p = err_from_is_err_and c.from_residual.result c.from_residual.ensures.1 in
    let s = c.in-Some.ensures.operator in
    rw (p.1, p.2) (subst (Fails c.in_err-right.field-0.0) (with_front_none _) (row_fails c.loop-at.invariant s.0 (omega (arith, c.in-Some.ensures.shorter)) c.in_err-right.field-0.0
    (then_fails (λ which. unary_at c.args.left (inner c.args.left) which.1 >>= λ right. Ok (tail_of which.0.0 which.0.1 right.0, right.1)) c.in_err-right.field-0.0 s.1
    (fails_then (unary_at c.args.left (inner c.args.left) c.in-Some.behind.now) (λ right. Ok (tail_of c.in-Some.at c.in-Some.op right.0, right.1)) c.in_err-right.field-0.0 c.in_err-right.ensures.gives))))

pub read_products-loop-at-preserved : goal.read_products-loop-at-preserved
read_products-loop-at-preserved t c =
    let s = c.in-Some.ensures.operator in
    let e : map plain_tail c.push.new.self ≡ map plain_tail c.loop-at.tails ++ plain_tail c.of.result ∷ [] =
    rw c.in_ok-push.ensures.ok (map_push _ c.loop-at.tails c.of.result) in
    rw (e, c.of.ensures) (row_on c.loop-at.invariant s.0 (tail_of c.in-Some.at c.in-Some.op (plain_expr c.in_ok-right.right)) c.in_ok-right.more.now
    (then_ok (λ which. unary_at c.args.left (inner c.args.left) which.1 >>= λ right. Ok (tail_of which.0.0 which.0.1 right.0, right.1)) s.1
    (then_ok (λ right. Ok (tail_of c.in-Some.at c.in-Some.op right.0, right.1)) c.in_ok-right.ensures.gives refl))
    (omega (arith, c.in-Some.ensures.shorter, c.in_ok-right.ensures.shorter)))

pub read_products-returns-clause-gives : goal.read_products-returns-clause-gives
read_products-returns-clause-gives t c = sym (with_front_none _) ∙ row_ends c.loop-at.invariant c.in_default.ensures.operator

pub read_or-returns-then-not-starts-clause-gives : goal.read_or-returns-then-not-starts-clause-gives
unfolding or_at
read_or-returns-then-not-starts-clause-gives t c =
    rw (
      c.in_ok-first.ensures.gives,
      no_more (λ given. joined_at is_or (and_at c.args.left (inner c.args.left))) (λ given. is_or) alone (length c.in_ok-first.behind.now) tt c.in_ok-first.behind.now
          (sym c.starts.ensures ∙ c.if-not-starts.true),
    ) refl

pub read_or-returns-clause-gives : goal.read_or-returns-clause-gives
unfolding or_at
read_or-returns-clause-gives t c =
    let place = place_at c.args.tokens.now in
    let first = plain_expr c.in_ok-first.first in
    let parts = map plain_expr c.in_ok-parts.parts in
    let all = tree_of_all (λ given. joined_at is_or (and_at c.args.left (inner c.args.left))) (λ given. is_or) alone tt c.in_ok-first.behind.now first parts c.in_ok-parts.rest.now
    (or_tree place first) (λ l. Or_of place (exprs_of l)) (λ a others. refl) (sym c.starts.ensures ∙ c.if-not-starts.false) c.in_ok-parts.ensures.gives in
    rw (c.in_ok-first.ensures.gives, all.1) (ap (λ tree. Ok (tree, c.in_ok-parts.rest.now))
    (all.2 ∙ ap (λ at. Or_of at (exprs_of parts)) (sym c.place-at.ensures) ∙ sym c.or.ensures))

pub read_and-returns-then-not-starts-clause-gives : goal.read_and-returns-then-not-starts-clause-gives
unfolding and_at
read_and-returns-then-not-starts-clause-gives t c =
    rw (
      c.in_ok-first.ensures.gives,
      no_more (λ given. joined_at is_and (nots_at c.args.left (inner c.args.left))) (λ given. is_and) alone (length c.in_ok-first.behind.now) tt c.in_ok-first.behind.now
          (sym c.starts.ensures ∙ c.if-not-starts.true),
    ) refl

pub read_and-returns-clause-gives : goal.read_and-returns-clause-gives
unfolding and_at
read_and-returns-clause-gives t c =
    let place = place_at c.args.tokens.now in
    let first = plain_expr c.in_ok-first.first in
    let parts = map plain_expr c.in_ok-parts.parts in
    let all = tree_of_all (λ given. joined_at is_and (nots_at c.args.left (inner c.args.left))) (λ given. is_and) alone tt c.in_ok-first.behind.now first parts c.in_ok-parts.rest.now
    (and_tree place first) (λ l. And_of place (exprs_of l)) (λ a others. refl) (sym c.starts.ensures ∙ c.if-not-starts.false) c.in_ok-parts.ensures.gives in
    rw (c.in_ok-first.ensures.gives, all.1) (ap (λ tree. Ok (tree, c.in_ok-parts.rest.now))
    (all.2 ∙ ap (λ at. And_of at (exprs_of parts)) (sym c.place-at.ensures) ∙ sym c.and.ensures))

pub read_posts-returns-in_err-part-clause-gives : goal.read_posts-returns-in_err-part-clause-gives
read_posts-returns-in_err-part-clause-gives t c =
    let p = err_from_is_err_and c.from_residual.result c.from_residual.ensures.1 in
    let goes = sym c.begins_post.ensures ∙ c.loop-alloc-test.true in
    rw (p.1, p.2) (subst (Fails c.in_err-part.field-0.0) (with_front_none _)
    (row_fails c.loop-alloc.invariant goes (some_left begins_post c.loop-alloc.rest.now goes) c.in_err-part.field-0.0 c.in_err-part.ensures.gives))

pub read_posts-loop-alloc-preserved : goal.read_posts-loop-alloc-preserved
read_posts-loop-alloc-preserved t c =
    let e : map plain_post c.push.new.self ≡ map plain_post c.loop-alloc.posts ++ plain_post c.in_ok-part.part ∷ [] =
    rw c.in_ok-push.ensures.ok (map_push _ c.loop-alloc.posts c.in_ok-part.part) in
    rw e (row_on c.loop-alloc.invariant (sym c.begins_post.ensures ∙ c.loop-alloc-test.true) (plain_post c.in_ok-part.part) c.in_ok-part.more.now
    c.in_ok-part.ensures.gives (omega (arith, c.in_ok-part.ensures.shorter)))

pub read_posts-returns-clause-gives : goal.read_posts-returns-clause-gives
read_posts-returns-clause-gives t c =
    sym (with_front_none _) ∙ row_ends c.loop-alloc.invariant (sym c.begins_post.ensures ∙ c.loop-alloc-test.false)

pub read_round-returns-in_err-rest-clause-gives : goal.read_round-returns-in_err-rest-clause-gives
unfolding round_at
read_round-returns-in_err-rest-clause-gives t c =
    let p = err_from_is_err_and c.from_residual-in_err-rest.result c.from_residual-in_err-rest.ensures.1 in
    rw (
      p.1,
      p.2,
      c.in_ok-first.ensures.gives,
      no_more (more_expr_at (inner c.args.left).expr) (λ room. is_comma) less_room (length c.in_ok-first.after_first.now) 7 c.in_ok-first.after_first.now
          (sym c.starts.ensures ∙ c.if-not-starts.true),
    )
    (fails_then (one_at is_close c.in_ok-first.after_first.now) (λ behind. Ok (round_tree c.args.at (plain_expr c.in_ok-first.first) [], behind.1)) c.in_err-rest.field-0.0
    c.in_err-rest.ensures.gives)

pub read_round-returns-then-not-starts-clause-gives : goal.read_round-returns-then-not-starts-clause-gives
unfolding round_at
read_round-returns-then-not-starts-clause-gives t c =
    rw (
      c.in_ok-first.ensures.gives,
      no_more (more_expr_at (inner c.args.left).expr) (λ room. is_comma) less_room (length c.in_ok-first.after_first.now) 7 c.in_ok-first.after_first.now
          (sym c.starts.ensures ∙ c.if-not-starts.true),
      c.in_ok-rest.ensures.gives,
    ) (ap (λ tree. Ok (tree, c.in_ok-rest.rest.now)) (sym c.in_ok-bracket.ensures))

pub read_round-returns-clause-gives : goal.read_round-returns-clause-gives
unfolding round_at
read_round-returns-clause-gives t c =
    let first = plain_expr c.in_ok-first.first in
    let parts = map plain_expr c.in_ok-parts.parts in
    let all = tree_of_all (more_expr_at (inner c.args.left).expr) (λ room. is_comma) less_room 7 c.in_ok-first.after_first.now first parts c.in_ok-parts.after.now
    (round_tree c.args.at first) (λ l. Tuple_of c.args.at (exprs_of l)) (λ a others. refl) (sym c.starts.ensures ∙ c.if-not-starts.false) c.in_ok-parts.ensures.gives in
    rw (c.in_ok-first.ensures.gives, all.1, c.in_ok-rest-2.ensures.gives) (ap (λ tree. Ok (tree, c.in_ok-rest-2.rest.now)) (all.2 ∙ sym c.tuple.ensures))
