use Rattle.std.proofs.Common.{◌≡◌, ◌+◌, ◌<◌, Ok, Err, [], ◌∷◌, ◌++◌, length, drop, refl, sym, ◌∙◌, ap, subst, rules, arith}
use Rattle.pt_ast.specs.Types.{TypeTree, List_type, Tuple_type, no_type}
use Rattle.pt_ast.specs.Trees.{place_of}
use Rattle.pt_ast.specs.Plain.{plain_expr, plain_exprs, plain_posts}
use Rattle.pt_ast.specs.Names.{with_name}
use Rattle.pt_ast.proofs.Shapes.{plain-post, plain-bind, plain-place}
use Rattle.pt_typing.specs.Steps.{after, next_to, giving, made_of, right}
use Rattle.pt_typing.specs.Served.{list_member, bound_type, left_side, given_alone, second_needed, given_both}
use Rattle.pt_typing.specs.ExprChecks.{needs, takes, free, checked, all_of, reached}
use Rattle.pt_check.specs.Says.{Blames, Says, fits}
use Rattle.pt_check.specs.Known.{Known, top, with_held, holding, released, replaced, gathered, given_known}
use Rattle.pt_check.proofs.Tuples.{gather-held, gather-below}
use Rattle.pt_check.proofs.Turns.{hands-on, blames-same, blames-after, blames-giving, takes-fault, takes-right, needs-fault, wrong-alone, wrong-both, alone-due, both-due, given-top, made-none, each-turn, each-done, list-begins, all-turn, all-done}
use Rattle.pt_check.proofs.exprs.+check.Goals as goal

pub check-returns-in_err-take_member-in-Bind-clause-says : goal.check-returns-in_err-take_member-in-Bind-clause-says
check-returns-in_err-take_member-in-Bind-clause-says t c =
    let scope = c.args.checker.now.scope in
    let e = c.args.e.now in
    let given = c.in-Bind.given in
    let list = c.in-Bind.list.value in
    let body = c.in-Bind.body.value in
    let found = top c.check-in-Bind.new.checker in
    let why = c.in_err-take_member-in-Bind.field-0.0 in
    let vacant : free scope given ≡ Ok tt = search rules in
    let list_is : checked scope (plain_expr list) ≡ Ok found = search rules in
    let blamed : Blames (right list.at (list_member found)) why = search rules in
    let gave : c.from_residual-in_err-take_member-in-Bind.result ≡ Err why = search rules in
    let next = λ (member : TypeTree). takes (bound_type c.in-Bind.binder) (place_of (plain_expr body)) (checked (with_name scope given member) (plain_expr body)) in
    let taken = takes list_member (place_of (plain_expr list)) (checked scope (plain_expr list)) in
    let due : checked scope (plain_expr e) ≡ after taken next =
    ap (checked scope) (plain-bind e c.in-Bind.binder given c.in-Bind.list c.in-Bind.body c.in-Bind.is) ∙ ap (λ f. next_to f (after taken next)) vacant in
    hands-on _ _ _ why gave (blames-same _ (after taken next) why due
    (blames-after taken next why (takes-fault list_member (place_of (plain_expr list)) list.at (checked scope (plain_expr list)) found why (plain-place list) list_is blamed)))

pub check-returns-in_ok-check-in-Post-clause-says : goal.check-returns-in_ok-check-in-Post-clause-says
check-returns-in_ok-check-in-Post-clause-says t c =
    let scope = c.args.checker.now.scope in
    let e = c.args.e.now in
    let base = c.in-Post.base.value in
    let posts = plain_posts c.in-Post.posts in
    let from = top c.check-in-Post.new.checker in
    let base_is : checked scope (plain_expr base) ≡ Ok from = search rules in
    let scope_is : c.check-in-Post.new.checker.scope ≡ scope = ap (λ (k : Known). k.scope) c.in_ok-check-in-Post.ensures.holds in
    let due : checked scope (plain_expr e) ≡ reached scope base.at from posts =
    ap (checked scope) (plain-post e c.in-Post.base c.in-Post.posts c.in-Post.is)
    ∙ ap (λ r. after r (λ f. reached scope (place_of (plain_expr base)) f posts)) base_is
    ∙ ap (λ at. reached scope at from posts) (plain-place base) in
    let there : Says (reached scope base.at from posts) (top c.check_posts.new.checker) c.check_posts.result =
    rw (c.as_slice-in-Post.ensures, c.deref-in-Post-2.ensures, scope_is) at c.check_posts.ensures.says in
    subst (λ d. Says d (top c.check_posts.new.checker) c.check_posts.result) (sym due) there

pub check_body-returns-in_err-make_bound-clause-says : goal.check_body-returns-in_err-make_bound-clause-says
check_body-returns-in_err-make_bound-clause-says t c =
    let body = c.args.body.now in
    let scope = with_name c.args.checker.now.scope c.args.given.now (top c.args.checker.now) in
    let found = top c.check.new.checker in
    let why = c.in_err-make_bound.field-0.0 in
    let body_is : checked scope (plain_expr body) ≡ Ok found =
    ap (λ (k : Known). checked k.scope (plain_expr body)) (sym c.in_ok-bind.ensures) ∙ c.in_ok-check.ensures.says in
    let same : top c.cut.new.self ≡ found = ap top c.cut.ensures in
    let blamed : Blames (right body.at (bound_type c.args.binder found)) why =
    subst (λ type. Blames (right body.at (bound_type c.args.binder type)) why) same c.in_err-make_bound.ensures.says in
    let gave : c.from_residual-in_err-make_bound.result ≡ Err why = search rules in
    hands-on _ _ _ why gave (takes-fault (bound_type c.args.binder) (place_of (plain_expr body)) body.at (checked scope (plain_expr body)) found why (plain-place body) body_is blamed)

pub check_call-returns-then-parts-ne1-clause-says : goal.check_call-returns-then-parts-ne1-clause-says
check_call-returns-then-parts-ne1-clause-says t c fault wrong =
    let due = wrong-alone c.args.checker.now.scope c.args.at c.args.func c.args.parts.now (sym c.takes_one.ensures ∙ c.if-takes_one.true) c.if-parts-ne1.true in cc

pub check_call-returns-in_err-check-clause-says : goal.check_call-returns-in_err-check-clause-says
check_call-returns-in_err-check-clause-says t c =
    let scope = c.args.checker.now.scope in
    let only = c.index-parts-0.result in
    let func = c.args.func in
    let why = c.in_err-check.field-0.0 in
    let due = alone-due scope c.args.at func c.args.parts.now only (sym c.takes_one.ensures ∙ c.if-takes_one.true) c.if-parts-ne1.false c.index-parts-0.is in
    let gave : c.from_residual.result ≡ Err why = search rules in
    hands-on _ _ _ why gave (blames-same _ _ why due
    (blames-after (checked scope (plain_expr only)) (λ type. right (place_of (plain_expr only)) (given_alone func type)) why c.in_err-check.ensures.says))

pub check_call-returns-in_err-give_alone-clause-says : goal.check_call-returns-in_err-give_alone-clause-says
check_call-returns-in_err-give_alone-clause-says t c =
    let scope = c.args.checker.now.scope in
    let only = c.index-parts-0.result in
    let func = c.args.func in
    let why = c.in_err-give_alone.field-0.0 in
    let due = alone-due scope c.args.at func c.args.parts.now only (sym c.takes_one.ensures ∙ c.if-takes_one.true) c.if-parts-ne1.false c.index-parts-0.is in
    let gave : c.from_residual-in_err-give_alone.result ≡ Err why = search rules in
    hands-on _ _ _ why gave (blames-same _ _ why due
    (takes-fault (given_alone func) (place_of (plain_expr only)) only.at (checked scope (plain_expr only)) (top c.check.new.checker) why (plain-place only) c.in_ok-check.ensures.says
    c.in_err-give_alone.ensures.says))

pub check_call-returns-then-parts-ne2-clause-says : goal.check_call-returns-then-parts-ne2-clause-says
check_call-returns-then-parts-ne2-clause-says t c fault wrong =
    let due = wrong-both c.args.checker.now.scope c.args.at c.args.func c.args.parts.now (sym c.takes_one.ensures ∙ c.if-takes_one.false) c.if-parts-ne2.true in cc

pub check_call-returns-in_err-check-2-clause-says : goal.check_call-returns-in_err-check-2-clause-says
check_call-returns-in_err-check-2-clause-says t c =
    let scope = c.args.checker.now.scope in
    let first = c.index-parts-0-else-takes_one.result in
    let second = c.index-parts-1.result in
    let func = c.args.func in
    let why = c.in_err-check-2.field-0.0 in
    let due = both-due scope c.args.at func c.args.parts.now first second (sym c.takes_one.ensures ∙ c.if-takes_one.false) c.if-parts-ne2.false c.index-parts-0-else-takes_one.is c.index-parts-1.is in
    let gave : c.from_residual-in_err-check-2.result ≡ Err why = search rules in
    hands-on _ _ _ why gave (blames-same _ _ why due
    (blames-after (takes (second_needed func) (place_of (plain_expr first)) (checked scope (plain_expr first))) _ why
    (blames-after (checked scope (plain_expr first)) (λ type. right (place_of (plain_expr first)) (second_needed func type)) why c.in_err-check-2.ensures.says)))

pub check_call-returns-in_err-need_second-clause-says : goal.check_call-returns-in_err-need_second-clause-says
check_call-returns-in_err-need_second-clause-says t c =
    let scope = c.args.checker.now.scope in
    let first = c.index-parts-0-else-takes_one.result in
    let second = c.index-parts-1.result in
    let func = c.args.func in
    let why = c.in_err-need_second.field-0.0 in
    let due = both-due scope c.args.at func c.args.parts.now first second (sym c.takes_one.ensures ∙ c.if-takes_one.false) c.if-parts-ne2.false c.index-parts-0-else-takes_one.is c.index-parts-1.is in
    let gave : c.from_residual-in_err-need_second.result ≡ Err why = search rules in
    hands-on _ _ _ why gave (blames-same _ _ why due
    (blames-after (takes (second_needed func) (place_of (plain_expr first)) (checked scope (plain_expr first))) _ why
    (takes-fault (second_needed func) (place_of (plain_expr first)) first.at (checked scope (plain_expr first)) (top c.check-else-takes_one.new.checker) why (plain-place first)
    c.in_ok-check-2.ensures.says c.in_err-need_second.ensures.says)))

pub check_call-returns-in_err-check_needed-clause-says : goal.check_call-returns-in_err-check_needed-clause-says
check_call-returns-in_err-check_needed-clause-says t c =
    let scope = c.args.checker.now.scope in
    let first = c.index-parts-0-else-takes_one.result in
    let second = c.index-parts-1.result in
    let func = c.args.func in
    let why = c.in_err-check_needed.field-0.0 in
    let needed = top c.need_second.new.checker in
    let due = both-due scope c.args.at func c.args.parts.now first second (sym c.takes_one.ensures ∙ c.if-takes_one.false) c.if-parts-ne2.false c.index-parts-0-else-takes_one.is c.index-parts-1.is in
    let taken = takes-right (second_needed func) (place_of (plain_expr first)) first.at (checked scope (plain_expr first)) (top c.check-else-takes_one.new.checker) needed (plain-place first)
    c.in_ok-check-2.ensures.says c.in_ok-need_second.ensures.says in
    let scope_is : c.need_second.new.checker.scope ≡ scope =
    ap (λ (k : Known). k.scope) c.in_ok-need_second.ensures.holds ∙ ap (λ (k : Known). k.scope) c.in_ok-check-2.ensures.holds in
    let blamed = subst (λ s. Blames (needs needed (place_of (plain_expr second)) (checked s (plain_expr second))) why) scope_is c.in_err-check_needed.ensures.says in
    let gave : c.from_residual-in_err-check_needed.result ≡ Err why = search rules in
    hands-on _ _ _ why gave (blames-same _ _ why
    (due ∙ ap (λ r. after r (λ type. giving (needs type (place_of (plain_expr second)) (checked scope (plain_expr second))) (given_both func type))) taken)
    (blames-giving (needs needed (place_of (plain_expr second)) (checked scope (plain_expr second))) (given_both func needed) why blamed))

pub check_call-returns-in_ok-give_alone-clause-says : goal.check_call-returns-in_ok-give_alone-clause-says
check_call-returns-in_ok-give_alone-clause-says t c =
    let scope = c.args.checker.now.scope in
    let only = c.index-parts-0.result in
    let func = c.args.func in
    alone-due scope c.args.at func c.args.parts.now only (sym c.takes_one.ensures ∙ c.if-takes_one.true) c.if-parts-ne1.false c.index-parts-0.is
    ∙ takes-right (given_alone func) (place_of (plain_expr only)) only.at (checked scope (plain_expr only)) (top c.check.new.checker) (top c.give_alone.new.checker) (plain-place only)
    c.in_ok-check.ensures.says c.in_ok-give_alone.ensures.says

pub check_call-returns-in_ok-give_both-clause-says : goal.check_call-returns-in_ok-give_both-clause-says
check_call-returns-in_ok-give_both-clause-says t c =
    let scope = c.args.checker.now.scope in
    let first = c.index-parts-0-else-takes_one.result in
    let second = c.index-parts-1.result in
    let func = c.args.func in
    let needed = top c.need_second.new.checker in
    let due = both-due scope c.args.at func c.args.parts.now first second (sym c.takes_one.ensures ∙ c.if-takes_one.false) c.if-parts-ne2.false c.index-parts-0-else-takes_one.is c.index-parts-1.is in
    let taken = takes-right (second_needed func) (place_of (plain_expr first)) first.at (checked scope (plain_expr first)) (top c.check-else-takes_one.new.checker) needed (plain-place first)
    c.in_ok-check-2.ensures.says c.in_ok-need_second.ensures.says in
    let scope_is : c.need_second.new.checker.scope ≡ scope =
    ap (λ (k : Known). k.scope) c.in_ok-need_second.ensures.holds ∙ ap (λ (k : Known). k.scope) c.in_ok-check-2.ensures.holds in
    let needed_is = subst (λ s. needs needed (place_of (plain_expr second)) (checked s (plain_expr second)) ≡ Ok tt) scope_is c.in_ok-check_needed.ensures.says in
    let given : top c.give_both.new.checker ≡ given_both func needed =
    ap top (c.in_ok-give_both.ensures ∙ ap (given_known func) (c.in_ok-check_needed.ensures.same ∙ c.in_ok-need_second.ensures.holds))
    ∙ given-top func (released c.check-else-takes_one.new.checker) needed in
    due ∙ ap (λ r. after r (λ type. giving (needs type (place_of (plain_expr second)) (checked scope (plain_expr second))) (given_both func type))) taken
    ∙ ap (λ r. giving r (given_both func needed)) needed_is ∙ ap Ok (sym given)

pub check_each-loop-part-init : goal.check_each-loop-part-init
check_each-loop-part-init t c = ([], refl, refl, made-none _)

pub check_each-loop-part-preserved : goal.check_each-loop-part-preserved
check_each-loop-part-preserved t c =
    let so = c.loop-part.invariant in
    let old = c.args.checker.now in
    let part = c.part-item.result in
    let type = top c.check.new.checker in
    let typed = ap (λ (k : Known). checked k.scope (plain_expr part)) (sym so.1) ∙ c.in_ok-check.ensures.says in (
      type ∷ so.0,
      c.in_ok-check.ensures.holds ∙ ap (λ k. holding k type) so.1,
      omega (arith, so.2),
      so.3 ∙ each-turn old.scope so.0 c.args.parts.now c.loop-part.part-index part type (omega arith) c.part-item.is typed,
    )

pub check_each-returns-clause-says : goal.check_each-returns-clause-says
check_each-returns-clause-says t c =
    let so = c.loop-part.invariant in
    let old = c.args.checker.now in
    let parts = c.args.parts.now in
    let count : length so.0 ≡ length parts = omega (arith, so.2) in
    let new : c.make_tuple.new.checker ≡ gathered (length so.0) (with_held old (so.0 ++ old.held)) =
    c.in_ok-make_tuple.ensures ∙ ap (gathered (length parts)) so.1 ∙ ap (λ n. gathered n (with_held old (so.0 ++ old.held))) (sym count) in
    ap (made_of Tuple_type) so.3 ∙ each-done old.scope so.0 parts c.loop-part.part-index (omega arith)
    ∙ ap (λ types. Ok (Tuple_type types)) (sym (gather-held so.0 old.held no_type)) ∙ ap (λ k. Ok (top k)) (sym new)

pub check_each-returns-clause-holds : goal.check_each-returns-clause-holds
check_each-returns-clause-holds t c =
    let so = c.loop-part.invariant in
    let old = c.args.checker.now in
    let parts = c.args.parts.now in
    let count : length so.0 ≡ length parts = omega (arith, so.2) in
    let new : c.make_tuple.new.checker ≡ gathered (length so.0) (with_held old (so.0 ++ old.held)) =
    c.in_ok-make_tuple.ensures ∙ ap (gathered (length parts)) so.1 ∙ ap (λ n. gathered n (with_held old (so.0 ++ old.held))) (sym count) in
    new ∙ ap (λ rest. with_held old (top (gathered (length so.0) (with_held old (so.0 ++ old.held))) ∷ rest)) (gather-below so.0 old.held)
    ∙ ap (λ k. holding old (top k)) (sym new)

pub check_list-returns-in_err-check-clause-says : goal.check_list-returns-in_err-check-clause-says
check_list-returns-in_err-check-clause-says t c =
    let scope = c.args.checker.now.scope in
    let first = c.index-parts-0.result in
    let why = c.in_err-check.field-0.0 in
    let some : 0 < length c.args.parts.now = search rules in
    let gave : c.from_residual.result ≡ Err why = search rules in
    hands-on _ _ _ why gave (blames-same _ _ why (list-begins scope c.args.at c.args.parts.now first some c.index-parts-0.is)
    (blames-after (checked scope (plain_expr first)) _ why c.in_err-check.ensures.says))

pub check_list-loop-place-init : goal.check_list-loop-place-init
check_list-loop-place-init t c =
    let scope = c.args.checker.now.scope in
    let parts = c.args.parts.now in
    let first = c.index-parts-0.result in
    let some : 0 < length parts = search rules in (
      c.in_ok-check.ensures.holds,
      list-begins scope c.args.at parts first some c.index-parts-0.is
          ∙ ap (λ r. after r (λ member. giving (all_of scope member (plain_exprs (drop 1 parts))) (List_type member))) c.in_ok-check.ensures.says,
    )

pub check_list-returns-in_err-check_needed-clause-says : goal.check_list-returns-in_err-check_needed-clause-says
check_list-returns-in_err-check_needed-clause-says t c =
    let so = c.loop-place.invariant in
    let scope = c.args.checker.now.scope in
    let parts = c.args.parts.now in
    let part = c.index-parts-place.result in
    let type = top c.loop-place.checker in
    let why = c.in_err-check_needed.field-0.0 in
    let blamed = subst (λ s. Blames (needs type (place_of (plain_expr part)) (checked s (plain_expr part))) why) (ap (λ (k : Known). k.scope) so.0) c.in_err-check_needed.ensures.says in
    let turn = all-turn scope type parts c.loop-place.place part (omega arith) c.index-parts-place.is in
    let gave : c.from_residual-in_err-check_needed.result ≡ Err why = search rules in
    hands-on _ _ _ why gave (blames-same _ _ why (so.1 ∙ ap (λ r. giving r (List_type type)) turn)
    (blames-giving _ (List_type type) why (blames-after (needs type (place_of (plain_expr part)) (checked scope (plain_expr part))) _ why blamed)))

pub check_list-loop-place-preserved : goal.check_list-loop-place-preserved
check_list-loop-place-preserved t c =
    let so = c.loop-place.invariant in
    let scope = c.args.checker.now.scope in
    let parts = c.args.parts.now in
    let part = c.index-parts-place.result in
    let type = top c.loop-place.checker in
    let same = c.in_ok-check_needed.ensures.same in
    let typed = subst (λ s. needs type (place_of (plain_expr part)) (checked s (plain_expr part)) ≡ Ok tt) (ap (λ (k : Known). k.scope) so.0) c.in_ok-check_needed.ensures.says in
    let rest = λ (u : TypeTree). giving (all_of scope u (plain_exprs (drop (c.loop-place.place + 1) parts))) (List_type u) in
    let turn = all-turn scope type parts c.loop-place.place part (omega arith) c.index-parts-place.is
    ∙ ap (λ r. after r (λ _. all_of scope type (plain_exprs (drop (c.loop-place.place + 1) parts)))) typed in (
      same ∙ so.0 ∙ ap (λ k. holding c.args.checker.now (top k)) (sym same),
      so.1 ∙ ap (λ r. giving r (List_type type)) turn ∙ ap (λ k. rest (top k)) (sym same),
    )

pub check_list-returns-clause-says : goal.check_list-returns-clause-says
check_list-returns-clause-says t c =
    let so = c.loop-place.invariant in
    let type = top c.loop-place.checker in
    so.1 ∙ ap (λ r. giving r (List_type type)) (all-done c.args.checker.now.scope type c.args.parts.now c.loop-place.place (omega arith)) ∙ ap (λ k. Ok (top k)) (sym c.in_ok-make_list.ensures)

pub check_list-returns-clause-holds : goal.check_list-returns-clause-holds
check_list-returns-clause-holds t c =
    let so = c.loop-place.invariant in
    let old = c.args.checker.now in
    let type = top c.loop-place.checker in
    let new : c.make_list.new.self ≡ holding old (List_type type) = c.in_ok-make_list.ensures ∙ ap (λ k. replaced k (List_type type)) so.0 in
    new ∙ ap (λ k. holding old (top k)) (sym new)

pub check_needed-returns-in_err-fit-clause-says : goal.check_needed-returns-in_err-fit-clause-says
check_needed-returns-in_err-fit-clause-says t c =
    let e = c.args.e.now in
    let old = c.args.checker.now in
    let found = top c.check.new.checker in
    let why = c.in_err-fit.field-0.0 in
    let same : top (released c.check.new.checker) ≡ top old = ap (λ (k : Known). top (released k)) c.in_ok-check.ensures.holds in
    let blamed = subst (λ type. Blames (fits e.at found type) why) same c.in_err-fit.ensures.says in
    let gave : c.from_residual-in_err-fit.result ≡ Err why = search rules in
    hands-on _ _ _ why gave (needs-fault (top old) (place_of (plain_expr e)) e.at (checked old.scope (plain_expr e)) found why (plain-place e) c.in_ok-check.ensures.says blamed)

pub check_side-returns-in_err-be_side-clause-says : goal.check_side-returns-in_err-be_side-clause-says
check_side-returns-in_err-be_side-clause-says t c =
    let left = c.args.left.now in
    let why = c.in_err-be_side.field-0.0 in
    let gave : c.from_residual-in_err-be_side.result ≡ Err why = search rules in
    hands-on _ _ _ why gave
    (takes-fault (left_side c.args.op) (place_of (plain_expr left)) left.at (checked c.args.checker.now.scope (plain_expr left)) (top c.check.new.checker) why (plain-place left)
    c.in_ok-check.ensures.says c.in_err-be_side.ensures)
