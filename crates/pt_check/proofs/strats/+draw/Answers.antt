use Rattle.std.proofs.Common.{◌≡◌, ◌<◌, Ok, Err, [], ◌∷◌, ◌++◌, length, drop, refl, sym, ◌∙◌, ap, subst, rules, arith}
use Rattle.pt_ast.specs.Types.{Tuple_type, no_type}
use Rattle.pt_ast.specs.Trees.{strat_place_of}
use Rattle.pt_ast.specs.Plain.{plain_strat, plain_strats}
use Rattle.pt_ast.proofs.StratShapes.{plain-place}
use Rattle.pt_typing.specs.Steps.{after, giving, made_of}
use Rattle.pt_typing.specs.StratChecks.{drawn, all_drawn}
use Rattle.pt_check.specs.Stacks.{first_of}
use Rattle.pt_check.specs.Says.{Blames, fits}
use Rattle.pt_check.specs.Known.{Known, top, with_held, holding, released, gathered}
use Rattle.pt_check.proofs.Tuples.{gather-held, gather-below}
use Rattle.pt_check.proofs.Turns.{hands-on, blames-same, blames-after, needs-fault, needs-right, made-none}
use Rattle.pt_check.proofs.StratTurns.{strat-turn, strats-done, choice-begins}
use Rattle.pt_check.proofs.strats.+draw.Goals as goal

pub draw_needed-returns-clause-says : goal.draw_needed-returns-clause-says
draw_needed-returns-clause-says t c =
    let s = c.args.s.now in
    let old = c.args.checker.now in
    let found = top c.draw.new.checker in
    let same : top (released c.draw.new.checker) ≡ top old = ap (λ (k : Known). top (released k)) c.in_ok-draw.ensures.holds in
    let good = subst (λ type. fits s.at found type ≡ Ok tt) same c.in_ok-fit.ensures.says in
    needs-right (top old) (strat_place_of (plain_strat s)) s.at (drawn old.scope (first_of old.selves) (plain_strat s)) found (plain-place s) c.in_ok-draw.ensures.says good

pub draw_needed-returns-in_err-fit-clause-says : goal.draw_needed-returns-in_err-fit-clause-says
draw_needed-returns-in_err-fit-clause-says t c =
    let s = c.args.s.now in
    let old = c.args.checker.now in
    let found = top c.draw.new.checker in
    let why = c.in_err-fit.field-0.0 in
    let same : top (released c.draw.new.checker) ≡ top old = ap (λ (k : Known). top (released k)) c.in_ok-draw.ensures.holds in
    let blamed = subst (λ type. Blames (fits s.at found type) why) same c.in_err-fit.ensures.says in
    let gave : c.from_residual-in_err-fit.result ≡ Err why = search rules in
    hands-on _ _ _ why gave
    (needs-fault (top old) (strat_place_of (plain_strat s)) s.at (drawn old.scope (first_of old.selves) (plain_strat s)) found why (plain-place s) c.in_ok-draw.ensures.says blamed)

pub draw_each-loop-part-init : goal.draw_each-loop-part-init
draw_each-loop-part-init t c = ([], refl, refl, made-none _)

pub draw_each-loop-part-preserved : goal.draw_each-loop-part-preserved
draw_each-loop-part-preserved t c =
    let so = c.loop-part.invariant in
    let old = c.args.checker.now in
    let part = c.part-item.result in
    let type = top c.draw.new.checker in
    let typed = ap (λ (k : Known). drawn k.scope (first_of k.selves) (plain_strat part)) (sym so.1) ∙ c.in_ok-draw.ensures.says in (
      type ∷ so.0,
      c.in_ok-draw.ensures.holds ∙ ap (λ k. holding k type) so.1,
      omega (arith, so.2),
      so.3 ∙ strat-turn old.scope (first_of old.selves) so.0 c.args.parts.now c.loop-part.part-index part type (omega arith) c.part-item.is typed,
    )

pub draw_each-returns-clause-says : goal.draw_each-returns-clause-says
draw_each-returns-clause-says t c =
    let so = c.loop-part.invariant in
    let old = c.args.checker.now in
    let parts = c.args.parts.now in
    let count : length so.0 ≡ length parts = omega (arith, so.2) in
    let new : c.make_tuple.new.checker ≡ gathered (length so.0) (with_held old (so.0 ++ old.held)) =
    c.in_ok-make_tuple.ensures ∙ ap (gathered (length parts)) so.1 ∙ ap (λ n. gathered n (with_held old (so.0 ++ old.held))) (sym count) in
    ap (made_of Tuple_type) so.3 ∙ strats-done old.scope (first_of old.selves) so.0 parts c.loop-part.part-index (omega arith)
    ∙ ap (λ types. Ok (Tuple_type types)) (sym (gather-held so.0 old.held no_type)) ∙ ap (λ k. Ok (top k)) (sym new)

pub draw_each-returns-clause-holds : goal.draw_each-returns-clause-holds
draw_each-returns-clause-holds t c =
    let so = c.loop-part.invariant in
    let old = c.args.checker.now in
    let parts = c.args.parts.now in
    let count : length so.0 ≡ length parts = omega (arith, so.2) in
    let new : c.make_tuple.new.checker ≡ gathered (length so.0) (with_held old (so.0 ++ old.held)) =
    c.in_ok-make_tuple.ensures ∙ ap (gathered (length parts)) so.1 ∙ ap (λ n. gathered n (with_held old (so.0 ++ old.held))) (sym count) in
    new ∙ ap (λ rest. with_held old (top (gathered (length so.0) (with_held old (so.0 ++ old.held))) ∷ rest)) (gather-below so.0 old.held)
    ∙ ap (λ k. holding old (top k)) (sym new)

pub draw_one-returns-in_err-draw-clause-says : goal.draw_one-returns-in_err-draw-clause-says
draw_one-returns-in_err-draw-clause-says t c =
    let old = c.args.checker.now in
    let first = c.index-parts-0.result in
    let why = c.in_err-draw.field-0.0 in
    let some : 0 < length c.args.parts.now = search rules in
    let gave : c.from_residual.result ≡ Err why = search rules in
    hands-on _ _ _ why gave (blames-same _ _ why (choice-begins old.scope (first_of old.selves) c.args.at c.args.num c.args.parts.now first some c.index-parts-0.is)
    (blames-after (drawn old.scope (first_of old.selves) (plain_strat first)) _ why c.in_err-draw.ensures.says))

pub draw_one-loop-place-init : goal.draw_one-loop-place-init
draw_one-loop-place-init t c =
    let old = c.args.checker.now in
    let parts = c.args.parts.now in
    let first = c.index-parts-0.result in
    let some : 0 < length parts = search rules in (
      c.in_ok-draw.ensures.holds,
      choice-begins old.scope (first_of old.selves) c.args.at c.args.num parts first some c.index-parts-0.is
          ∙ ap (λ r. after r (λ type. giving (all_drawn old.scope (first_of old.selves) type (plain_strats (drop 1 parts))) type)) c.in_ok-draw.ensures.says,
    )
