use Rattle.std.proofs.Common.{◌≡◌, ◌-◌, suc, map, ◌++◌, ◌∷◌, [], sym, subst, arith}
use Rattle.std.proofs.lemmas.Result.{err_from_is_err_and}
use Rattle.std.proofs.lemmas.List.{map_push}
use Rattle.pt_ast.specs.Plain.{plain_type}
use Rattle.pt_grammar.specs.Reading.{room_at}
use Rattle.pt_grammar.specs.TypeReading.{type_below}
use Rattle.pt_taking.specs.Gives.{Gives}
use Rattle.pt_taking.proofs.Rows.{row_on, row_ends, row_fails, then_ok, then_fails}
use Rattle.pt_taking.proofs.types.+types.Goals as goal

pub read_inner-returns-clause-gives : goal.read_inner-returns-clause-gives
unfolding type_below
read_inner-returns-clause-gives t c =
    let k : c.args.left ≡ suc (c.args.left - 1) = omega arith in
    subst (λ n. Gives (λ x. (plain_type x.0, x.1.now)) c.read_type.result (type_below n c.args.tokens.now)) (sym k) c.read_type.ensures.gives

pub read_parts-returns-in_err-part-clause-gives : goal.read_parts-returns-in_err-part-clause-gives
read_parts-returns-in_err-part-clause-gives t c =
    let p = err_from_is_err_and c.from_residual-in_err-part.result c.from_residual-in_err-part.ensures.1 in
    let s = c.in-Some.ensures.stands in
    rw (p.1, p.2) (row_fails c.loop-behind.invariant s.0 (omega (arith, c.in-Some.ensures.shorter)) c.in_err-part.field-0.0
    (then_fails (λ m. room_at (type_below c.args.left) c.loop-behind.room m.1) c.in_err-part.field-0.0 s.1 c.in_err-part.ensures.gives))

pub read_parts-loop-behind-preserved : goal.read_parts-loop-behind-preserved
read_parts-loop-behind-preserved t c =
    let s = c.in-Some.ensures.stands in
    let e : map plain_type c.push-in-Some.new.self ≡ map plain_type c.loop-behind.parts ++ plain_type c.in_ok-part.part ∷ [] =
    rw c.in_ok-push-3.ensures.ok (map_push _ c.loop-behind.parts c.in_ok-part.part) in
    rw (e, c.saturating_sub-room.ensures) (row_on c.loop-behind.invariant s.0 (plain_type c.in_ok-part.part) c.in_ok-part.more.now
    (then_ok (λ m. room_at (type_below c.args.left) c.loop-behind.room m.1) s.1 c.in_ok-part.ensures.gives)
    (omega (arith, c.in-Some.ensures.shorter, c.in_ok-part.ensures.shorter)))

pub read_parts-returns-clause-gives : goal.read_parts-returns-clause-gives
read_parts-returns-clause-gives t c = row_ends c.loop-behind.invariant c.in_default.ensures.stands
