use Rattle.std.proofs.Common.{◌≡◌, ◌∷◌, ◌++◌, length, sym, ◌∙◌, ap, subst, arith}
use Rattle.std.specs.Prelude.{OnOk}
use Rattle.pt_ast.specs.Types.{Tuple_type, no_type}
use Rattle.pt_ast.specs.Plain.{plain_type, plain_types}
use Rattle.pt_check.specs.Known.{with_held, holding, gathered, below}
use Rattle.pt_check.proofs.Tuples.{gather, gather-held, gather-below}
use Rattle.pt_check.proofs.Turns.{first-left, none-left}
use Rattle.pt_check.proofs.machines.+hold_type.Goals as goal

pub hold_types-loop-ty-preserved : goal.hold_types-loop-ty-preserved
hold_types-loop-ty-preserved t c =
    let so = c.loop-ty.invariant in
    let type = plain_type c.ty-item.result in (
      type ∷ so.0,
      c.in_ok-hold_type.ensures ∙ ap (λ k. holding k type) so.1,
      omega (arith, so.2),
      so.3 ∙ ap (λ types. gather so.0 (plain_types types)) (first-left c.args.types.now c.loop-ty.ty-index c.ty-item.result (omega arith) c.ty-item.is),
    )

pub hold_types-returns : goal.hold_types-returns
hold_types-returns t c =
    let so = c.loop-ty.invariant in
    let old = c.args.checker.now in
    let types = c.args.types.now in
    let count : length so.0 ≡ length types = omega (arith, so.2) in
    let all : gather so.0 no_type ≡ plain_types types = sym (so.3 ∙ ap (λ ts. gather so.0 (plain_types ts)) (none-left types c.loop-ty.ty-index (omega arith))) in
    let new : gathered (length types) c.loop-ty.checker ≡ holding old (Tuple_type (plain_types types)) =
    ap (gathered (length types)) so.1 ∙ ap (λ n. gathered n (with_held old (so.0 ++ old.held))) (sym count)
    ∙ ap (λ ts. with_held old (Tuple_type ts ∷ below (length so.0) (so.0 ++ old.held))) (gather-held so.0 old.held no_type ∙ all)
    ∙ ap (λ rest. with_held old (Tuple_type (plain_types types) ∷ rest)) (gather-below so.0 old.held) in
    subst (λ k. OnOk c.make_tuple.result (c.make_tuple.new.checker ≡ k)) new c.make_tuple.ensures
