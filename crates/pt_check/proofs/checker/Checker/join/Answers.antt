use Rattle.std.proofs.Common.{ap, sym, ◌∙◌}
use Rattle.pt_ast.specs.Types.{Tuple_type, more_type}
use Rattle.pt_types.specs.Kept.{type_of, types_under}
use Rattle.pt_check.specs.Known.{top, released}
use Rattle.pt_check.proofs.Views.{popped-is, second-is, released-is, released-of, twice-within, grown-on}
use Rattle.pt_check.proofs.checker.Checker.join.Goals as goal

pub returns : goal.returns
returns c =
    let i = c.self.inside in
    let old = c.args.self.now in
    let known = c.self.invariant in
    let parts = popped-is i old c.self.view_is c.pop-behind.result known.from_base c.pop-behind.ensures.newest in
    let first = second-is i old c.self.view_is c.pop-behind.new.self c.pop-first.result known.from_base c.pop-behind.ensures.rest c.pop-first.ensures.newest in
    let below = released-of i c.pop-behind.new.self c.pop-first.new.self (released old) (released-is i old c.self.view_is c.pop-behind.new.self c.pop-behind.ensures.rest) c.pop-first.ensures.rest in
    grown-on i c.tuple_of.new.self c.pop-first.new.self c.in_ok-tuple.tuple (Tuple_type (more_type (top (released old)) (types_under (top old)))) c.push.new.self (released (released old))
    c.in_ok-tuple.ensures.grows known (twice-within i.types i.held c.pop-behind.new.self c.pop-first.new.self known.of_held c.pop-behind.ensures.rest c.pop-first.ensures.rest) below
    c.in_ok-push.ensures.ok
    (c.in_ok-tuple.ensures.keeps.1 ∙ ap (λ type. Tuple_type (more_type type (types_under (type_of i.types c.pop-behind.result)))) (sym first)
    ∙ ap (λ type. Tuple_type (more_type (top (released old)) (types_under type))) (sym parts))
