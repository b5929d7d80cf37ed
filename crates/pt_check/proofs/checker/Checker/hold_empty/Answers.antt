use Rattle.pt_ast.specs.Types.{Tuple_type, no_type}
use Rattle.pt_check.proofs.Views.{empty-is, holding-is}
use Rattle.pt_check.proofs.checker.Checker.hold_empty.Goals as goal

pub returns : goal.returns
returns c =
    let i = c.self.inside in
    holding-is i c.args.self.now c.self.view_is 5 (Tuple_type no_type) c.push.new.self c.in_ok-push.ensures.ok (empty-is i.types c.self.invariant.from_base)
