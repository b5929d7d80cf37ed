use Rattle.std.proofs.Common.{ap, sym, ◌∙◌}
use Rattle.pt_ast.specs.Types.{List_type}
use Rattle.pt_check.specs.Known.{top}
use Rattle.pt_check.proofs.Views.{popped-is, grown-is}
use Rattle.pt_check.proofs.checker.Checker.make_list.Goals as goal

pub returns : goal.returns
returns c =
    let i = c.self.inside in
    grown-is i c.args.self.now c.self.view_is c.list_of.new.self c.pop-member.new.self c.in_ok-list.list (List_type (top c.args.self.now)) c.push.new.self
    c.in_ok-list.ensures.grows c.self.invariant c.pop-member.ensures.rest c.in_ok-push.ensures.ok
    (c.in_ok-list.ensures.keeps.1 ∙ ap List_type (sym (popped-is i c.args.self.now c.self.view_is c.pop-member.result c.self.invariant.from_base c.pop-member.ensures.newest)))
