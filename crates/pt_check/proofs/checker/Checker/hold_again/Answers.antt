use Rattle.std.proofs.Common.{sym}
use Rattle.pt_check.specs.Known.{top}
use Rattle.pt_check.proofs.Views.{popped-is, holding-is}
use Rattle.pt_check.proofs.checker.Checker.hold_again.Goals as goal

pub returns : goal.returns
returns c =
    let i = c.self.inside in
    holding-is i c.args.self.now c.self.view_is c.newest.result (top c.args.self.now) c.push.new.self c.in_ok-push.ensures.ok
    (sym (popped-is i c.args.self.now c.self.view_is c.newest.result c.self.invariant.from_base c.newest.ensures))
