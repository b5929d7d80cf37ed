use Rattle.std.proofs.Common.{ap, ◌∙◌}
use Rattle.pt_types.specs.Kept.{type_of}
use Rattle.pt_check.specs.Bases.{base_type}
use Rattle.pt_check.proofs.Views.{base-is, holding-is}
use Rattle.pt_check.proofs.checker.Checker.hold.Goals as goal

pub returns : goal.returns
returns c =
    let i = c.self.inside in
    holding-is i c.args.self.now c.self.view_is c.number.result (base_type c.args.base) c.push.new.self c.in_ok-push.ensures.ok
    (ap (type_of i.types) c.number.ensures ∙ base-is i.types c.args.base c.self.invariant.from_base)
