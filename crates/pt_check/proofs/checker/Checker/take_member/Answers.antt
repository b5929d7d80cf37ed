use Rattle.std.proofs.Common.{Ok, ap, sym, ◌∙◌}
use Rattle.pt_types.specs.Kept.{tree_of, trees_of}
use Rattle.pt_typing.specs.Steps.{right}
use Rattle.pt_typing.specs.Served.{list_member}
use Rattle.pt_check.proofs.Views.{shaped-is, member-within, top-pushed, tied-pushed}
use Rattle.pt_check.proofs.checker.Checker.take_member.Goals as goal

pub invariant_of-self-in-List : goal.invariant_of-self-in-List
invariant_of-self-in-List c =
    let i = c.self.inside in
    tied-pushed i c.pop-found.result c.pop-found.new.self c.push.new.self c.in-List.member c.self.invariant c.pop-found.ensures.rest c.in_ok-push-in-List.ensures.ok
    (member-within i.types c.shape.result c.in-List.member c.in-List.is c.shape.ensures.within)

pub returns-in_ok-push-in-List-clause-says : goal.returns-in_ok-push-in-List-clause-says
returns-in_ok-push-in-List-clause-says c =
    let i = c.self.inside in
    let found = shaped-is i c.args.self.now c.self.view_is c.pop-found.result c.shape.result c.self.invariant.from_base c.pop-found.ensures.newest c.shape.ensures.shape in
    ap (λ type. right c.args.at (list_member type)) (found ∙ ap (tree_of (trees_of i.types)) c.in-List.is)
    ∙ ap Ok (sym (top-pushed i.types c.push.new.self c.pop-found.new.self c.in-List.member c.in_ok-push-in-List.ensures.ok))
