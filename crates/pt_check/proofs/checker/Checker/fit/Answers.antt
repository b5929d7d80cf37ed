use Rattle.std.proofs.Common.{ap, sym, ◌∙◌}
use Rattle.pt_types.specs.Kept.{type_of}
use Rattle.pt_typing.specs.Served.{same_type}
use Rattle.pt_check.specs.Known.{top, released}
use Rattle.pt_check.proofs.Views.{popped-is, second-is, same-says, other-says}
use Rattle.pt_check.proofs.checker.Checker.fit.Goals as goal

pub returns-then-not-same-clause-says : goal.returns-then-not-same-clause-says
returns-then-not-same-clause-says c =
    let i = c.self.inside in
    let old = c.args.self.now in
    let first = popped-is i old c.self.view_is c.pop-found.result c.self.invariant.from_base c.pop-found.ensures.newest in
    let next = second-is i old c.self.view_is c.pop-found.new.self c.newest.result c.self.invariant.from_base c.pop-found.ensures.rest c.newest.ensures in
    other-says c.args.at (top old) (top (released old)) (tt {0})
    (ap (λ type. same_type type (top (released old))) first ∙ ap (same_type (type_of i.types c.pop-found.result)) next ∙ sym c.same.ensures ∙ c.if-not-same.true)

pub returns-clause-says : goal.returns-clause-says
returns-clause-says c =
    let i = c.self.inside in
    let old = c.args.self.now in
    let first = popped-is i old c.self.view_is c.pop-found.result c.self.invariant.from_base c.pop-found.ensures.newest in
    let next = second-is i old c.self.view_is c.pop-found.new.self c.newest.result c.self.invariant.from_base c.pop-found.ensures.rest c.newest.ensures in
    same-says c.args.at (top old) (top (released old)) (tt {0})
    (ap (λ type. same_type type (top (released old))) first ∙ ap (same_type (type_of i.types c.pop-found.result)) next ∙ sym c.same.ensures ∙ c.if-not-same.false)
