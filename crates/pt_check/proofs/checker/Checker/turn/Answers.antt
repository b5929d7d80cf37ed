use Rattle.std.proofs.Common.{ap, sym, ◌∙◌}
use Rattle.pt_types.specs.Kept.{type_of}
use Rattle.pt_typing.specs.Served.{same_type}
use Rattle.pt_check.specs.Bases.{base_type}
use Rattle.pt_check.specs.Known.{top}
use Rattle.pt_check.proofs.Views.{base-is, popped-is, replaced-is, same-says, other-says}
use Rattle.pt_check.proofs.checker.Checker.turn.Goals as goal

pub returns-in_ok-push-clause-says : goal.returns-in_ok-push-clause-says
returns-in_ok-push-clause-says c =
    let i = c.self.inside in
    let found = popped-is i c.args.self.now c.self.view_is c.pop-found.result c.self.invariant.from_base c.pop-found.ensures.newest in
    let needed = ap (type_of i.types) c.number.ensures ∙ base-is i.types c.args.from c.self.invariant.from_base in
    same-says c.args.at (top c.args.self.now) (base_type c.args.from) (base_type c.args.to)
    (ap (λ type. same_type type (base_type c.args.from)) found ∙ ap (same_type (type_of i.types c.pop-found.result)) (sym needed) ∙ sym c.same.ensures ∙ c.if-same.true)

pub returns-in_ok-push-clause-holds : goal.returns-in_ok-push-clause-holds
returns-in_ok-push-clause-holds c =
    let i = c.self.inside in
    replaced-is i c.args.self.now c.self.view_is c.pop-found.new.self c.number-then-same.result (base_type c.args.to) c.push.new.self c.pop-found.ensures.rest c.in_ok-push.ensures.ok
    (ap (type_of i.types) c.number-then-same.ensures ∙ base-is i.types c.args.to c.self.invariant.from_base)

pub returns-else-same-clause-says : goal.returns-else-same-clause-says
returns-else-same-clause-says c =
    let i = c.self.inside in
    let found = popped-is i c.args.self.now c.self.view_is c.pop-found.result c.self.invariant.from_base c.pop-found.ensures.newest in
    let needed = ap (type_of i.types) c.number.ensures ∙ base-is i.types c.args.from c.self.invariant.from_base in
    other-says c.args.at (top c.args.self.now) (base_type c.args.from) (base_type c.args.to)
    (ap (λ type. same_type type (base_type c.args.from)) found ∙ ap (same_type (type_of i.types c.pop-found.result)) (sym needed) ∙ sym c.same.ensures ∙ c.if-same.false)
