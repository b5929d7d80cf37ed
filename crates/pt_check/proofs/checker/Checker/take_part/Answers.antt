use Rattle.std.proofs.Common.{◌≡◌, Ok, ap, sym, ◌∙◌, rules}
use Rattle.std.specs.Prelude.{option_map}
use Rattle.pt_types.specs.Kept.{type_of, types_under}
use Rattle.pt_typing.specs.Served.{part_at}
use Rattle.pt_typing.specs.Steps.{right}
use Rattle.pt_check.proofs.Views.{popped-is, top-pushed}
use Rattle.pt_check.proofs.Tuples.{part-says}
use Rattle.pt_check.proofs.checker.Checker.take_part.Goals as goal

pub returns-in_ok-push-in-Some-clause-says : goal.returns-in_ok-push-in-Some-clause-says
returns-in_ok-push-in-Some-clause-says c =
    let i = c.self.inside in
    let answered : option_map (type_of i.types) c.part_of.result ≡ part_at c.args.part (types_under (type_of i.types c.pop-found.result)) = search rules in
    let found = popped-is i c.args.self.now c.self.view_is c.pop-found.result c.self.invariant.from_base c.pop-found.ensures.newest in
    part-says i.types c.args.at c.args.place c.args.part _ c.pop-found.result c.shape.result c.part_of.result found c.shape.ensures.shape (sym c.is_tuple.ensures ∙ c.if-not-is_tuple.false)
    answered
    ∙ ap (λ answer. right c.args.place (option_map (type_of i.types) answer)) c.in-Some.is
    ∙ ap Ok (sym (top-pushed i.types c.push.new.self c.pop-found.new.self c.in-Some.member c.in_ok-push-in-Some.ensures.ok))

pub returns-in-None-clause-says : goal.returns-in-None-clause-says
returns-in-None-clause-says c fault wrong =
    let i = c.self.inside in
    let answered : option_map (type_of i.types) c.part_of.result ≡ part_at c.args.part (types_under (type_of i.types c.pop-found.result)) = search rules in
    let found = popped-is i c.args.self.now c.self.view_is c.pop-found.result c.self.invariant.from_base c.pop-found.ensures.newest in
    let none = part-says i.types c.args.at c.args.place c.args.part _ c.pop-found.result c.shape.result c.part_of.result found c.shape.ensures.shape
    (sym c.is_tuple.ensures ∙ c.if-not-is_tuple.false) answered
    ∙ ap (λ answer. right c.args.place (option_map (type_of i.types) answer)) c.in-None.is in
    cc
