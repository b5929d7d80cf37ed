use Rattle.std.proofs.Common.{ap, sym, ◌∙◌}
use Rattle.pt_ast.specs.Types.{Int_type}
use Rattle.pt_types.specs.Kept.{type_of}
use Rattle.pt_typing.specs.Served.{same_type}
use Rattle.pt_check.specs.declared.base.Base.TheVariants.{Int}
use Rattle.pt_check.specs.Known.{top}
use Rattle.pt_check.proofs.Views.{base-is, popped-is, same-says, other-says}
use Rattle.pt_check.proofs.checker.Checker.be_int.Goals as goal

pub returns-then-not-same : goal.returns-then-not-same
returns-then-not-same c =
    let i = c.self.inside in
    let found = popped-is i c.args.self.now c.self.view_is c.newest.result c.self.invariant.from_base c.newest.ensures in
    let needed = ap (type_of i.types) c.number.ensures ∙ base-is i.types Int c.self.invariant.from_base in
    other-says c.args.at (top c.args.self.now) Int_type (top c.args.self.now)
    (ap (λ type. same_type type Int_type) found ∙ ap (same_type (type_of i.types c.newest.result)) (sym needed) ∙ sym c.same.ensures ∙ c.if-not-same.true)

pub returns : goal.returns
returns c =
    let i = c.self.inside in
    let found = popped-is i c.args.self.now c.self.view_is c.newest.result c.self.invariant.from_base c.newest.ensures in
    let needed = ap (type_of i.types) c.number.ensures ∙ base-is i.types Int c.self.invariant.from_base in
    same-says c.args.at (top c.args.self.now) Int_type (top c.args.self.now)
    (ap (λ type. same_type type Int_type) found ∙ ap (same_type (type_of i.types c.newest.result)) (sym needed) ∙ sym c.same.ensures ∙ c.if-not-same.false)
