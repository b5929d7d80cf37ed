use Rattle.std.proofs.Common.{sym, ap, ◌∙◌}
use Rattle.pt_typing.specs.Steps.{vacant}
use Rattle.pt_check.specs.Known.{Known}
use Rattle.pt_check.proofs.Lookups.{lost-type}
use Rattle.pt_check.proofs.Views.{taken-says}
use Rattle.pt_check.proofs.checker.Checker.free.Goals as goal

pub returns-in-Some : goal.returns-in-Some
returns-in-Some c =
    let i = c.self.inside in
    taken-says i.types i.scope c.args.self.now.scope c.args.given.now.at c.args.given.now.name c.find.result _ (ap (λ (k : Known). k.scope) c.self.view_is) c.find.ensures c.in-Some.is

pub returns-in-None : goal.returns-in-None
returns-in-None c =
    let i = c.self.inside in
    ap (vacant c.args.given.now.at) (lost-type i.types i.scope c.args.self.now.scope c.args.given.now.name (ap (λ (k : Known). k.scope) c.self.view_is) (sym c.find.ensures ∙ c.in-None.is))
