use Rattle.std.proofs.Common.{sym, ap, ◌∙◌}
use Rattle.pt_check.specs.Known.{Known}
use Rattle.pt_check.proofs.Lookups.{lookup-within}
use Rattle.pt_check.proofs.Views.{tied-on, found-says, lost-says}
use Rattle.pt_check.proofs.checker.Checker.hold_state.Goals as goal

pub invariant_of-self-in-Some : goal.invariant_of-self-in-Some
invariant_of-self-in-Some c =
    let i = c.self.inside in
    tied-on i c.push.new.self c.in-Some.number c.self.invariant c.in_ok-push-in-Some.ensures.ok
    (lookup-within i.types i.states c.args.state.now.name c.in-Some.number c.self.invariant.of_states (sym c.find.ensures ∙ c.in-Some.is))

pub returns-in_ok-push-in-Some-clause-says : goal.returns-in_ok-push-in-Some-clause-says
returns-in_ok-push-in-Some-clause-says c =
    let i = c.self.inside in
    found-says i.types i.states c.args.self.now.context.states c.args.state.now.at c.args.state.now.name c.find.result c.in-Some.number c.push.new.self i.held (ap (λ (k : Known). k.context.states) c.self.view_is)
    c.find.ensures c.in-Some.is c.in_ok-push-in-Some.ensures.ok

pub returns-in-None-clause-says : goal.returns-in-None-clause-says
returns-in-None-clause-says c =
    let i = c.self.inside in
    lost-says i.types i.states c.args.self.now.context.states c.args.state.now.at c.args.state.now.name c.find.result (ap (λ (k : Known). k.context.states) c.self.view_is) c.find.ensures c.in-None.is
