use Rattle.std.proofs.Common.{sym, ap, ◌∙◌}
use Rattle.pt_ast.specs.Names.{with_name}
use Rattle.pt_check.specs.Known.{Known, top, with_scope, with_states}
use Rattle.pt_check.specs.Numbers.{scope_of}
use Rattle.pt_check.proofs.Lookups.{free-lookup, named-scope}
use Rattle.pt_check.proofs.Views.{seen, popped-is, released-is}
use Rattle.pt_check.proofs.checker.Checker.declare.Goals as goal

pub enter-requires : goal.enter-requires
enter-requires c =
    let i = c.self.inside in
    free-lookup i.types i.scope c.args.self.now.scope c.args.given.now.name (ap (λ (k : Known). k.scope) c.self.view_is) c.requires.scope

pub enter-requires-2 : goal.enter-requires-2
enter-requires-2 c =
    let i = c.self.inside in
    free-lookup i.types i.states c.args.self.now.context.states c.args.given.now.name (ap (λ (k : Known). k.context.states) c.self.view_is) c.requires.states

pub returns : goal.returns
returns c =
    let i = c.self.inside in
    let old = c.args.self.now in
    let given = c.args.given.now in
    let rest = c.pop-number.new.self in
    let found = popped-is i old c.self.view_is c.pop-number.result c.self.invariant.from_base c.pop-number.ensures.newest in
    let scope = named-scope i.types i.scope c.enter.new.self old.scope given c.pop-number.result (top old) (ap (λ (k : Known). k.scope) c.self.view_is) c.in_ok-enter.ensures.ok (sym found) in
    let states = named-scope i.types i.states c.enter-2.new.self old.context.states given c.pop-number.result (top old) (ap (λ (k : Known). k.context.states) c.self.view_is)
    c.in_ok-enter-2.ensures.ok (sym found) in
    ap (λ s. with_states (with_scope (seen i rest) s) (scope_of i.types c.enter-2.new.self)) scope
    ∙ ap (with_states (with_scope (seen i rest) (with_name old.scope given (top old)))) states
    ∙ ap (λ k. with_states (with_scope k (with_name old.scope given (top old))) (with_name old.context.states given (top old))) (released-is i old c.self.view_is rest c.pop-number.ensures.rest)
