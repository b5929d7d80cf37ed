use Rattle.std.proofs.Common.{◌≡◌, ℕ, List, Option, Some, None, ◌++◌, sym, ◌∙◌, ap, rules}
use Rattle.std.specs.Option.{option_or}
use Rattle.pt_val.specs.declared.val.Val.{Val}
use Rattle.pt_ast.specs.declared.binding.Binding.{Binding}
use Rattle.pt_eval.specs.Env.{value_in}
use Rattle.pt_eval.specs.Parts.{or_zero}
use Rattle.pt_eval.proofs.EnvLemmas.{value-append}
use Rattle.pt_eval.proofs.walking.look_up.Goals as goal

-- a name among the locals, among those before them, and among neither
found : (name : List ℕ) (env locals : List Binding) (inner outer : Option Val) → value_in name locals ≡ inner → value_in name env ≡ outer →
    or_zero (option_or inner outer) ≡ or_zero (value_in name (env ++ locals))
found name env locals inner outer is_inner is_outer =
    sym (ap or_zero (value-append name env locals ∙ ap (λ o. option_or o (value_in name env)) is_inner ∙ ap (option_or inner) is_outer))

pub returns-in-Some : goal.returns-in-Some
returns-in-Some c =
    let here : value_in c.args.name.now c.args.locals.now ≡ Some c.in-Some.val.now = search rules in
    c.in_ok-copy.ensures ∙ found c.args.name.now c.args.env.now c.args.locals.now (Some c.in-Some.val.now) _ here (λ i. value_in c.args.name.now c.args.env.now)

pub returns-in-Some-newest : goal.returns-in-Some-newest
returns-in-Some-newest c =
    let none : value_in c.args.name.now c.args.locals.now ≡ None = search rules in
    let here : value_in c.args.name.now c.args.env.now ≡ Some c.in-Some-newest.val.now = search rules in
    found c.args.name.now c.args.env.now c.args.locals.now None (Some c.in-Some-newest.val.now) none here

pub returns-in-None : goal.returns-in-None
returns-in-None c =
    let none : value_in c.args.name.now c.args.locals.now ≡ None = search rules in
    let nowhere : value_in c.args.name.now c.args.env.now ≡ None = search rules in
    found c.args.name.now c.args.env.now c.args.locals.now None None none nowhere
