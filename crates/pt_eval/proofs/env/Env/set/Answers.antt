use Rattle.std.proofs.Common.{◌≡◌, ◌<◌, suc, ◌-◌, ◌++◌, true, false, length, take, drop, get_or, set, sym, ◌∙◌, ap, arith}
use Rattle.std.proofs.lemmas.Option.{slice_get-get_or}
use Rattle.pt_ast.specs.declared.binding.Binding.{Binding}
use Rattle.pt_eval.specs.Env.{with_value}
use Rattle.pt_eval.proofs.EnvLemmas.{bears, set-here, set-past}
use Rattle.pt_eval.proofs.env.Env.set.Goals as goal

pub returns-then-eq : goal.returns-then-eq
returns-then-eq c =
    let so = c.loop-place.invariant in
    let env = c.args.self.now in
    let items = c.loop-place.self-inside.items.items in
    let place = c.loop-place.place - 1 in
    let one = c.index_mut.result.now in
    let name = c.args.name.now in
    let val = c.args.val in
    let within : place < length env = omega arith in
    let within_items : place < length items = omega (arith, ap length so.1) in
    let read = slice_get-get_or items place c.index.result.now within_items in
    let written = slice_get-get_or items place one within_items in
    let both : c.index.result.now ≡ one = cc in
    let is : one ≡ get_or env place one = c.index_mut.ensures.value ∙ ap (λ bs. get_or bs place one) so.1 in
    let same : bears name one ≡ true = ap (bears name) (sym both) ∙ sym c.if-eq.ensures in
    let next : suc place ≡ c.loop-place.place = omega arith in
    ap (λ bs. set bs place (record { name = one.name; val = val })) so.1
    ∙ set-here name val env place one within is same
    ∙ ap (λ n. with_value name val (take n env) ++ drop n env) next ∙ sym so.2

pub loop-place-preserved : goal.loop-place-preserved
loop-place-preserved c =
    let so = c.loop-place.invariant in
    let env = c.args.self.now in
    let place = c.loop-place.place - 1 in
    let one = c.index.result.now in
    let name = c.args.name.now in
    let val = c.args.val in
    let within : place < length env = omega arith in
    let is : one ≡ get_or env place one = c.index.ensures ∙ ap (λ bs. get_or bs place one) so.1 in
    let other : bears name one ≡ false = sym c.if-eq.ensures in
    let next : suc place ≡ c.loop-place.place = omega arith in
    (omega arith, so.1, so.2 ∙ ap (λ n. with_value name val (take n env) ++ drop n env) (sym next) ∙ set-past name val env place one within is other)
