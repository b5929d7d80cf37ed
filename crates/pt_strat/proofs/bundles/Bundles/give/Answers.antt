use Rattle.std.proofs.Common.{◌≡◌, sym, ◌∙◌, ap, rules}
use Rattle.pt_strat.specs.Bundles.{place_of, given_to}
use Rattle.pt_strat.proofs.BundleLemmas.{given-at, given-none}
use Rattle.pt_strat.proofs.bundles.Bundles.give.Goals as goal

pub returns-in_ok-put-clause-ok : goal.returns-in_ok-put-clause-ok
returns-in_ok-put-clause-ok c =
    let place : c.place_of-place.result ≡ place_of c.args.name.now c.self.inside.items.items = search rules in
    rw (c.in_ok-put.ensures.ok, place) (given-at c.args.name.now c.args.value c.self.inside.items.items c.index_mut.result.now (search rules) (search rules)
    ∙ ap (given_to c.args.name.now c.args.value) c.self.view_is)

pub returns-else-place-len-clause-ok : goal.returns-else-place-len-clause-ok
returns-else-place-len-clause-ok c = sym (given-none c.args.name.now c.args.value c.args.self.now (search rules))
