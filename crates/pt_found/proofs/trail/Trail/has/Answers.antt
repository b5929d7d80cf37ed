use Rattle.std.proofs.Common.{◌∙◌, sym, subst, IsTrue}
use Rattle.std.specs.List.{Contains}
use Rattle.pt_found.specs.Trail.{lists_of}
use Rattle.pt_found.proofs.TableLemmas.{found-tried, tried-found}
use Rattle.pt_found.proofs.trail.Trail.has.Goals as goal

pub returns : goal.returns
returns c =
    let pairs = c.self.inside.table.entries in
    subst (λ trail. (IsTrue c.contains_key.result → Contains (lists_of trail) c.args.list.now) × (Contains (lists_of trail) c.args.list.now → IsTrue c.contains_key.result))
    c.self.view_is
    (λ yes_. found-tried c.args.list.now pairs (sym c.contains_key.ensures ∙ yes_), λ among. c.contains_key.ensures ∙ tried-found c.args.list.now pairs among)
