use Rattle.std.proofs.Common.{[], ◌∷◌, ◌++◌, ◌∙◌, sym, ap, subst}
use Rattle.std.specs.List.{Contains}
use Rattle.indexmap.proofs.CallerLemmas.{insert_entry-new}
use Rattle.pt_choice.specs.Same.{same_choices}
use Rattle.pt_found.specs.Trail.{lists_of}
use Rattle.pt_found.specs.Tried.{tried_in}
use Rattle.pt_found.proofs.TableLemmas.{untried-absent, tried-push}
use Rattle.pt_found.proofs.trail.Trail.add.Goals as goal

pub returns-clause-ok : goal.returns-clause-ok
returns-clause-ok c =
    let table = c.self.inside.table in
    let untried = subst (λ trail. ¬ Contains (lists_of trail) c.args.list) (sym c.self.view_is) c.requires in
    let absent = untried-absent c.args.list table.entries untried in
    ap (λ pairs. tried_in pairs) (c.in_ok-insert.ensures.entries ∙ insert_entry-new same_choices table c.args.list c.args.accepted absent)
    ∙ tried-push table.entries c.args.list c.args.accepted
    ∙ ap (λ trail. trail ++ record { list = c.args.list; accepted = c.args.accepted } ∷ []) c.self.view_is
