use Rattle.std.proofs.Common.{◌≡◌, sym, ◌∙◌, ap, rules}
use Rattle.std.specs.Prelude.{◌==◌, not}
use Rattle.std.specs.Cmp.Lexicographic.{pointwise}
use Rattle.std.specs.List.{list_any}
use Rattle.pt_check.proofs.Lookups.{any-named, not-not}
use Rattle.pt_check.proofs.seen.Seen.add.Goals as goal

pub returns-clause-tells : goal.returns-clause-tells
returns-clause-tells c =
    let keys = c.self.inside.names.keys in
    let name = c.args.name.now in
    let any = list_any (λ other. pointwise ◌==◌ name other.now) keys in
    let told : c.in_ok-is_new.is_new ≡ not any = search rules in
    ap (list_any (pointwise ◌==◌ name)) (sym c.self.view_is) ∙ sym (any-named name keys) ∙ sym (not-not any) ∙ ap not (sym told)
