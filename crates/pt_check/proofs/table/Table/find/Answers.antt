use Rattle.std.proofs.Common.{◌≡◌, ap, ◌∙◌, rules}
use Rattle.std.specs.Prelude.{◌==◌}
use Rattle.std.specs.Cmp.Lexicographic.{pointwise}
use Rattle.std_collections.specs.Map.{lookup}
use Rattle.pt_check.proofs.Lookups.{named-lookup}
use Rattle.pt_check.proofs.table.Table.find.Goals as goal

pub returns : goal.returns
returns c =
    let here : c.copied.result ≡ lookup (λ key. pointwise ◌==◌ c.args.name.now key.now) c.self.inside.numbers.entries = search rules in
    here ∙ named-lookup c.args.name.now c.self.inside.numbers.entries ∙ ap (lookup (pointwise ◌==◌ c.args.name.now)) c.self.view_is
