use Rattle.std.proofs.Common.{◌∙◌}
use Rattle.pt_made.proofs.Decimals.{p-name}
use Rattle.pt_made.proofs.lines.property.Goals as goal

pub named-requires : goal.named-requires
named-requires c = rw (c.as_bytes.ensures.value ∙ c.in_ok-text.ensures.ok) (p-name c.args.k c.requires)
