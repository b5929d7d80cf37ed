use Rattle.std.proofs.Common.{ap, ◌∙◌, take}
use Rattle.pt_check.specs.Tables.{named}
use Rattle.pt_check.proofs.Lookups.{named-cut}
use Rattle.pt_check.proofs.table.Table.cut.Goals as goal

pub returns : goal.returns
returns c = ap named c.truncate.ensures.entries ∙ named-cut c.args.len c.self.inside.numbers.entries ∙ ap (take c.args.len) c.self.view_is
