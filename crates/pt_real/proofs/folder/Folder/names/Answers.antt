use Rattle.std.proofs.Common.{rules}
use Rattle.pt_real.proofs.folder.Folder.names.Goals as goal

-- what the machine listed
pub returns-clause-asked : goal.returns-clause-asked
returns-clause-asked g c = (c.as_slice.result.now, search rules, c.in_ok-in_order.ensures.same)
