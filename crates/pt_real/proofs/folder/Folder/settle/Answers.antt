use Rattle.std.proofs.Common.{rules}
use Rattle.pt_real.proofs.folder.Folder.settle.Goals as goal

-- what was asked before it was given back
pub returns-clause-given_back : goal.returns-clause-given_back
returns-clause-given_back g c = (g.S.FileSystem.asked c.sync_names-settled.new.self.system, search rules)
