use Rattle.pt_wire.proofs.StoredLists.{one_version}
use Rattle.pt_wire.proofs.laws.one_version.Goals as goal

pub returns : goal.returns
returns c = one_version
