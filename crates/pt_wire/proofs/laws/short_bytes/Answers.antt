use Rattle.pt_wire.proofs.StoredLengths.{length-stored}
use Rattle.pt_wire.proofs.laws.short_bytes.Goals as goal

pub returns : goal.returns
returns c = length-stored
