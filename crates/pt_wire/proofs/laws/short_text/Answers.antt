use Rattle.pt_wire.proofs.PrintedLengths.{length-printed}
use Rattle.pt_wire.proofs.laws.short_text.Goals as goal

pub returns : goal.returns
returns c = length-printed
