use Rattle.pt_disk.proofs.Settling.{settle-image}
use Rattle.pt_disk.proofs.laws.a_settle_adds_no_image.Goals as goal

pub returns : goal.returns
returns c = settle-image
