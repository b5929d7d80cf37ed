use Rattle.pt_disk.proofs.Folders.{reads-image}
use Rattle.pt_disk.proofs.laws.reads_are_an_image.Goals as goal

pub returns : goal.returns
returns c = reads-image
