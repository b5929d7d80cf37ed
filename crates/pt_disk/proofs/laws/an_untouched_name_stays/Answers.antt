use Rattle.pt_disk.proofs.Untouched.{untouched-image}
use Rattle.pt_disk.proofs.laws.an_untouched_name_stays.Goals as goal

pub returns : goal.returns
returns c = untouched-image
