use Rattle.pt_made.proofs.Sound.{made_sound}
use Rattle.pt_made.proofs.laws.made_suites_are_sound.Goals as goal

pub returns : goal.returns
returns c seed count known few = made_sound seed count known few
