use Rattle.pt_edits.proofs.SoundLemmas.{shown-stored}
use Rattle.pt_edits.proofs.laws.a_shown_failure_is_stored.Goals as goal

pub returns : goal.returns
returns c = shown-stored
