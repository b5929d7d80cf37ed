use Rattle.pt_edits.proofs.SoundLemmas.{nothing-invented}
use Rattle.pt_edits.proofs.laws.nothing_is_invented.Goals as goal

pub returns : goal.returns
returns c = λ digest fails readings verdict edits old new are (made, left, parts, edited).
    nothing-invented digest fails verdict readings edits made left are parts old new edited
