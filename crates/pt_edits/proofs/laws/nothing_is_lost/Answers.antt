use Rattle.pt_edits.proofs.SoundLemmas.{nothing-lost}
use Rattle.pt_edits.proofs.laws.nothing_is_lost.Goals as goal

pub returns : goal.returns
returns c = λ digest fails readings verdict edits old new spelled are (made, left, parts, edited).
    nothing-lost digest fails verdict readings edits made left are parts old new edited spelled
