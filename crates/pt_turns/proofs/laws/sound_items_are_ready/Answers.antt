use Rattle.pt_turns.proofs.ReadyLemmas.{all-ready}
use Rattle.pt_turns.proofs.laws.sound_items_are_ready.Goals as goal

pub returns : goal.returns
returns c = λ known suite bounded typed.
    all-ready known suite.items bounded.items (c.typed_items_are_handed_in.ensures known suite typed)
