use Rattle.pt_wire.proofs.OneSpelling.{stored_spelling, old_spelling, printed_spelling}
use Rattle.pt_wire.proofs.laws.one_spelling.Goals as goal

pub returns-clause-stored : goal.returns-clause-stored
returns-clause-stored c = stored_spelling

pub returns-clause-old : goal.returns-clause-old
returns-clause-old c = old_spelling

pub returns-clause-printed : goal.returns-clause-printed
returns-clause-printed c = printed_spelling
