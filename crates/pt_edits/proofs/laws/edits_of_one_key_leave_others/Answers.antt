use Rattle.pt_edits.proofs.UnderLemmas.{edits-under, same-elsewhere}
use Rattle.pt_edits.proofs.laws.edits_of_one_key_leave_others.Goals as goal

pub returns-clause-of_one_key : goal.returns-clause-of_one_key
returns-clause-of_one_key c = edits-under

pub returns-clause-others : goal.returns-clause-others
returns-clause-others c = same-elsewhere
