use Rattle.pt_edits.proofs.CrashLemmas.{settled-and-since, settled-and-left}
use Rattle.pt_edits.proofs.laws.a_crash_leaves_first_edits.Goals as goal

pub returns-clause-since : goal.returns-clause-since
returns-clause-since c = settled-and-since

pub returns-clause-at_the_end : goal.returns-clause-at_the_end
returns-clause-at_the_end c = settled-and-left
