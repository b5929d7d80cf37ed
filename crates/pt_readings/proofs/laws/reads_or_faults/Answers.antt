use Rattle.pt_readings.proofs.SuiteTexts.{reads_or_faults, not_both}
use Rattle.pt_readings.proofs.laws.reads_or_faults.Goals as goal

pub returns-clause-some : goal.returns-clause-some
returns-clause-some c = reads_or_faults

pub returns-clause-not_both : goal.returns-clause-not_both
returns-clause-not_both c = not_both
