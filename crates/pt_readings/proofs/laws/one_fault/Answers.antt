use Rattle.pt_readings.proofs.SuiteTexts.{one_fault}
use Rattle.pt_readings.proofs.laws.one_fault.Goals as goal

pub returns : goal.returns
returns c = one_fault
