use Rattle.pt_readings.proofs.SuiteTexts.{one_reading}
use Rattle.pt_readings.proofs.laws.one_reading.Goals as goal

pub returns : goal.returns
returns c = one_reading
