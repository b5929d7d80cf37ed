use Rattle.pt_readings.proofs.Bounded.{keeps_bounds}
use Rattle.pt_readings.proofs.Numbered.{numbers}
use Rattle.pt_readings.proofs.laws.suites_keep_bounds.Goals as goal

pub returns-clause-bounded : goal.returns-clause-bounded
returns-clause-bounded c = keeps_bounds

pub returns-clause-numbered : goal.returns-clause-numbered
returns-clause-numbered c = numbers
