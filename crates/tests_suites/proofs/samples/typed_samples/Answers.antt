use Rattle.tests_suites.proofs.SampleTypes.{typed}
use Rattle.tests_suites.proofs.samples.typed_samples.Goals as goal

pub returns : goal.returns
returns c = typed
